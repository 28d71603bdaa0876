-- Unit after unit of the queue.
use Rattle.std.proofs.Common.{rules}
use Rattle.theory_min_label.specs.MinLabelLaws.{Hears}
use Rattle.theory_min_label.specs.Hands.{Live}
use Rattle.theory_min_label.specs.HandLaws.{spread_refl, spread_trans}
use Rattle.one_way.proofs.labels.flood.Goals as goal

pub loop-head-init : goal.loop-head-init
loop-head-init c = (
  search rules,
  spread_refl (Hears c.args.forward (Live c.args.links.now c.args.key.now)) c.args.x.now,
)

pub loop-head-preserved : goal.loop-head-preserved
loop-head-preserved c = (
  c.relax-end.ensures.0,
  spread_trans (Hears c.args.forward (Live c.args.links.now c.args.key.now)) c.args.x.now
      c.loop-head.x _ c.loop-head.invariant.1 c.relax-end.ensures.1,
)
