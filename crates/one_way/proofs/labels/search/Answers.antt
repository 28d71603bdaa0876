-- Unit after unit.
use Rattle.std.proofs.Common.{refl, rules}
use Rattle.theory_min_label.specs.MinLabelLaws.{Hears}
use Rattle.theory_min_label.specs.Hands.{Live}
use Rattle.theory_min_label.specs.HandLaws.{spread_refl, spread_trans}
use Rattle.one_way.proofs.labels.search.Goals as goal

pub loop-unit-init : goal.loop-unit-init
loop-unit-init c = (
  refl,
  spread_refl (Hears c.args.forward (Live c.args.links.now c.args.key.now)) c.args.x.now,
)

pub loop-unit-preserved : goal.loop-unit-preserved
loop-unit-preserved c = (
  search rules,
  spread_trans (Hears c.args.forward (Live c.args.links.now c.args.key.now)) c.args.x.now
      c.loop-unit.x _ c.loop-unit.invariant.1 c.flood.ensures,
)
