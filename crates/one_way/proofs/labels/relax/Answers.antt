-- Whatever links the order names, labels are only handed on.
use Rattle.std.proofs.Common.{◌∙◌, rules}
use Rattle.theory_min_label.specs.MinLabelLaws.{Hears}
use Rattle.theory_min_label.specs.Hands.{Live, Spread}
use Rattle.theory_min_label.specs.HandLaws.{spread_refl, spread_trans, relaxed}
use Rattle.one_way.proofs.labels.relax.Goals as goal

pub loop-k-init : goal.loop-k-init
loop-k-init c = (
  search rules,
  spread_refl (Hears c.args.forward (Live c.args.links.now c.args.key.now)) c.args.x.now,
)

pub loop-k-preserved : goal.loop-k-preserved
loop-k-preserved c =
    let H = Hears c.args.forward (Live c.args.links.now c.args.key.now) in
    let hand : Spread H c.loop-k.x _ =
    relaxed c.args.forward c.args.links.now c.args.key.now c.loop-k.x _ c.position.result
    (search rules) c.requires.1.ends (c.loop-k.auto.x ∙ c.requires.1.labels) c.hand-fell.ensures in (
      c.joined-end.ensures,
      spread_trans H c.args.x.now c.loop-k.x _ c.loop-k.invariant.1 hand,
    )
