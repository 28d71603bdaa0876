-- Link by link.
use Rattle.std.proofs.Common.{sym, refl, ◌∙◌, arith}
use Rattle.theory_min_label.specs.HandLaws.{links_end}
use Rattle.one_way.proofs.Links.{ends_later, swept_later}
use Rattle.one_way.proofs.labels.sweep.Goals as goal

pub loop-link-preserved : goal.loop-link-preserved
loop-link-preserved c =
    let s = c.in-Some.ensures.steps in
    let e = s.1.1 ∙ c.loop-link.invariant.0 in (
      s.0 ∙ c.loop-link.invariant.0,
      ends_later _ _ _ s.1.0 e 256 c.loop-link.invariant.1,
      c.loop-link.invariant.2
          ∙ swept_later _ _ _ s.1.0 e c.args.forward c.args.key.now c.loop-link.x ∙ rw c.hand.ensures refl,
    )

pub returns : goal.returns
returns c =
    sym
    (c.loop-link.invariant.2
    ∙ (links_end c.args.forward c.args.key.now _ c.loop-link.x 0
    (omega (arith, c.in-None.ensures.steps.1.0, c.loop-link.invariant.0))).0)
