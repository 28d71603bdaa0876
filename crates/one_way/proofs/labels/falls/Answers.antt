-- The links passed and those left are all links.
use Rattle.std.proofs.Common.{Bool, ◌||◌, sym, ap, ◌∙◌, arith}
use mathlib.Core.Bool.{or-false}
use Rattle.theory_min_label.specs.HandLaws.{links_end}
use Rattle.one_way.proofs.Links.{ends_later, falls_later}
use Rattle.one_way.proofs.labels.falls.Goals as goal

pub loop-link-preserved : goal.loop-link-preserved
loop-link-preserved c =
    let s = c.in-Some.ensures.steps in
    let e = s.1.1 ∙ c.loop-link.invariant.0 in (
      s.0 ∙ c.loop-link.invariant.0,
      ends_later _ _ _ s.1.0 e 256 c.loop-link.invariant.1,
      c.loop-link.invariant.2
          ∙ falls_later _ _ _ s.1.0 e c.args.forward c.args.key.now c.args.x.now c.loop-link.any ∙ cc,
    )

pub returns : goal.returns
returns c =
    sym
    (c.loop-link.invariant.2
    ∙ ap (λ (z : Bool). c.loop-link.any || z)
    (links_end c.args.forward c.args.key.now _ c.args.x.now 0
    (omega (arith, c.in-None.ensures.steps.1.0, c.loop-link.invariant.0))).1
    ∙ or-false c.loop-link.any)
