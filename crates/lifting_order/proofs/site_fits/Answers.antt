-- By the tests in order.
use Rattle.std.proofs.Common.{sym, ◌∙◌, arith}
use borrow.Author.Tests.{leb-true, leb-false}
use Rattle.lifting_order.proofs.WrittenLaws.{site-units, site-ends, site-links}
use Rattle.lifting_order.proofs.site_fits.Goals as goal
use Rattle.lifting_order.proofs.site_fits.Goals.{then-units-le256, else-units-le256}

pub returns-then-links-ends : goal.returns-then-links-ends
returns-then-links-ends c =
    let a = c.args in
    elim c.if-units-le256.branch [
      | then-units-le256 w ↦
          c.links_fit.ensures
          ∙ site-links a.units a.links a.ends.now w.if-units-le256.true
          (leb-true _ _ (sym w.value-is ∙ c.if-links-ends.true))
      | else-units-le256 w ↦ absurd (omega (arith, leb-true a.units 256 (sym w.value-is ∙ c.if-links-ends.true)))
    ]

pub returns-else-links-ends : goal.returns-else-links-ends
returns-else-links-ends c =
    let a = c.args in
    c.if-links-ends.false
    ∙ elim c.if-units-le256.branch [
      | then-units-le256 w ↦
          site-ends a.units a.links a.ends.now w.if-units-le256.true
          (leb-false _ _ (sym w.value-is ∙ c.if-links-ends.false))
      | else-units-le256 w ↦ site-units a.units a.links a.ends.now w.if-units-le256.false
    ]
