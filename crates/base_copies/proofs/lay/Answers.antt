-- The whole table, or nothing.
use mathlib.Core.Path.{sym, ◌∙◌}
use borrow.Author.Tests.{leb-true}
use borrow.Author.Rules.{rules}
use Rattle.base_copies.specs.CopyLaws.{laid-whole, laid_out}
use Rattle.base_copies.proofs.lay.Goals as goal

pub returns-then-not-fits : goal.returns-then-not-fits
returns-then-not-fits c = laid_out _ _ _ (sym c.fits.ensures ∙ c.if-not-fits.true)

pub carry-requires : goal.carry-requires
carry-requires c =
    let there = leb-true _ _ (sym c.fits.ensures ∙ c.if-not-fits.false) in
    (search rules, there)

pub returns : goal.returns
returns c = c.carry.ensures ∙ laid-whole _ _ _ (sym c.fits.ensures ∙ c.if-not-fits.false)
