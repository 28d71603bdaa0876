-- All of the words, or none.
use mathlib.Core.Path.{sym, ◌∙◌}
use borrow.Author.Tests.{leb-true}
use borrow.Author.Rules.{rules}
use Rattle.base_copies.specs.CopyLaws.{copied-whole, copied-out}
use Rattle.base_copies.proofs.copy.Goals as goal

pub returns-then-not-fits : goal.returns-then-not-fits
returns-then-not-fits c = copied-out _ _ _ (sym c.fits.ensures ∙ c.if-not-fits.true)

pub carry-requires : goal.carry-requires
carry-requires c =
    let there = leb-true _ _ (sym c.fits.ensures ∙ c.if-not-fits.false) in
    (there, search rules)

pub returns : goal.returns
returns c = c.carry.ensures ∙ copied-whole _ _ _ (sym c.fits.ensures ∙ c.if-not-fits.false)
