-- All of the levels, or none.
use mathlib.Core.Path.{sym, ◌∙◌}
use Rattle.base_copies.specs.CopyLaws.{levels-whole, levels-out}
use Rattle.base_copies.proofs.copy_levels.Goals as goal

pub returns-then-not-fits : goal.returns-then-not-fits
returns-then-not-fits c = levels-out _ _ _ (sym c.fits.ensures ∙ c.if-not-fits.true)

pub returns : goal.returns
returns c =
    c.levels_inside.ensures ∙ levels-whole _ _ _ (sym c.fits.ensures
    ∙ c.if-not-fits.false)
