-- The ends, then the levels.
use mathlib.Core.Path.{refl}
use Rattle.words_layout.proofs.lay.lay_table.Goals as goal

pub returns : goal.returns
returns c = rw (c.lay_levels.ensures, c.lay_ends.ensures) refl
