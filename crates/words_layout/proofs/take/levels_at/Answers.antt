-- The last field.
use mathlib.Core.Path.{refl}
use Rattle.words_layout.specs.Layout.{state_of}
use borrow.Author.Rules.{rules}
use Rattle.words_layout.proofs.take.levels_at.Goals as goal

pub levels_at-requires : goal.levels_at-requires
levels_at-requires c = tt

pub returns : goal.returns
unfolding state_of
returns c = rw (c.levels_at.ensures.0 (search rules)) refl
