-- The fields of the group, laid one after the other.
use mathlib.Core.List.{[], ◌∷◌}
use Rattle.words_layout.specs.Layout.{state_of}
use Rattle.words_layout.specs.FieldLaws.{laid_fields}
use borrow.Author.Rules.{rules}
use Rattle.words_layout.proofs.lay.lay_range.Goals as goal

pub returns : goal.returns
unfolding state_of
returns c =
    laid_fields ((13, _) ∷ (14, _) ∷ (15, _) ∷ (16, _) ∷ []) _ _
    (rw c.lay_two.ensures at c.lay_two-2.ensures) (search rules)
    ((tt, search rules), ((tt, search rules), ((tt, search rules), ((tt, search rules), tt))))
