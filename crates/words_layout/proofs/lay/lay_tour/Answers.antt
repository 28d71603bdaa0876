-- The fields of the group, laid one after the other.
use mathlib.Core.List.{[], ◌∷◌}
use Rattle.words_layout.specs.Layout.{state_of}
use Rattle.words_layout.specs.FieldLaws.{laid_fields}
use borrow.Author.Rules.{rules}
use Rattle.words_layout.proofs.lay.lay_tour.Goals as goal

pub returns : goal.returns
unfolding state_of
returns c =
    laid_fields ((6, _) ∷ (7, _) ∷ []) _ _ c.lay_two.ensures (search rules) (
      (tt, search rules),
      ((tt, search rules), tt),
    )
