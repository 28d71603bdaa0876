-- The fields of the group, laid one after the other.
use mathlib.Core.List.{[], ◌∷◌}
use Rattle.words_layout.specs.Layout.{state_of}
use Rattle.words_layout.specs.FieldLaws.{laid_fields}
use borrow.Author.Rules.{rules}
use Rattle.words_layout.proofs.lay.lay_tree.Goals as goal

pub returns : goal.returns
unfolding state_of
returns c =
    laid_fields ((4, _) ∷ (5, _) ∷ []) _ _ c.lay_two.ensures (search rules) (
      (tt, search rules),
      ((tt, search rules), tt),
    )
