-- The fields of the group, laid one after the other.
use mathlib.Core.List.{[], ◌∷◌}
use Rattle.words_layout.specs.Layout.{state_of}
use Rattle.words_layout.specs.FieldLaws.{laid_fields}
use Rattle.base_copies.specs.CopyLaws.{laid_in_lem}
use borrow.Author.Rules.{rules}
use Rattle.words_layout.proofs.lay.lay_components.Goals as goal

pub lay-requires : goal.lay-requires
lay-requires c = tt

pub returns : goal.returns
unfolding state_of
returns c =
    laid_fields ((3, _) ∷ []) _ _ (laid_in_lem _ _ _ c.lay.ensures (search rules)) (search rules)
    ((tt, search rules), tt)
