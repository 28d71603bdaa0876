-- Two fields.
use mathlib.Core.Path.{refl}
use mathlib.Core.List.{[], ◌∷◌}
use Rattle.words_layout.specs.Layout.{state_of}
use Rattle.words_layout.specs.FieldLaws.{laid_fields}
use Rattle.base_copies.specs.CopyLaws.{laid_in_lem}
use borrow.Author.Rules.{rules}
use Rattle.words_layout.proofs.lay.lay_plan.Goals as goal

pub lay-requires : goal.lay-requires
lay-requires c = tt

pub lay-requires-2 : goal.lay-requires-2
lay-requires-2 c = tt

pub returns : goal.returns
unfolding state_of
returns c =
    laid_fields ((25, _) ∷ (26, _) ∷ []) _ _
    (rw (laid_in_lem _ _ _ c.lay.ensures (search rules)) at
    (laid_in_lem _ _ _ c.lay-2.ensures (search rules))) (search rules) ((tt, search rules), ((tt, refl), tt))
