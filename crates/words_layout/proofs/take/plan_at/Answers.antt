-- The table, and the one word of the other field.
use mathlib.Core.Path.{refl}
use lib.Dec.{lit<}
use Rattle.words_layout.specs.Layout.{state_of}
use Rattle.words_layout.specs.FieldLaws.{number_in_lem}
use borrow.Author.Rules.{rules}
use Rattle.words_layout.proofs.take.plan_at.Goals as goal

pub returns : goal.returns
unfolding state_of
returns c =
    let ws = c.args.words.now in
    rw (c.table_at-parent.ensures.0 (search rules), number_in_lem 12294 1 0 ws (lit< tt)) refl
