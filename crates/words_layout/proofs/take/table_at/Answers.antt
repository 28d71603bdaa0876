-- Two words of the first field, and the second.
use mathlib.Core.Path.{refl}
use lib.Dec.{lit<}
use Rattle.words_layout.specs.Layout.{state_of}
use Rattle.words_layout.specs.FieldLaws.{number_in_lem}
use borrow.Author.Rules.{rules}
use Rattle.words_layout.proofs.take.table_at.Goals as goal

pub returns : goal.returns
unfolding state_of
returns c =
    let ws = c.args.words.now in
    rw (
      number_in_lem 0 2 0 ws (lit< tt),
      number_in_lem 0 2 1 ws (lit< tt),
      c.table_at-ends.ensures.0 (search rules),
    ) refl
