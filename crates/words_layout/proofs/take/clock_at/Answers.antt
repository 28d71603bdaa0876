-- The four words of one field.
use mathlib.Core.Path.{refl}
use lib.Dec.{lit<}
use Rattle.words_layout.specs.Layout.{state_of}
use Rattle.words_layout.specs.FieldLaws.{number_in_lem}
use Rattle.words_layout.proofs.take.clock_at.Goals as goal

pub returns : goal.returns
unfolding state_of
returns c =
    let ws = c.args.words.now in
    rw (
      number_in_lem 2050 4 0 ws (lit< tt),
      number_in_lem 2050 4 1 ws (lit< tt),
      number_in_lem 2050 4 2 ws (lit< tt),
      number_in_lem 2050 4 3 ws (lit< tt),
    ) refl
