-- The count, then so many.
use mathlib.Core.Path.{refl}
use Rattle.base_streams.specs.Listed.{words_at}
use Rattle.base_streams.proofs.listed.words.Goals as goal

pub next_number-size-requires : goal.next_number-size-requires
next_number-size-requires c = tt

pub words-after-requires : goal.words-after-requires
words-after-requires c = tt

pub returns : goal.returns
unfolding words_at
returns c =
    let n = c.next_number-size.ensures in
    record {
      list = rw (c.words-after.ensures.cursor, n) refl;
      words = rw n at c.words-after.ensures.words;
    }
