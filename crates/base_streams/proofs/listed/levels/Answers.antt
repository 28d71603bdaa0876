-- The count, then so many.
use mathlib.Core.Path.{refl}
use Rattle.base_streams.specs.Listed.{levels_at}
use Rattle.base_streams.proofs.listed.levels.Goals as goal

pub next_number-size-requires : goal.next_number-size-requires
next_number-size-requires c = tt

pub levels-after-requires : goal.levels-after-requires
levels-after-requires c = tt

pub returns : goal.returns
unfolding levels_at
returns c =
    let n = c.next_number-size.ensures in
    record {
      list = rw (c.levels-after.ensures.cursor, n) refl;
      levels = rw n at c.levels-after.ensures.levels;
    }
