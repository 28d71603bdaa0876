-- The links passed, and the search in those left.
use Rattle.std.proofs.Common.{◌≡◌, ◌+◌, ◌/◌, length}
use Rattle.std.specs.Iterator.Adapters.{enumerate_source, enumerate_count}
use Rattle.std.specs.Slice.Iter.{chunks_exact_rest, chunks_exact_size}
use Rattle.live_table.specs.Live.{place_of}
use Rattle.live_table.proofs.place_of.Given as goal

abbrev pub invariant-loop-j : goal.invariant-loop-j
invariant-loop-j l =
    let left = enumerate_source l.j-iterator in
    let passed = enumerate_count l.j-iterator in
    (chunks_exact_size left ≡ 2)
    × (place_of l.a l.b l.words ≡ passed + place_of l.a l.b (chunks_exact_rest left))
    × (length l.words / 2 ≡ passed + length (chunks_exact_rest left) / 2)
