-- The seats passed are known.
use Rattle.std.proofs.Common.{ℕ, ◌<◌, List, [], get_or}
use Rattle.words_known.specs.Known.{StateWords}
use Rattle.words_known.proofs.seats.Given as goal

abbrev pub invariant-loop-i : goal.invariant-loop-i
invariant-loop-i l = (k : ℕ) → k < l.i → StateWords (get_or l.seats k [])
