-- The seats passed are told.
use Rattle.std.proofs.Common.{◌≡◌, ℕ, ◌<◌, false, List, [], length, get_or}
use Rattle.words_layout.specs.Layout.{state_of}
use Rattle.spec_channel.specs.Office.{waiting}
use Rattle.words_seat_tests.proofs.flags.Given as goal

abbrev pub invariant-loop-i : goal.invariant-loop-i
invariant-loop-i l =
    (length l.waits ≡ 8) × ((k : ℕ) → k < l.i → get_or l.waits k false ≡ waiting (state_of (get_or l.seats k [])))
