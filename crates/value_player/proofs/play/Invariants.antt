-- One call after the other; what is still to be played makes the whole.
use mathlib.Core.Path.{◌≡◌}
use Prim.Native.Nat.{◌*◌, ◌/◌, ◌^◌, ◌≤◌, ◌<◌}
use lib.ListN.{length, drop}
use Rattle.survey.specs.View.{of}
use Rattle.value_player.specs.Words.{play_words}
use Rattle.value_player.proofs.play.Given as goal

abbrev pub invariant-loop-i : goal.invariant-loop-i
invariant-loop-i l =
    (length l.calls * 2 < 2 ^ 63)
    × (l.i ≤ length l.calls / 3)
    × (length l.replies ≡ length l.initial.replies)
    × (length l.out ≡ length l.initial.out)
    × (play_words l.calls 0 (of l.initial.s) l.initial.replies l.initial.out
    ≡ play_words (drop (3 * l.i) l.calls) l.i (of l.s) l.replies l.out)
