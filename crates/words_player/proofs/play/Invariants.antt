-- One call after the other; what is still to be made makes the whole.
use mathlib.Core.Path.{◌≡◌}
use Prim.Native.Nat.{◌*◌, ◌/◌, ◌^◌, ◌≤◌, ◌<◌}
use lib.ListN.{length}
use Rattle.words_player.specs.PlayLaws.{SoFar}
use Rattle.words_player.proofs.play.Given as goal

abbrev pub invariant-loop-i : goal.invariant-loop-i
invariant-loop-i l =
    (length l.calls * 2 < 2 ^ 63)
    × (l.i ≤ length l.calls / 2)
    × (length l.out ≡ length l.initial.out)
    × SoFar l.calls l.initial.state l.initial.out l.state l.out l.i
