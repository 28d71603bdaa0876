-- One word after the other.
use mathlib.Core.Path.{◌≡◌}
use Prim.Native.Nat.{◌+◌, ◌≤◌}
use lib.ListN.{length, drop}
use lib.Seq.{sets}
use Rattle.value_player.proofs.replies.put_eight.Given as goal

-- what is still to be stored makes the whole
abbrev pub invariant-loop-k : goal.invariant-loop-k
invariant-loop-k l =
    (l.k ≤ 8) × (length l.replies ≡ length l.initial.replies)
    × (sets l.initial.replies l.at l.words ≡ sets l.replies (l.at + l.k) (drop l.k l.words))
