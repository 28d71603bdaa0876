-- The words passed are laid down, and the rest is as it was.
use mathlib.Core.Path.{◌≡◌}
use Prim.Native.Nat.{◌≤◌}
use lib.ListN.{length}
use lib.Seq.{paste}
use Rattle.base_copies.specs.Parts.{part}
use Rattle.base_copies.proofs.carry.Given as goal

abbrev pub invariant-loop-i : goal.invariant-loop-i
invariant-loop-i l =
    (l.i ≤ l.count) × (length l.words ≡ length l.initial.words)
    × (l.words ≡ paste l.initial.words l.place (part l.at l.count l.from) l.i)
