-- Word by word.
use mathlib.Core.Path.{◌≡◌}
use Prim.Native.Nat.{ℕ, ◌≤◌}
use lib.ListN.{length, get_or}
use Rattle.base_lists.specs.Tables.{over}
use Rattle.base_copies.proofs.lay_first.Given as goal

abbrev pub invariant-loop-v : goal.invariant-loop-v
invariant-loop-v l =
    (l.v ≤ l.count) × (length l.words ≡ length l.initial.words)
    × (l.words ≡ over l.v (λ (i : ℕ). get_or l.table i 0) l.initial.words)
