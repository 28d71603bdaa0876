-- The levels passed are laid down, and the rest is as it was.
use mathlib.Core.Path.{◌≡◌}
use mathlib.Core.List.{◌++◌}
use Prim.Native.Nat.{◌≤◌}
use lib.ListN.{length, take, drop}
use Rattle.load_begin.proofs.levels_in.Given as goal

abbrev pub invariant-loop-i : goal.invariant-loop-i
invariant-loop-i l =
    (l.i ≤ length l.levels) × (length l.heard ≡ length l.initial.heard)
    × (l.heard ≡ take l.i l.levels ++ drop l.i l.initial.heard)
