-- The words passed are laid down as levels, and the rest is as it was.
use mathlib.Core.Path.{◌≡◌}
use mathlib.Core.List.{◌++◌}
use Prim.Native.Nat.{◌≤◌}
use lib.ListN.{length, drop}
use Rattle.table_levels.specs.Level.{from_words}
use Rattle.base_copies.specs.Parts.{part}
use Rattle.base_copies.proofs.levels_inside.Given as goal

abbrev pub invariant-loop-i : goal.invariant-loop-i
invariant-loop-i l =
    (l.i ≤ length l.initial.to) × (length l.to ≡ length l.initial.to)
    × (l.to ≡ from_words (part l.at l.i l.words) ++ drop l.i l.initial.to)
