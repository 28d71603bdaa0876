-- What the levels passed say, and the test from `i` on, is the test of them all.
use mathlib.Core.Path.{◌≡◌}
use mathlib.Core.Bool.{◌&&◌}
use Prim.Native.Nat.{◌≤◌}
use lib.ListN.{length, drop}
use Rattle.base_lists.specs.Folds.{every}
use Rattle.table_levels.specs.Level.{in_range}
use Rattle.table_levels.proofs.all_in_range.Given as goal

abbrev pub invariant-loop-level : goal.invariant-loop-level
invariant-loop-level l =
    (l.level-index ≤ length l.levels)
    × (every in_range l.levels ≡ (l.ok && every in_range (drop l.level-index l.levels)))
