-- What has moved down so far, and the rest as it was.
use mathlib.Core.Path.{◌≡◌}
use mathlib.Core.List.{◌++◌}
use Prim.Native.Nat.{◌+◌, ◌-◌, ◌≤◌}
use lib.ListN.{length, take, drop}
use Rattle.live_table.specs.Live.{without}
use Rattle.value_live.proofs.changed.closed_levels.Given as goal

abbrev pub invariant-loop-i : goal.invariant-loop-i
invariant-loop-i l =
    (l.at ≤ l.i) × (l.i + 1 ≤ l.count) × (length l.new ≡ 1024) × (length l.levels ≡ 1024)
    × (l.new ≡ take l.i (without l.at 1 l.levels) ++ drop l.i l.levels)

abbrev pub decreases-loop-i : goal.decreases-loop-i
decreases-loop-i l = l.count - l.i
