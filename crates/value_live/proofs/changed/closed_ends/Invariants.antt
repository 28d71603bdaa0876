-- What has moved down so far, and the rest as it was.
use mathlib.Core.Path.{◌≡◌}
use mathlib.Core.List.{◌++◌}
use Prim.Native.Nat.{◌+◌, ◌-◌, ◌≤◌}
use lib.ListN.{length, take, drop}
use Rattle.live_table.specs.Live.{without}
use Rattle.value_live.proofs.changed.closed_ends.Given as goal

abbrev pub invariant-loop-i : goal.invariant-loop-i
invariant-loop-i l =
    (l.at ≤ l.i) × (l.i + 2 ≤ l.count) × (length l.new ≡ 2048) × (length l.ends ≡ 2048)
    × (l.new ≡ take l.i (without l.at 2 l.ends) ++ drop l.i l.ends)

abbrev pub decreases-loop-i : goal.decreases-loop-i
decreases-loop-i l = l.count - l.i
