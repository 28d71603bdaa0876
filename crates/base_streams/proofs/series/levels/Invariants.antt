-- Entry by entry.
use mathlib.Core.Path.{◌≡◌}
use Prim.Native.Nat.{◌-◌, ◌≤◌}
use Rattle.base_lists.specs.Tables.{over}
use Rattle.base_streams.specs.Series.{after_levels, level_from}
use Rattle.base_streams.proofs.series.levels.Given as goal

abbrev pub invariant-loop-i : goal.invariant-loop-i
invariant-loop-i l =
    (l.i ≤ l.count) × (l.c ≡ after_levels l.i l.stream l.initial.c)
    × (l.levels ≡ over l.i (level_from l.stream l.initial.c) l.initial.levels)
