-- One unit after another.
use mathlib.Core.Path.{◌≡◌}
use Prim.Native.Nat.{◌+◌, ◌-◌, ◌≤◌}
use Rattle.small_tables.specs.SmallLaws.{row_by}
use Rattle.small_tables.proofs.row.Given as goal

abbrev pub invariant-loop-b : goal.invariant-loop-b
invariant-loop-b l =
    (l.b ≤ l.units) × (row_by l.a (l.a + 1) (l.units - (l.a + 1)) l.initial.x ≡ row_by l.a l.b (l.units - l.b) l.x)
