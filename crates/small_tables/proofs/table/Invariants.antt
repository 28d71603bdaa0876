-- Row after row.
use mathlib.Core.Path.{◌≡◌}
use Prim.Native.Nat.{◌-◌, ◌≤◌}
use Rattle.small_tables.specs.SmallLaws.{rows_by}
use Rattle.small_tables.proofs.table.Given as goal

abbrev pub invariant-loop-a : goal.invariant-loop-a
invariant-loop-a l = (l.a ≤ l.n) × (rows_by 0 (l.n - 0) l.initial.x ≡ rows_by l.a (l.n - l.a) l.x)
