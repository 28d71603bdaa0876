-- Unit by unit, from the buckets.
use mathlib.Core.Path.{◌≡◌}
use Prim.Native.Nat.{◌≤◌}
use Rattle.base_lists.specs.Tables.{over}
use Rattle.spec_rules.specs.OrderLaws.{descendants_by}
use Rattle.stage05_marks.proofs.descend.Given as goal

abbrev pub invariant-loop-v : goal.invariant-loop-v
invariant-loop-v l =
    (l.v ≤ l.units) × (l.nd ≡ over l.v (descendants_by l.units l.color l.bucket l.absent l.parent l.rank) l.initial.nd)
