-- Unit by unit, both arcs.
use mathlib.Core.Path.{◌≡◌}
use Prim.Native.Nat.{◌*◌, ◌≤◌}
use Rattle.base_lists.specs.Tables.{over}
use Rattle.spec_rules.specs.Order.{forward_mark}
use Rattle.stage05_marks.proofs.mark.Given as goal

abbrev pub invariant-loop-v : goal.invariant-loop-v
invariant-loop-v l =
    (l.v ≤ l.units) × (l.forward ≡ over (2 * l.v) (forward_mark l.parent l.rank) l.initial.forward)
