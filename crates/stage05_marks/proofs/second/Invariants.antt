-- Unit by unit, both arcs.
use mathlib.Core.Path.{◌≡◌}
use Prim.Native.Nat.{◌*◌, ◌≤◌}
use Rattle.base_lists.specs.Tables.{over}
use Rattle.spec_rules.specs.Basics.{at}
use Rattle.spec_rules.specs.Order.{second_sum}
use Rattle.stage05_marks.proofs.second.Given as goal

abbrev pub invariant-loop-v : goal.invariant-loop-v
invariant-loop-v l =
    (l.v ≤ l.units)
    × (l.jump ≡ over (2 * l.v) (at l.pred) l.initial.jump)
    × (l.sum ≡ over (2 * l.v) (second_sum l.parent l.forward) l.initial.sum)
