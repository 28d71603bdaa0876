-- Unit by unit, from the buckets.
use mathlib.Core.Path.{◌≡◌}
use Prim.Native.Nat.{◌*◌, ◌≤◌}
use lib.ListN.{length}
use Rattle.base_lists.specs.Tables.{over}
use Rattle.spec_rules.specs.Tour.{predecessor, first_sum}
use Rattle.stage03_tour.proofs.predecessors.pred_round.Given as goal

abbrev pub invariant-loop-v : goal.invariant-loop-v
invariant-loop-v l =
    (l.v ≤ l.units)
    × (length l.new_pred ≡ 512)
    × (length l.new_jump ≡ 512)
    × (length l.new_sum ≡ 512)
    × (l.new_pred ≡ over (2 * l.v) (predecessor l.units l.parent l.next) l.initial.new_pred)
    × (l.new_jump ≡ over (2 * l.v) (predecessor l.units l.parent l.next) l.initial.new_jump)
    × (l.new_sum ≡ over (2 * l.v) (first_sum l.parent) l.initial.new_sum)
