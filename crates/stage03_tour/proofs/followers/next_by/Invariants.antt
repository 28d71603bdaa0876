-- Unit by unit, from the tables.
use mathlib.Core.Path.{◌≡◌}
use Prim.Native.Nat.{◌*◌, ◌≤◌}
use lib.ListN.{length}
use Rattle.base_lists.specs.Tables.{over}
use Rattle.spec_rules.specs.TourLaws.{stored_next}
use Rattle.stage03_tour.proofs.followers.next_by.Given as goal

abbrev pub invariant-loop-v : goal.invariant-loop-v
invariant-loop-v l =
    (l.v ≤ l.units) × (length l.new ≡ 512) × (l.new ≡ over (2 * l.v) (stored_next l.units l.parent) l.initial.new)
