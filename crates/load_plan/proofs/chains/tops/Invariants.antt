-- Unit by unit.
use mathlib.Core.Path.{◌≡◌}
use Prim.Native.Nat.{◌≤◌, ◌-◌}
use lib.ListN.{length}
use Rattle.base_lists.specs.Tables.{over}
use Rattle.spec_rules.specs.Planned.{top_of}
use Rattle.load_plan.proofs.chains.tops.Given as goal

abbrev pub invariant-loop-v : goal.invariant-loop-v
invariant-loop-v l =
    (l.v ≤ l.units) × (length l.tops ≡ 256) × (l.tops ≡ over l.v (top_of l.parents l.units) l.initial.tops)

abbrev pub decreases-loop-v : goal.decreases-loop-v
decreases-loop-v l = l.units - l.v
