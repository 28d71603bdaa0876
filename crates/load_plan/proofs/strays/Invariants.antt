-- Unit by unit.
use mathlib.Core.Path.{◌≡◌}
use Prim.Native.Nat.{◌≤◌, ◌-◌}
use Rattle.base_lists.specs.Folds.{some}
use Rattle.load_plan.specs.Unfit.{stray}
use Rattle.load_plan.proofs.strays.Given as goal

abbrev pub invariant-loop-v : goal.invariant-loop-v
invariant-loop-v l = (l.v ≤ l.units) × (l.astray ≡ some l.v (stray l.parents l.near l.tops))

abbrev pub decreases-loop-v : goal.decreases-loop-v
decreases-loop-v l = l.units - l.v
