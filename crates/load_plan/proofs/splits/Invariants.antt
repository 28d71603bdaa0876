-- Link by link.
use mathlib.Core.Path.{◌≡◌}
use Prim.Native.Nat.{◌≤◌, ◌-◌}
use Rattle.base_lists.specs.Folds.{some}
use Rattle.load_plan.specs.Unfit.{tops_differ}
use Rattle.load_plan.proofs.splits.Given as goal

abbrev pub invariant-loop-j : goal.invariant-loop-j
invariant-loop-j l = (l.j ≤ l.links) × (l.apart ≡ some l.j (tops_differ l.table l.tops))

abbrev pub decreases-loop-j : goal.decreases-loop-j
decreases-loop-j l = l.links - l.j
