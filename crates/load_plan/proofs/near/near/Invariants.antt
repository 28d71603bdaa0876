-- Link by link, from no marks.
use Prim.Native.Nat.{◌≤◌, ◌-◌}
use Rattle.load_plan.specs.Marks.{MarksAt}
use Rattle.load_plan.proofs.near.near.Given as goal

abbrev pub invariant-loop-j : goal.invariant-loop-j
invariant-loop-j l = (l.j ≤ l.links) × MarksAt l.table l.parents l.j l.near

abbrev pub decreases-loop-j : goal.decreases-loop-j
decreases-loop-j l = l.links - l.j
