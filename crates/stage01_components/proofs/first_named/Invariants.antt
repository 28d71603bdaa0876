-- Word by word.
use Prim.Native.Nat.{◌≤◌}
use Rattle.stage01_components.proofs.first_named.Given as goal

abbrev pub invariant-loop-x : goal.invariant-loop-x
invariant-loop-x l = l.count ≤ l.x-index
