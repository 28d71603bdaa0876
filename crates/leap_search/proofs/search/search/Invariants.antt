-- Unit by unit, until all are reached.
use Prim.Native.Nat.{◌≤◌}
use Rattle.leap_search.proofs.search.search.Given as goal

abbrev pub invariant-loop-v : goal.invariant-loop-v
invariant-loop-v l = l.end ≤ 256
