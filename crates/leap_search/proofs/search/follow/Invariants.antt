-- Along the queue.
use Prim.Native.Nat.{◌≤◌, ◌-◌}
use Rattle.leap_search.proofs.search.follow.Given as goal

abbrev pub invariant-loop-k : goal.invariant-loop-k
invariant-loop-k l = l.end ≤ 256

abbrev pub decreases-loop-k : goal.decreases-loop-k
decreases-loop-k l = 256 - l.k
