-- Along a chain, which falls.
use Prim.Native.Nat.{◌*◌, ◌≤◌}
use Rattle.leap_search.proofs.search.reach.Given as goal

abbrev pub invariant-loop-p : goal.invariant-loop-p
invariant-loop-p l = (l.end ≤ 256) × (l.p ≤ 2 * l.pairs)

abbrev pub decreases-loop-p : goal.decreases-loop-p
decreases-loop-p l = l.p
