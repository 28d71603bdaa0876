-- Pair by pair.
use Prim.Native.Nat.{◌*◌}
use Rattle.leap_search.specs.Chains.{Chained}
use Rattle.leap_search.proofs.neighbours.chained.Given as goal

abbrev pub invariant-loop-j : goal.invariant-loop-j
invariant-loop-j l = Chained (2 * l.j) l.first l.next
