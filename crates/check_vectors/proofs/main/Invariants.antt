-- Of the pairs so far at most each differs.
use Rattle.std.proofs.Common.{◌≤◌}
use Rattle.check_vectors.proofs.main.Given as goal

abbrev pub invariant-loop-k : goal.invariant-loop-k
invariant-loop-k l = l.differ ≤ l.k
