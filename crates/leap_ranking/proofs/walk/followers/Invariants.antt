-- Object by object.
use Rattle.std.proofs.Common.{◌≤◌}
use Rattle.leap_ranking.proofs.walk.followers.Given as goal

abbrev pub invariant-loop-a : goal.invariant-loop-a
invariant-loop-a l = l.count ≤ l.a
