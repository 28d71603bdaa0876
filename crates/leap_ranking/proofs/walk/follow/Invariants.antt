-- Along a list, at most so far as there are objects.
use Rattle.std.proofs.Common.{◌<◌}
use Rattle.leap_ranking.proofs.walk.follow.Given as goal

abbrev pub invariant-loop : goal.invariant-loop
invariant-loop l = l.a < 512
