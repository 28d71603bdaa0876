-- No more than were looked at.
use Rattle.std.proofs.Common.{◌≤◌}
use Rattle.stage02_leap.proofs.ahead.missing.Given as goal

abbrev pub invariant-loop-v : goal.invariant-loop-v
invariant-loop-v l = (l.count ≤ l.v)
