-- Each place of the chain lies below the one before.
use Rattle.std.proofs.Common.{◌≡◌, ◌≤◌, length}
use Rattle.stage02_leap.proofs.ahead.reach.Given as goal

abbrev pub invariant-loop-i : goal.invariant-loop-i
invariant-loop-i l = (l.count ≤ 256) × (length l.far ≡ 256) × (length l.queue ≡ 256)

abbrev pub decreases-loop-i : goal.decreases-loop-i
decreases-loop-i l = l.above
