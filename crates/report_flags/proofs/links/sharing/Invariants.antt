-- One link more at a time.
use Rattle.std.proofs.Common.{◌≡◌, ◌≤◌}
use Rattle.report_flags.specs.Sharing.{sharing}
use Rattle.report_flags.proofs.links.sharing.Given as goal

abbrev pub invariant-loop-k : goal.invariant-loop-k
invariant-loop-k l = (l.k ≤ l.links) × (l.n ≤ l.k) × (l.n ≡ sharing l.k l.label l.x)
