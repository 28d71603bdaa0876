-- Entry by entry.
use Rattle.std.proofs.Common.{◌≡◌, ◌≤◌}
use Rattle.report_lines.specs.Pairs.{pairs_to}
use Rattle.report_lines.proofs.pairs.table.Given as goal

abbrev pub invariant-loop-b : goal.invariant-loop-b
invariant-loop-b l = (l.b ≤ 256) × (l.pairs ≡ pairs_to l.b)
