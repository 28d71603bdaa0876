-- Entry by entry.
use Rattle.std.proofs.Common.{rules}
use Rattle.report_lines.specs.Pairs.{pairs-none, pairs-more}
use Rattle.report_lines.proofs.pairs.table.Goals as goal

pub loop-b-init : goal.loop-b-init
loop-b-init c = (search rules, pairs-none)

pub loop-b-preserved : goal.loop-b-preserved
loop-b-preserved c = (
  search rules,
  rw (
    c.loop-b.invariant.1,
    c.pair.ensures,
  ) (pairs-more c.loop-b.b),
)
