-- One link more at a time.
use Rattle.std.proofs.Common.{◌≤◌, true, false}
use Rattle.report_flags.specs.LabelBits.{BitTable}
use Rattle.report_flags.proofs.units.label_tables.Given as goal

abbrev pub invariant-loop-j : goal.invariant-loop-j
invariant-loop-j l =
    (l.j ≤ l.links) × BitTable false l.j l.ends l.label l.low × BitTable true l.j l.ends l.label l.high
