-- One link more at a time.
use Rattle.std.proofs.Common.{◌≡◌, ◌≤◌}
use Rattle.report_flags.specs.LabelBits.{label_bits}
use Rattle.report_flags.proofs.units.label_bits.Given as goal

abbrev pub invariant-loop-j : goal.invariant-loop-j
invariant-loop-j l = (l.j ≤ l.links) × (l.z ≡ label_bits l.any l.j l.ends l.label l.u)
