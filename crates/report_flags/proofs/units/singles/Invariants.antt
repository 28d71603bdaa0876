-- One flag more at a time.
use Rattle.std.proofs.Common.{◌≡◌, ◌≤◌, length}
use Rattle.spec_rules.specs.Labels.{single}
use Rattle.report_flags.specs.Flags.{flag_table}
use Rattle.report_flags.proofs.units.singles.Given as goal

abbrev pub invariant-loop-u : goal.invariant-loop-u
invariant-loop-u l =
    (l.u ≤ l.units) × (length l.table ≡ 256) × (l.table ≡ flag_table 256 l.u (single l.links l.ends l.label))
