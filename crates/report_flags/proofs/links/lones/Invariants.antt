-- One flag more at a time.
use Rattle.std.proofs.Common.{◌≡◌, ◌≤◌, length}
use Rattle.spec_rules.specs.Labels.{lone}
use Rattle.report_flags.specs.Flags.{flag_table}
use Rattle.report_flags.proofs.links.lones.Given as goal

abbrev pub invariant-loop-j : goal.invariant-loop-j
invariant-loop-j l =
    (l.j ≤ l.links) × (length l.table ≡ 1024) × (l.table ≡ flag_table 1024 l.j (lone l.links l.label))
