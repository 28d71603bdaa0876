-- One item more at a time.
use Rattle.std.proofs.Common.{◌≡◌, ◌≤◌}
use Rattle.spec_rules.specs.FirstLaws.{first_at}
use Rattle.table_values.proofs.firsts.first_at.Given as goal

abbrev pub invariant-loop-k : goal.invariant-loop-k
invariant-loop-k l = (l.k ≤ l.count) × (l.x ≡ first_at l.k l.key l.q)
