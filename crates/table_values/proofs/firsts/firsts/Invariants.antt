-- Item by item, from empty buckets.
use Rattle.std.proofs.Common.{◌≡◌, ◌≤◌, length}
use Rattle.spec_rules.specs.Buckets.{bucket_table}
use Rattle.spec_rules.specs.FirstLaws.{first_at}
use Rattle.table_values.proofs.firsts.firsts.Given as goal

abbrev pub invariant-loop-k : goal.invariant-loop-k
invariant-loop-k l =
    (l.k ≤ l.count) × (length l.first ≡ 512) × (l.first ≡ bucket_table (first_at l.k l.key) l.initial.first)
