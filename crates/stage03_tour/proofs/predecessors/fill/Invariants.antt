-- Item by item, from the last down.
use mathlib.Core.Path.{◌≡◌}
use Prim.Native.Nat.{◌≤◌}
use lib.ListN.{length}
use Rattle.spec_rules.specs.Buckets.{BUCKETS}
use Rattle.stage03_tour.specs.Siblings.{Eldest}
use Rattle.stage03_tour.proofs.predecessors.fill.Given as goal

abbrev pub invariant-loop-k : goal.invariant-loop-k
invariant-loop-k l =
    (l.k ≤ l.count) × (length l.first ≡ 512) × Eldest BUCKETS l.count l.k l.key l.first
