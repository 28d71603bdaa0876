-- Entry by entry.
use Rattle.std.proofs.Common.{◌≡◌, ℕ, ◌≤◌, length}
use Rattle.base_lists.specs.Tables.{over}
use Rattle.table_values.proofs.propagation.numbered.Given as goal

abbrev pub invariant-loop-v : goal.invariant-loop-v
invariant-loop-v l =
    (l.v ≤ l.units) × (length l.new ≡ 256) × (l.new ≡ over l.v (λ (i : ℕ). i) l.initial.new)
