-- Entry by entry.
use mathlib.Core.Path.{◌≡◌}
use Prim.Native.Nat.{ℕ}
use Rattle.base_lists.specs.Tables.{over}
use Rattle.theory_min_label.specs.MinLabel.{NONE}
use Rattle.one_way_tables.proofs.clear.Given as goal

abbrev pub invariant-loop-v : goal.invariant-loop-v
invariant-loop-v l = l.out ≡ over l.v (λ (w : ℕ). NONE) l.initial.out
