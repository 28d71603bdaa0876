-- Unit by unit.
use mathlib.Core.Path.{◌≡◌}
use Prim.Native.Nat.{ℕ}
use lib.ListN.{get_or}
use lib.Dec.{eqb}
use Rattle.base_lists.specs.Folds.{some}
use Rattle.one_way_tables.proofs.unfinished.Given as goal

abbrev pub invariant-loop-v : goal.invariant-loop-v
invariant-loop-v l = l.any ≡ some l.v (λ (w : ℕ). eqb (get_or l.out w 0) 65535)
