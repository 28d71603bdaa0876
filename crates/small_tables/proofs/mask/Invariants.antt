-- One unit after another.
use mathlib.Core.Path.{◌≡◌}
use mathlib.Core.Bool.{false, cond}
use Prim.Native.Nat.{ℕ, ◌^◌, ◌≤◌, ◌<◌}
use lib.ListN.{get_or}
use Rattle.base_lists.specs.Folds.{sum}
use Rattle.small_tables.proofs.mask.Given as goal

abbrev pub invariant-loop-single : goal.invariant-loop-single
invariant-loop-single l =
    (l.single-index ≤ 5) × (l.bit ≡ 2 ^ l.single-index) × (l.set < l.bit) × (l.bit ≤ 32)
    × (l.set ≡ sum l.single-index (λ (k : ℕ). cond (get_or l.fn.singles k false) (2 ^ k) 0))
