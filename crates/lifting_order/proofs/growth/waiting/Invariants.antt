-- Pair by pair, from none.
use mathlib.Core.Path.{◌≡◌}
use Prim.Native.Nat.{ℕ, ◌<◌}
use lib.ListN.{length, get_or}
use lib.Dec.{eqb}
use Rattle.base_lists.specs.Folds.{count}
use Rattle.table.specs.Table.{end_a}
use Rattle.lifting_order.proofs.growth.waiting.Given as goal

abbrev pub invariant-loop-k : goal.invariant-loop-k
invariant-loop-k l =
    (length l.wait ≡ 256)
    × ((w : ℕ) → w < 256 → get_or l.wait w 0 ≡ count l.k (λ (j : ℕ). eqb (end_a l.p j) w))
