-- What T-07 asks of the lifting order, of any links and any pairs that name units: refused exactly where no order
-- exists; else what is written is one, and read from unit 0 on it is the fixed one, the least of all.
use Rattle.std.specs.Prelude.{◌≡◌, true, false, ◌↔◌, List, ℕ, ◌<◌}
use Rattle.table.specs.Table.{end_missing}
use Rattle.lifting_order.specs.Lifts.{Lifts, LeastEach, NotAfter}
use Rattle.lifting_order.specs.Order.{Joins, Pair, order_of, no_order}

pub record OrderRight (n : ℕ) (t p : List ℕ) : Type 0 where
  pub refused : (no_order n t p ≡ true) ↔ ((o : List ℕ) → Lifts n (Joins t) (Pair p) o → ⊥)
  pub lifts : no_order n t p ≡ false → Lifts n (Joins t) (Pair p) (order_of n t p)
  pub each : LeastEach n (Joins t) (Pair p) (order_of n t p)
  pub least : (o : List ℕ) → Lifts n (Joins t) (Pair p) o → NotAfter (order_of n t p) o

abbrev pub LiftingOrder : Type 0
LiftingOrder = (n : ℕ) (t p : List ℕ) → 0 < n → end_missing n p ≡ false → OrderRight n t p
