-- The proof of what T-07 asks of the lifting order.
use Rattle.std.specs.Prelude.{◌≡◌, refl, false, List, [], ℕ, ◌*◌, ◌≤◌, ◌<◌, eqb, length, get_or}
use Rattle.std.proofs.Common.{sym, ◌∙◌, arith, eqb-true, eq-eqb, ne_eqb}
use Rattle.std.proofs.Math.Decide.{dec_lt}
use Rattle.std.proofs.lemmas.Bool.{not-false}
use Rattle.base_lists.specs.Tests.{not_both}
use Rattle.table.specs.Table.{end_missing}
use Rattle.table.specs.TableCauses.{end_missing-exact}
use Rattle.lifting_order.specs.Lifts.{Lifts}
use Rattle.lifting_order.specs.Order.{Joins, Pair, order_of, no_order}
use Rattle.lifting_order.specs.Building.{lifts_built, each-least}
use Rattle.lifting_order.specs.OrderLaws.{Grown, grown, whole-lifts, lifts-whole, as_many}
use Rattle.lifting_order.specs.LiftingOrder.{LiftingOrder}

-- a pair names units
pair-names : (n : ℕ) (p : List ℕ) → end_missing n p ≡ false → (x y : ℕ) → Pair p x y → x < n
pair-names n p e x y (k, h, a, b) = go (dec_lt x n)
  where
    go : Dec (x < n) → x < n
    go (yes l) = l
    go (no l) =
        let m : n ≤ get_or p (2 * k) 0 = rw a (omega arith) in
        absurd (not_both (end_missing n p) ((end_missing-exact n p).1 (2 * k, omega arith, m)) e)

pub lifting_order : LiftingOrder
unfolding order_of
lifting_order n t p one named =
    record {
      refused = (
        λ e o L. not_both (no_order n t p) e (rw (eq-eqb (length (order_of n t p)) n (found o L)) refl),
        λ none. rw (ne_eqb (length (order_of n t p)) n (λ e. none (order_of n t p) (order e))) refl,
      );
      lifts = λ e. order (eqb-true (length (order_of n t p)) n (not-false (eqb (length (order_of n t p)) n) e));
      each = g.each;
      least =
          λ o L.
          each-least n (Joins t) (Pair p) (order_of n t p) o g.each (lifts_built n (Joins t) (Pair p) o L [] o refl)
          (found o L ∙ sym (as_many n o L.once L.all));
    }
  where
    g : Grown n t p n [] (order_of n t p)
    g = grown n t p n [] tt

    order : length (order_of n t p) ≡ n → Lifts n (Joins t) (Pair p) (order_of n t p)
    order e = whole-lifts n t p (order_of n t p) g one (pair-names n p named) e

    found : (o : List ℕ) → Lifts n (Joins t) (Pair p) o → length (order_of n t p) ≡ n
    found o L = lifts-whole n t p (order_of n t p) g one (pair-names n p named) o L
