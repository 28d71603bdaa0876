-- Stage 5's rules at the two arcs of a unit.
use Rattle.std.specs.Prelude.{◌≡◌, not, cond, ◌&&◌, List, ℕ, ◌+◌, ◌*◌, ◌-◌, eqb, ltb}
use Rattle.std.proofs.Common.{arith}
use Rattle.spec_rules.specs.Basics.{at, is_root}
use Rattle.spec_rules.specs.Order.{forward_mark, second_sum}
use Rattle.spec_rules.specs.TourLaws.{unit-into, unit-out, even-into, odd-out}

module _ (parent : List ℕ) (v : ℕ) where
  module _ (rank : List ℕ) where
    pub forward-into : cond (not (is_root parent v) && ltb (at rank (2 * v)) (at rank (2 * v + 1))) 1 0
        ≡ forward_mark parent rank (2 * v)
    forward-into = rw (unit-into v, even-into v)

    pub forward-out : cond (not (is_root parent v) && ltb (at rank (2 * v + 1)) (at rank (2 * v))) 1 0
        ≡ forward_mark parent rank (2 * v + 1)
    forward-out = let e : 2 * v + 1 - 1 ≡ 2 * v = omega arith in rw (unit-out v, odd-out v, e)

  module _ (forward : List ℕ) where
    pub second-into : cond (not (is_root parent v) && not (eqb (at forward (2 * v)) 0)) 1 0
        ≡ second_sum parent forward (2 * v)
    second-into = rw (unit-into v)

    pub second-out : cond (not (is_root parent v) && not (eqb (at forward (2 * v + 1)) 0)) 1 0
        ≡ second_sum parent forward (2 * v + 1)
    second-out = rw (unit-out v)
