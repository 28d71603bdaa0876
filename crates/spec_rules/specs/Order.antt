-- Stage 5, marks: forward arcs and descendants from the first ranking. Stage 6's last round: the place of each unit
-- (its preorder number).
use Rattle.std.specs.Prelude.{not, ◌&&◌, cond, List, ℕ, ◌+◌, ◌*◌, ◌-◌, ◌/◌, eqb, ltb}
use Rattle.base_lists.specs.Tables.{over}
use Rattle.base_lists.specs.Folds.{count}
use Rattle.spec_rules.specs.Basics.{at, bounded, is_root}
use Rattle.spec_rules.specs.Tour.{is_arc, is_into}

-- the reverse of an arc is the other of its pair
abbrev pub reverse_arc : ℕ → ℕ
reverse_arc a = cond (is_into a) (a + 1) (a - 1)

-- round one: an arc is forward where its rank is below that of the arc back
abbrev pub forward_mark : List ℕ → List ℕ → ℕ → ℕ
forward_mark parent rank a = cond (is_arc parent a && ltb (at rank a) (at rank (reverse_arc a))) 1 0

unfoldable pub forward_round : ℕ → List ℕ → List ℕ → List ℕ → List ℕ
forward_round n parent rank forward = over (2 * n) (forward_mark parent rank) forward

-- the descendants of v, v included: half of (rank of the link back − rank of the link in + 1); for a root its
-- component's size
unfoldable pub descendants : ℕ → List ℕ → List ℕ → List ℕ → ℕ → ℕ
descendants n color parent rank v =
    cond (is_root parent v) (count n (λ (w : ℕ). eqb (at color w) (at color v)))
    ((at rank (2 * v + 1) + 1 - at rank (2 * v)) / 2)

-- round two: descendants
unfoldable pub nd_round : ℕ → List ℕ → List ℕ → List ℕ → List ℕ → List ℕ
nd_round n color parent rank nd = over n (descendants n color parent rank) nd

-- the last round sets up the second ranking: forward 1 and backward 0, and the tour's predecessors
abbrev pub second_sum : List ℕ → List ℕ → ℕ → ℕ
second_sum parent forward a = cond (is_arc parent a && not (eqb (at forward a) 0)) 1 0

unfoldable pub second_sums : ℕ → List ℕ → List ℕ → List ℕ → List ℕ
second_sums n parent forward sum = over (2 * n) (second_sum parent forward) sum

unfoldable pub second_jumps : ℕ → List ℕ → List ℕ → List ℕ
second_jumps n pred jump = over (2 * n) (at pred) jump

-- the place of v: its forward sum (at a root 0) and, besides, the units of all components of smaller color
unfoldable pub place_of : ℕ → List ℕ → List ℕ → List ℕ → ℕ → ℕ
place_of n color parent sum v =
    bounded (cond (is_root parent v) 0 (at sum (2 * v)) + count n (λ (w : ℕ). ltb (at color w) (at color v)))

unfoldable pub pre_round : ℕ → List ℕ → List ℕ → List ℕ → List ℕ → List ℕ
pre_round n color parent sum pre = over n (place_of n color parent sum) pre
