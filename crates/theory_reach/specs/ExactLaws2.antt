-- The exact rules of stages 4 to 6 have the values of the rules: on predecessors that are there, sums that stay within
-- their bound, and ranks of which the two of a unit stand an even number apart.
use Rattle.std.specs.Prelude.{◌≡◌, false, ◌⊎◌, List}
use Rattle.std.proofs.Math.Path.{refl}
use Rattle.std.proofs.Math.Bool.{true, cond}
use Rattle.std.proofs.Common.{inl, inr, arith, eqb-true}
use Rattle.std.proofs.Math.Option.{some}
use Prim.Native.Nat.{ℕ, ◌+◌, ◌*◌, ◌-◌, ◌/◌, ◌%◌, ◌≤◌, ◌<◌}
use Rattle.std.proofs.Math.Dec.{eqb, ltb}
use Rattle.std.proofs.lemmas.Bool.{eqb-false}
use Rattle.base_lists.specs.Folds.{count}
use Rattle.base_lists.specs.Tests.{either}
use Rattle.spec_rules.specs.Basics.{ABSENT, MAX-NUMBER, at, bounded, is_root}
use Rattle.spec_rules.specs.BoundLaws.{Names}
use Rattle.spec_rules.specs.Tour.{is_into}
use Rattle.spec_rules.specs.Ranking.{asks, sum_round, jump_round, requests_of, ranking_ends}
use Rattle.spec_rules.specs.Order.{reverse_arc, forward_round, descendants, nd_round, second_sums, second_jumps}
use Rattle.spec_rules.specs.Order.{place_of}
use Rattle.spec_rules.specs.Order.{pre_round}
use Rattle.theory_reach.specs.Partial
use Rattle.theory_reach.specs.Partial.{read, minus, half, both, nots, ands, ifs, counts, overs}
use Rattle.theory_reach.specs.ExactRules
use Rattle.theory_reach.specs.ExactLaws1.{root, marked, into, arc}

-- ---- stages 4 and 6

module _ (k : ℕ) (jump : List ℕ) where
  ask : (a : ℕ) → a < k → ExactRules.asks? k jump (some a) ≡ some (asks jump a)
  unfolding ExactRules.asks?
  ask a l = nots (both eqb (read k jump refl l) refl)

  pub request_count : ExactRules.requests_of? k jump ≡ some (requests_of k jump)
  unfolding ExactRules.requests_of? requests_of
  request_count = counts k _ _ ask

  pub ranking-ends : ExactRules.ranking_ends? k jump ≡ some (ranking_ends k jump)
  unfolding ExactRules.ranking_ends? ranking_ends
  ranking-ends = both eqb request_count refl

  module _ (names : (a : ℕ) → a < k → asks jump a ≡ true → at jump a < k) where
    pub jump-round : ExactRules.jump_round? k jump ≡ some (jump_round k jump)
    unfolding ExactRules.jump_round? jump_round
    jump-round =
        overs k _ (λ (a : ℕ). cond (asks jump a) (at jump (at jump a)) (at jump a)) jump
        (λ a l. ifs (ask a l) (λ q. read k jump (read k jump refl l) (names a l q)) (λ q. read k jump refl l))

    pub sum-round : (sum : List ℕ) → ((a : ℕ) → a < k → asks jump a ≡ true → at sum a + at sum (at jump a) ≤ MAX-NUMBER)
        → ExactRules.sum_round? k jump sum ≡ some (sum_round k jump sum)
    unfolding ExactRules.sum_round? sum_round
    sum-round sum small =
        overs k _ (λ (a : ℕ). cond (asks jump a) (bounded (at sum a + at sum (at jump a))) (at sum a)) sum
        (λ a l. ifs (ask a l) (added a l) (λ q. read k sum refl l))
      where
        added : (a : ℕ) → a < k → asks jump a ≡ true
            → Partial.plus? (Partial.at? k sum (some a)) (Partial.at? k sum (Partial.at? k jump (some a)))
            ≡ some (bounded (at sum a + at sum (at jump a)))
        added a l q =
            let b : bounded (at sum a + at sum (at jump a)) ≡ at sum a + at sum (at jump a) =
            omega (arith, small a l q) in
            rw b (both ◌+◌ (read k sum refl l) (read k sum (read k jump refl l) (names a l q)))

-- ---- stage 5

reverse : (n a : ℕ) → a < 2 * n → (ExactRules.reverse_arc? (some a) ≡ some (reverse_arc a)) × (reverse_arc a < 2 * n)
unfolding ExactRules.reverse_arc?
reverse n a l = (ifs (into refl) (λ q. both ◌+◌ refl refl) (λ q. minus refl refl (some-odd q)), go (either (is_into a)))
  where
    some-odd : is_into a ≡ false → 1 ≤ a
    some-odd q = omega (arith, eqb-false (a % 2) 0 q)

    go : (is_into a ≡ true) ⊎ (is_into a ≡ false) → reverse_arc a < 2 * n
    go (inl t) = rw t (omega (arith, eqb-true (a % 2) 0 t))
    go (inr t) = rw t (omega arith)

module _ (n : ℕ) (parent : List ℕ) (few : n ≤ ABSENT) (names : (v : ℕ) → v < n → Names n (at parent v)) where
  pub forward-round : (rank forward : List ℕ) →
      ExactRules.forward_round? n parent rank forward ≡ some (forward_round n parent rank forward)
  unfolding ExactRules.forward_round? forward_round
  forward-round rank forward =
      overs (2 * n) _ _ forward
      (λ a l.
      marked
      (ands (arc n parent few names a l)
      (λ q. both ltb (read (2 * n) rank refl l) (read (2 * n) rank (reverse n a l).0 (reverse n a l).1))))

  pub second-sums : (forward sum : List ℕ) →
      ExactRules.second_sums? n parent forward sum ≡ some (second_sums n parent forward sum)
  unfolding ExactRules.second_sums? second_sums
  second-sums forward sum =
      overs (2 * n) _ _ sum (λ a l. marked
      (ands (arc n parent few names a l) (λ q. nots (both eqb (read (2 * n) forward refl l) refl))))

  pub second-jumps : (pred jump : List ℕ) → ExactRules.second_jumps? n pred jump ≡ some (second_jumps n pred jump)
  unfolding ExactRules.second_jumps? second_jumps
  second-jumps pred jump = overs (2 * n) _ (at pred) jump (λ a l. read (2 * n) pred refl l)

  module _ (color : List ℕ) where
    -- the ranks of a unit's two arcs, the one out later and an odd number on
    pub nd-round : (rank nd : List ℕ)
        → ((v : ℕ) → v < n → is_root parent v ≡ false → (x : ℕ) × (at rank (2 * v + 1) + 1 ≡ at rank (2 * v) + 2 * x))
        → ExactRules.nd_round? n color parent rank nd ≡ some (nd_round n color parent rank nd)
    unfolding ExactRules.nd_round? ExactRules.descendants? nd_round descendants
    nd-round rank nd even =
        overs n _ (descendants n color parent rank) nd
        (λ v l.
        ifs (root n parent refl l)
        (λ q. counts n _ (λ (w : ℕ). eqb (at color w) (at color v))
        (λ w k. both eqb (read n color refl k) (read n color refl l)))
        (λ q.
        let x = even v l q in
        half ((at rank (2 * v + 1) + 1 - at rank (2 * v)) / 2)
        (minus (both ◌+◌ (read (2 * n) rank (both ◌+◌ (both ◌*◌ refl refl) refl) (omega arith)) refl)
        (read (2 * n) rank (both ◌*◌ refl refl) (omega arith)) (omega (arith, x.1)))
        (omega (arith, x.1))))

    -- places that stay within their bound
    pub pre-round : (sum pre : List ℕ) → ((v : ℕ) → v < n → place_of n color parent sum v < MAX-NUMBER)
        → ExactRules.pre_round? n color parent sum pre ≡ some (pre_round n color parent sum pre)
    unfolding ExactRules.pre_round? ExactRules.place_of? pre_round place_of
    pre-round sum pre small = overs n _ (place_of n color parent sum) pre place
      where
        place : (v : ℕ) → v < n → ExactRules.place_of? n color parent sum (some v)
            ≡ some (place_of n color parent sum v)
        place v l =
            let b : place_of n color parent sum v
            ≡ cond (is_root parent v) 0 (at sum (2 * v)) + count n (λ (w : ℕ). ltb (at color w) (at color v)) =
            omega (arith, small v l) in
            rw b
            (both ◌+◌ (ifs (root n parent refl l) (λ q. refl)
            (λ q. read (2 * n) sum (both ◌*◌ refl refl) (omega arith)))
            (counts n _ (λ (w : ℕ). ltb (at color w) (at color v))
            (λ w k. both ltb (read n color refl k) (read n color refl l))))
