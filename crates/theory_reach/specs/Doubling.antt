-- List ranking by doubling, once for all lengths and both rankings. No list is built: R a is how far object a stands
-- from the head of its list (the head at 1), and S a is the sum up to it.
use Rattle.std.specs.Prelude.{◌≡◌, refl, Bool, true, false, ◌&&◌, ◌⊎◌, ◌↔◌, List, [], ◌∷◌, ℕ, zero, suc, ◌+◌, ◌-◌, ◌≤◌}
use Rattle.std.specs.Prelude.{◌<◌, ◌^◌, eqb, leb, length}
use Rattle.std.proofs.Common.{sym, ◌∙◌, inl, inr, lit<, pow_pos, pow_mono}
use Rattle.std.proofs.Math.Decide.{dec_le}
use native.Mathlib.Omega.{arith}
use Rattle.std.proofs.Math.Dec.{ltb}
use borrow.Author.Tests.{eqb-true, eq-eqb, ne_eqb, leb-true, le-leb, lt-leb, ltb-true, lt-ltb, le-ltb}
use Rattle.base_lists.specs.Folds.{sum as total, count}
use Rattle.base_lists.specs.Tests.{and_left, and_right, and-true, not_both}
use Rattle.base_lists.specs.Sums.{sum_le, sum-further}
use Rattle.base_lists.specs.Counts.{count_cong, count_none, count-some, count-positive, count-apart}
use Rattle.base_log2.specs.Lg.{lg, lg_from}
use Rattle.base_log2.specs.LgLaws.{lg-reaches, lg-least}
use Rattle.spec_rules.specs.Basics.{ABSENT, MAX-NUMBER, at, bounded}
use Rattle.spec_rules.specs.Ranking.{asks, sum_round, jump_round, requests_of, ranking_ends}
use Rattle.spec_rules.specs.RankingLaws.{length-jumps, length-sums, silent, asking, jump_kept, jump-taken, sum_kept}
use Rattle.spec_rules.specs.RankingLaws.{sum-taken, sums-still}

-- what is assumed of the objects 0 .. K − 1: no sum leaves its bound, so none is clamped
pub record Potential (K : ℕ) (R S : ℕ → ℕ) : Type 0 where
  pub few : K < ABSENT
  pub positive : (a : ℕ) → a < K → 1 ≤ R a
  pub small : (a : ℕ) → a < K → S a ≤ MAX-NUMBER

-- after k rounds an object has reached the head of its list,
abbrev pub Reached : (ℕ → ℕ) → (ℕ → ℕ) → List ℕ → List ℕ → ℕ → ℕ → Type 0
Reached R S jump sum k a = (at jump a ≡ ABSENT) × (R a ≤ 2 ^ k) × (at sum a ≡ S a)

-- or its working predecessor stands 2 ^ k back, and its sum lacks that one's
abbrev pub Ahead : ℕ → (ℕ → ℕ) → (ℕ → ℕ) → List ℕ → List ℕ → ℕ → ℕ → Type 0
Ahead K R S jump sum k a = (at jump a < K) × (R a ≡ R (at jump a) + 2 ^ k) × (S a ≡ at sum a + S (at jump a))

pub record Ranked (K : ℕ) (R S : ℕ → ℕ) (jump sum : List ℕ) (k : ℕ) : Type 0 where
  pub many_jumps : K ≤ length jump
  pub many_sums : K ≤ length sum
  pub object : (a : ℕ) → a < K → Reached R S jump sum k a ⊎ Ahead K R S jump sum k a

-- at the start: predecessors one back, and each object's own value
pub start : (K : ℕ) (R S : ℕ → ℕ) (jump sum : List ℕ) → K ≤ length jump → K ≤ length sum
    → ((a : ℕ) → a < K
    → ((at jump a ≡ ABSENT) × (R a ≡ 1) × (at sum a ≡ S a))
    ⊎ ((at jump a < K) × (R a ≡ R (at jump a) + 1) × (S a ≡ at sum a + S (at jump a))))
    → Ranked K R S jump sum 0
start K R S jump sum p q h = record { many_jumps = p; many_sums = q; object = λ (a : ℕ) (l : a < K). go a (h a l) }
  where
    go : (a : ℕ)
        → ((at jump a ≡ ABSENT) × (R a ≡ 1) × (at sum a ≡ S a))
        ⊎ ((at jump a < K) × (R a ≡ R (at jump a) + 1) × (S a ≡ at sum a + S (at jump a)))
        → Reached R S jump sum 0 a ⊎ Ahead K R S jump sum 0 a
    go a (inl w) = inl (w.0, omega (arith, w.1), w.2)
    go a (inr w) = inr (w.0, w.1, w.2)

-- the requests of the first k rounds of a ranking
abbrev pub asked : ℕ → (ℕ → ℕ) → ℕ → ℕ
asked K R k = total k (λ (i : ℕ). count K (λ (a : ℕ). ltb (2 ^ i) (R a)))

module _ {K : ℕ} {R S : ℕ → ℕ} (potential : Potential K R S) {jump sum : List ℕ} {k : ℕ}
    (ranked : Ranked K R S jump sum k) where
  -- ---- a round

  pub next : Ranked K R S (jump_round K jump) (sum_round K jump sum) (suc k)
  next = record {
    many_jumps = omega (arith, ranked.many_jumps, length-jumps K jump);
    many_sums = omega (arith, ranked.many_sums, length-sums K jump sum);
    object = λ (a : ℕ) (l : a < K). entry a l (ranked.object a l);
  }
    where
      moved : (a : ℕ) → a < K → at jump a < K → at (jump_round K jump) a ≡ at jump (at jump a)
      moved a l h = jump-taken K jump a l ranked.many_jumps (omega (arith, potential.few))

      added : (a : ℕ) → a < K → at jump a < K → at (sum_round K jump sum) a ≡ bounded (at sum a + at sum (at jump a))
      added a l h = sum-taken K jump sum a l ranked.many_sums (omega (arith, potential.few))

      -- the predecessor has reached the head, or has a predecessor of its own
      taken : (a : ℕ) → a < K → Ahead K R S jump sum k a →
          Reached R S jump sum k (at jump a) ⊎ Ahead K R S jump sum k (at jump a)
          → Reached R S (jump_round K jump) (sum_round K jump sum) (suc k) a
          ⊎ Ahead K R S (jump_round K jump) (sum_round K jump sum) (suc k) a
      taken a l w (inl o) =
          inl (
            moved a l w.0 ∙ o.0,
            omega (arith, w.1, o.1),
            omega (arith, added a l w.0, w.2, o.2, potential.small a l),
          )
      taken a l w (inr o) =
          rw (moved a l w.0)
          (inr (o.0, omega (arith, w.1, o.1), omega (arith, added a l w.0, w.2, o.2, potential.small a l)))

      entry : (a : ℕ) → a < K → Reached R S jump sum k a ⊎ Ahead K R S jump sum k a
          → Reached R S (jump_round K jump) (sum_round K jump sum) (suc k) a
          ⊎ Ahead K R S (jump_round K jump) (sum_round K jump sum) (suc k) a
      entry a l (inl w) =
          inl (
            jump_kept K jump a l ranked.many_jumps w.0 ∙ w.0,
            omega (arith, w.1),
            sum_kept K jump sum a l ranked.many_sums w.0 ∙ w.2,
          )
      entry a l (inr w) = taken a l w (ranked.object (at jump a) w.0)

  -- ---- requests

  -- an object makes a request exactly when it stands past 2 ^ k
  asks-far : (a : ℕ) → a < K → asks jump a ≡ ltb (2 ^ k) (R a)
  asks-far a l = go (ranked.object a l)
    where
      go : Reached R S jump sum k a ⊎ Ahead K R S jump sum k a → asks jump a ≡ ltb (2 ^ k) (R a)
      go (inl w) = silent jump a w.0 ∙ sym (le-ltb (2 ^ k) (R a) w.1)
      go (inr w) =
          asking jump a (omega (arith, w.0, potential.few))
          ∙ sym (lt-ltb (2 ^ k) (R a) (omega (arith, w.1, potential.positive (at jump a) w.0)))

  pub requests : requests_of K jump ≡ count K (λ (a : ℕ). ltb (2 ^ k) (R a))
  unfolding requests_of
  requests = count_cong K (asks jump) (λ (a : ℕ). ltb (2 ^ k) (R a)) asks-far

  pub asked-next : asked K R k + requests_of K jump ≡ asked K R (suc k)
  asked-next = rw requests

  -- ---- the end

  -- the stage ends when all objects stand within 2 ^ k
  ends-within : ranking_ends K jump ≡ true → (a : ℕ) → a < K → R a ≤ 2 ^ k
  unfolding ranking_ends
  ends-within e a l = go (dec_le (R a) (2 ^ k))
    where
      go : Dec (R a ≤ 2 ^ k) → R a ≤ 2 ^ k
      go (yes h) = h
      go (no h) =
          absurd
          (omega (
            arith,
            requests,
            eqb-true (requests_of K jump) 0 e,
            count-positive K (λ (b : ℕ). ltb (2 ^ k) (R b)) a l (lt-ltb (2 ^ k) (R a) (omega arith)),
          ))

  within-ends : ((a : ℕ) → a < K → R a ≤ 2 ^ k) → ranking_ends K jump ≡ true
  unfolding ranking_ends
  within-ends h =
      eq-eqb (requests_of K jump) 0
      (requests ∙ count_none K (λ (a : ℕ). ltb (2 ^ k) (R a)) (λ (a : ℕ) (l : a < K). le-ltb (2 ^ k) (R a) (h a l)))

  all-reached : ranking_ends K jump ≡ true → (a : ℕ) → a < K → Reached R S jump sum k a
  all-reached e a l = go (ranked.object a l)
    where
      go : Reached R S jump sum k a ⊎ Ahead K R S jump sum k a → Reached R S jump sum k a
      go (inl w) = w
      go (inr w) = absurd (omega (arith, w.1, ends-within e a l, potential.positive (at jump a) w.0))

  -- then the sums are the target sums,
  pub sums : ranking_ends K jump ≡ true → (a : ℕ) → a < K → at sum a ≡ S a
  sums e a l = (all-reached e a l).2

  -- no object has a working predecessor,
  jumps-absent : ranking_ends K jump ≡ true → (a : ℕ) → a < K → at jump a ≡ ABSENT
  jumps-absent e a l = (all-reached e a l).0

  -- and the round without requests changes no sum
  pub sums-rest : ranking_ends K jump ≡ true → sum_round K jump sum ≡ sum
  sums-rest e = sums-still K jump sum (jumps-absent e)

  -- ---- how many rounds

  -- a round with requests comes before lg of the longest list
  pub bound : ranking_ends K jump ≡ false → (L : ℕ) → ((a : ℕ) → a < K → R a ≤ L) → suc k ≤ lg L
  bound e L h = go (dec_le (lg L) k)
    where
      go : Dec (lg L ≤ k) → suc k ≤ lg L
      go (no n) = omega arith
      go (yes l) =
          let power : 2 ^ lg L ≤ 2 ^ k = pow_mono l in
          absurd (not_both (ranking_ends K jump)
          (within-ends (λ (a : ℕ) (b : a < K). omega (arith, h a b, lg-reaches L))) e)

  -- exactly lg(L) rounds have requests, where L is the longest list
  pub ranking-rounds : (L : ℕ) → ((a : ℕ) → a < K → R a ≤ L) → (a : ℕ) → a < K → R a ≡ L →
      (ranking_ends K jump ≡ true) ↔ (lg L ≤ k)
  ranking-rounds L h a l q = (
    λ (e : ranking_ends K jump ≡ true). lg-least L k (omega (arith, ends-within e a l)),
    λ (e : lg L ≤ k).
        let power : 2 ^ lg L ≤ 2 ^ k = pow_mono e in
        within-ends (λ (b : ℕ) (m : b < K). omega (arith, h b m, lg-reaches L)),
  )

-- ---- all requests of a ranking

-- at most 510 arcs less those within 2 ^ i: none from round 9 on
abbrev most : ℕ → ℕ
most i = 510 - 2 ^ i

most-total : (k : ℕ) → (k ≤ 9) ⊎ (total k most ≡ 4079)
most-total zero = inl (omega arith)
most-total (suc k) = go (dec_le (suc k) 9) (most-total k)
  where
    past : 9 ≤ k → most k ≡ 0
    past h = let power : 2 ^ 9 ≤ 2 ^ k = pow_mono h in omega arith

    go : Dec (suc k ≤ 9) → (k ≤ 9) ⊎ (total k most ≡ 4079) → (suc k ≤ 9) ⊎ (total (suc k) most ≡ 4079)
    go (yes h) w = inl h
    go (no h) (inl l) = let e : k ≡ 9 = omega arith in inr (rw e refl)
    go (no h) (inr w) = inr (omega (arith, w, past (omega arith)))

most_le : (k : ℕ) → total k most ≤ 4079
most_le k = go (most-total k)
  where
    go : (k ≤ 9) ⊎ (total k most ≡ 4079) → total k most ≤ 4079
    go (inl h) = sum-further k 9 most h
    go (inr e) = omega arith

-- where one object stands past x at least x do not: then a ranking makes at most 4,079 requests
asked_le : (K A : ℕ) (R : ℕ → ℕ) → A ≤ 510
    → ((x : ℕ) → 1 ≤ x → (a : ℕ) → a < K → x < R a → count K (λ (b : ℕ). ltb x (R b)) + x ≤ A)
    → (k : ℕ) → asked K R k ≤ 4079
asked_le K A R h within k = omega (
  arith,
  most_le k,
  sum_le k past most (λ (i : ℕ) (l : i < k). each i (count-some K (λ (a : ℕ). ltb (2 ^ i) (R a)))),
)
  where
    past : ℕ → ℕ
    past i = count K (λ (a : ℕ). ltb (2 ^ i) (R a))

    each : (i : ℕ)
        → ((a : ℕ) × (a < K) × (ltb (2 ^ i) (R a) ≡ true))
        ⊎ ((past i ≡ 0) × ((a : ℕ) → a < K → ltb (2 ^ i) (R a) ≡ false))
        → past i ≤ most i
    each i (inl w) = omega (arith, within (2 ^ i) (pow_pos i) w.0 w.1 (ltb-true (2 ^ i) (R w.0) w.2))
    each i (inr w) = omega (arith, w.0)

-- where the objects that p picks hold all that stand past 1, and behind each of those another, there are x of them
-- within x
module _ (K : ℕ) (R : ℕ → ℕ) (p : ℕ → Bool)
    (behind : (a : ℕ) → a < K → 1 < R a → (p a ≡ true) × ((b : ℕ) × (b < K) × (p b ≡ true) × (suc (R b) ≡ R a))) where
  -- every distance up to that of a is some object's
  attained : (y d a : ℕ) → 1 ≤ y → a < K → p a ≡ true → R a ≡ y + d → (b : ℕ) × (b < K) × (p b ≡ true) × (R b ≡ y)
  attained y zero a h l e q = (a, l, e, omega arith)
  attained y (suc d) a h l e q =
      let w = (behind a l (omega arith)).1 in
      attained y d w.0 h w.1 w.2 (omega (arith, w.3))

  -- of the objects within suc x, those within x are all but some
  within_count : (x : ℕ) → ((y : ℕ) → 1 ≤ y → y ≤ x → (b : ℕ) × (b < K) × (p b ≡ true) × (R b ≡ y))
      → x ≤ count K (λ (b : ℕ). p b && leb (R b) x)
  within_count zero each = omega arith
  within_count (suc x) each =
      omega (
        arith,
        within_count x (λ (y : ℕ) (h : 1 ≤ y) (l : y ≤ x). each y h (omega arith)),
        at_level (each (suc x) (omega arith) (omega arith)),
        count-apart K (λ (b : ℕ). p b && leb (R b) x) (λ (b : ℕ). p b && eqb (R b) (suc x))
            (λ (b : ℕ). p b && leb (R b) (suc x)) below level,
      )
    where
      at_level : (b : ℕ) × (b < K) × (p b ≡ true) × (R b ≡ suc x) → 1 ≤ count K (λ (b : ℕ). p b && eqb (R b) (suc x))
      at_level (b, l, e, q) =
          count-positive K (λ (b : ℕ). p b && eqb (R b) (suc x)) b l
          (and-true (p b) (eqb (R b) (suc x)) e (eq-eqb (R b) (suc x) q))

      below : (b : ℕ) → b < K → (p b && leb (R b) x) ≡ true →
          ((p b && leb (R b) (suc x)) ≡ true) × ((p b && eqb (R b) (suc x)) ≡ false)
      below b l e =
          let picked : p b ≡ true = and_left (p b) (leb (R b) x) e in
          let near : R b ≤ x = leb-true (R b) x (and_right (p b) (leb (R b) x) e) in
          (rw (picked, le-leb (R b) (suc x) (omega arith)), rw (picked, ne_eqb (R b) (suc x) (omega arith)))

      level : (b : ℕ) → b < K → (p b && eqb (R b) (suc x)) ≡ true → (p b && leb (R b) (suc x)) ≡ true
      level b l e =
          let picked : p b ≡ true = and_left (p b) (eqb (R b) (suc x)) e in
          let same : R b ≡ suc x = eqb-true (R b) (suc x) (and_right (p b) (eqb (R b) (suc x)) e) in
          rw (picked, le-leb (R b) (suc x) (omega arith))

  past-count : (x : ℕ) → 1 ≤ x → (a : ℕ) → a < K → x < R a → count K (λ (b : ℕ). ltb x (R b)) + x ≤ count K p
  past-count x h a l past =
      omega (
        arith,
        within_count x each,
        count-apart K (λ (b : ℕ). ltb x (R b)) (λ (b : ℕ). p b && leb (R b) x) p far
            (λ (b : ℕ) (k : b < K). and_left (p b) (leb (R b) x)),
      )
    where
      each : (y : ℕ) → 1 ≤ y → y ≤ x → (b : ℕ) × (b < K) × (p b ≡ true) × (R b ≡ y)
      each y k m = attained y (R a - y) a k l (behind a l (omega arith)).0 (omega arith)

      far : (b : ℕ) → b < K → ltb x (R b) ≡ true → (p b ≡ true) × ((p b && leb (R b) x) ≡ false)
      far b k e =
          let beyond : x < R b = ltb-true x (R b) e in
          let picked : p b ≡ true = (behind b k (omega arith)).0 in
          (picked, rw (picked, lt-leb (R b) x beyond))

  -- so with at most 510 objects, the arcs of 256 units, a ranking makes at most 4,079 requests
  pub asked-few : count K p ≤ 510 → (k : ℕ) → asked K R k ≤ 4079
  asked-few h = asked_le K (count K p) R h past-count

-- ---- document 01's case H: a list of five objects

abbrev five : List ℕ
five = ABSENT ∷ 0 ∷ 1 ∷ 2 ∷ 3 ∷ []

abbrev ones : List ℕ
ones = 1 ∷ 1 ∷ 1 ∷ 1 ∷ 1 ∷ []

five-potential : Potential 5 suc suc
five-potential = record {
  few = lit< tt;
  positive = λ (a : ℕ) (l : a < 5). omega arith;
  small = λ (a : ℕ) (l : a < 5). omega arith;
}

five-ranked : Ranked 5 suc suc five ones 0
five-ranked = start 5 suc suc five ones (omega arith) (omega arith) each
  where
    each : (a : ℕ) → a < 5
        → ((at five a ≡ ABSENT) × (suc a ≡ 1) × (at ones a ≡ suc a))
        ⊎ ((at five a < 5) × (suc a ≡ suc (at five a) + 1) × (suc a ≡ at ones a + suc (at five a)))
    each zero l = inl (refl, refl, refl)
    each (suc zero) l = inr (omega arith, refl, refl)
    each (suc (suc zero)) l = inr (omega arith, refl, refl)
    each (suc (suc (suc zero))) l = inr (omega arith, refl, refl)
    each (suc (suc (suc (suc zero)))) l = inr (omega arith, refl, refl)
    each (suc (suc (suc (suc (suc a))))) l = absurd (omega arith)

-- three rounds with requests, 4, 3 and 1; a fourth without
five-rounds : lg 5 ≡ 3
unfolding lg lg_from
five-rounds = refl

five-asked : asked 5 suc 3 ≡ 8
five-asked = refl

five-few : (k : ℕ) → asked 5 suc k ≤ 4079
five-few = asked_le 5 5 suc (omega arith) within
  where
    within : (x : ℕ) → 1 ≤ x → (a : ℕ) → a < 5 → x < suc a → count 5 (λ (b : ℕ). ltb x (suc b)) + x ≤ 5
    within zero h a l m = absurd (omega arith)
    within (suc zero) h a l m = omega arith
    within (suc (suc zero)) h a l m = omega arith
    within (suc (suc (suc zero))) h a l m = omega arith
    within (suc (suc (suc (suc zero)))) h a l m = omega arith
    within (suc (suc (suc (suc (suc x))))) h a l m = absurd (omega arith)

-- three rounds lead to sums 1 .. 5
five-sums : (a : ℕ) → a < 5
    → at (sum_round 5 (jump_round 5 (jump_round 5 five)) (sum_round 5 (jump_round 5 five) (sum_round 5 five ones))) a
    ≡ suc a
five-sums = sums five-potential (next five-potential (next five-potential (next five-potential five-ranked))) ends
  where
    ends : ranking_ends 5 (jump_round 5 (jump_round 5 (jump_round 5 five))) ≡ true
    ends = within-ends five-potential (next five-potential (next five-potential (next five-potential five-ranked)))
        (λ (a : ℕ) (l : a < 5). omega arith)
