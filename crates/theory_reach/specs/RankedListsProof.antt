-- The stage follows its longest list, and a list of L objects needs lg(L) rounds with requests: proofs, by the laws of
-- a round in Doubling.antt.
use Rattle.std.specs.Prelude.{◌≡◌, refl, true, false, ◌⊎◌, ◌↔◌, ltb, length}
use Rattle.std.proofs.Math.Path.{sym, ap}
use Rattle.std.proofs.Common.{ap₂, subst, ◌∙◌, pow_pos, pow_mono, lt-ltb, le-ltb}
use Rattle.std.proofs.Math.Bool.{cond}
use Rattle.std.proofs.Math.Logic.{inl, inr}
use mathlib.Core.List.{List}
use Prim.Native.Nat.{ℕ, zero, suc, ◌+◌, ◌-◌, ◌≤◌, ◌<◌, ◌^◌}
use Rattle.std.proofs.Math.Decide.{dec_le, dec_lt}
use native.Mathlib.Omega.{arith}
use Rattle.base_lists.specs.Folds.{sum as total, count}
use Rattle.base_lists.specs.Tables.{tab, get_d_tab}
use Rattle.base_lists.specs.Tests.{refuted, cond_true, cond_false}
use Rattle.base_lists.specs.Sums.{sum-further}
use Rattle.base_log2.specs.Lg.{lg, lg_from}
use Rattle.base_log2.specs.LgLaws.{lg-reaches, lg-least}
use Rattle.spec_rules.specs.Basics.{ABSENT, MAX-NUMBER, at, bounded}
use Rattle.spec_rules.specs.Ranking.{sum_round, jump_round, requests_of, ranking_ends}
use Rattle.spec_rules.specs.RankingLaws.{length-jumps, length-sums, jump_kept, jump-taken, sum_kept, sum-taken}
use Rattle.theory_reach.specs.Doubling
use Rattle.theory_reach.specs.Doubling.{Potential, Ranked, Reached, Ahead}
use Rattle.theory_reach.specs.RankedLists.{jumps_after, sums_after, ranking, InLists, Longest, UpTo, FollowsLongest}
use Rattle.theory_reach.specs.RankedLists.{before, chain, RankedList}

length-tab : (n : ℕ) (f : ℕ → ℕ) → length (tab n f) ≡ n
length-tab zero f = refl
length-tab (suc n) f = ap suc (length-tab n (λ (k : ℕ). f (suc k)))

-- ---- any lists

module _ (K : ℕ) (place : ℕ → ℕ) (pred : List ℕ) (lists : InLists K place pred) where
  place-positive : (a : ℕ) → a < K → 1 ≤ place a
  place-positive a l = go (lists.object a l)
    where
      go : ((at pred a ≡ ABSENT) × (place a ≡ 1)) ⊎ ((at pred a < K) × (place a ≡ place (at pred a) + 1)) → 1 ≤ place a
      go (inl w) = omega (arith, w.1)
      go (inr w) = omega (arith, w.1)

  module _ (value : List ℕ) (up_to : ℕ → ℕ) (summed : UpTo K pred value up_to) where
    potential : Potential K place up_to
    potential = record { few = lists.few; positive = place-positive; small = summed.small }

    ranked : (r : ℕ) → Ranked K place up_to (jumps_after K r pred) (sums_after K r pred value) r
    ranked zero = Doubling.start K place up_to pred value lists.entries summed.values
        (λ (a : ℕ) (l : a < K). go a l (lists.object a l))
      where
        go : (a : ℕ) → a < K → ((at pred a ≡ ABSENT) × (place a ≡ 1))
            ⊎ ((at pred a < K) × (place a ≡ place (at pred a) + 1))
            → ((at pred a ≡ ABSENT) × (place a ≡ 1) × (at value a ≡ up_to a))
            ⊎ ((at pred a < K) × (place a ≡ place (at pred a) + 1) × (up_to a ≡ at value a + up_to (at pred a)))
        go a l (inl w) = inl (w.0, w.1, summed.head a l w.0)
        go a l (inr w) = inr (w.0, w.1, summed.later a l w.0)
    ranked (suc r) = Doubling.next potential (ranked r)

  -- the predecessors alone: every value 0
  none : List ℕ
  none = tab K (λ (a : ℕ). 0)

  none_summed : UpTo K pred none (λ (a : ℕ). 0)
  unfolding none
  none_summed =
      record {
        values = omega (arith, length-tab K (λ (a : ℕ). 0));
        head = λ (a : ℕ) (l : a < K) (e : at pred a ≡ ABSENT). get_d_tab {A = ℕ} K (λ (b : ℕ). 0) a 0 l;
        later = λ (a : ℕ) (l : a < K) (e : at pred a < K). omega (arith, get_d_tab {A = ℕ} K (λ (b : ℕ). 0) a 0 l);
        small = λ (a : ℕ) (l : a < K). omega arith;
      }

  module _ (L : ℕ) (longest : Longest K L place) where
    ends : (r : ℕ) → (ranking_ends K (jumps_after K r pred) ≡ true) ↔ (lg L ≤ r)
    ends r =
        Doubling.ranking-rounds (potential none (λ (a : ℕ). 0) none_summed) (ranked none (λ (a : ℕ). 0) none_summed r) L
        longest.within
        longest.attained.0 longest.attained.1 longest.attained.2

    absent : (r : ℕ) → lg L ≤ r → (a : ℕ) → a < K → at (jumps_after K r pred) a ≡ ABSENT
    absent r h a l = go ((ranked none (λ (b : ℕ). 0) none_summed r).object a l)
      where
        go : Reached place (λ (b : ℕ). 0) (jumps_after K r pred) (sums_after K r pred none) r a
            ⊎ Ahead K place (λ (b : ℕ). 0) (jumps_after K r pred) (sums_after K r pred none) r a
            → at (jumps_after K r pred) a ≡ ABSENT
        go (inl w) = w.0
        go (inr w) =
            let power : 2 ^ lg L ≤ 2 ^ r = pow_mono h in
            absurd (omega (
              arith,
              w.1,
              place-positive (at (jumps_after K r pred) a) w.0,
              lg-reaches L,
              longest.within a l,
            ))

    pub follows-longest : FollowsLongest K L place pred
    follows-longest =
        record {
          requests = λ (r : ℕ). Doubling.requests (potential none (λ (a : ℕ). 0) none_summed)
              (ranked none (λ (a : ℕ). 0) none_summed r);
          ends = ends;
          absent = absent;
          sums = λ value up_to summed r h. Doubling.sums (potential value up_to summed) (ranked value up_to summed r)
              ((ends r).1 h);
        }

-- ---- one list

-- two stretches that meet at b, each kept within the bound
halves : (a b c x y : ℕ) → b ≤ a → c ≤ b → x ≡ bounded (a - b) → y ≡ bounded (b - c) → bounded (x + y) ≡ bounded (a - c)
halves a b c x y h k p q = ap₂ (λ (i j : ℕ). bounded (i + j)) p q ∙ (kept (a - b) (b - c) ∙ ap bounded (meet a b c h k))
  where
    kept : (i j : ℕ) → bounded (bounded i + bounded j) ≡ bounded (i + j)
    kept i j = omega arith

    meet : (a b c : ℕ) → b ≤ a → c ≤ b → (a - b) + (b - c) ≡ a - c
    meet a b c h k = omega arith

module _ (L : ℕ) (some : 1 ≤ L) (few : L < ABSENT) where
  chain-at : (i : ℕ) → i < L → at (chain L) i ≡ before i
  chain-at i l = get_d_tab L before i 0 l

  chain-lists : InLists L suc (chain L)
  chain-lists = record { few = few; entries = omega (arith, length-tab L before); object = object }
    where
      object : (a : ℕ) → a < L → ((at (chain L) a ≡ ABSENT) × (suc a ≡ 1))
          ⊎ ((at (chain L) a < L) × (suc a ≡ suc (at (chain L) a) + 1))
      object zero l = inl (chain-at zero l, refl)
      object (suc a) l = let e : at (chain L) (suc a) ≡ a = chain-at (suc a) l in inr (omega arith, omega arith)

  chain-longest : Longest L L suc
  chain-longest = record { within = λ (a : ℕ) (l : a < L). l; attained = (L - 1, omega arith, omega arith) }

  follows : FollowsLongest L L suc (chain L)
  follows = follows-longest L suc (chain L) chain-lists L chain-longest

  -- of 0 .. k − 1, those from x on
  count-from : (x k : ℕ) → count k (λ (a : ℕ). ltb x (suc a)) ≡ k - x
  count-from x zero = omega arith
  count-from x (suc k) = go (dec_lt x (suc k)) (count-from x k)
    where
      go : Dec (x < suc k) → count k (λ (a : ℕ). ltb x (suc a)) ≡ k - x →
          count (suc k) (λ (a : ℕ). ltb x (suc a)) ≡ suc k - x
      go (yes h) c = rw (lt-ltb x (suc k) h) (omega arith)
      go (no h) c = rw (le-ltb x (suc k) (omega arith)) (omega arith)

  asked : (r : ℕ) → requests_of L (jumps_after L r (chain L)) ≡ L - 2 ^ r
  asked r = follows.requests r ∙ count-from (2 ^ r) L

  -- before lg(L) rounds the power is below L
  asks : (r : ℕ) → r < lg L → 1 ≤ requests_of L (jumps_after L r (chain L))
  asks r h = go (dec_le L (2 ^ r))
    where
      go : Dec (L ≤ 2 ^ r) → 1 ≤ requests_of L (jumps_after L r (chain L))
      go (yes k) = absurd (omega (arith, lg-least L r k))
      go (no k) = omega (arith, asked r)

  chain-sums : (value : List ℕ) → L ≤ length value → total L (at value) ≤ MAX-NUMBER →
      UpTo L (chain L) value (λ (i : ℕ). total (suc i) (at value))
  chain-sums value long small =
      record {
        values = long;
        head = head;
        later = later;
        small = λ (a : ℕ) (l : a < L). omega (arith, sum-further (suc a) L (at value) l);
      }
    where
      head : (a : ℕ) → a < L → at (chain L) a ≡ ABSENT → at value a ≡ total (suc a) (at value)
      head zero l e = omega arith
      head (suc a) l e = absurd (omega (arith, chain-at (suc a) l))

      later : (a : ℕ) → a < L → at (chain L) a < L →
          total (suc a) (at value) ≡ at value a + total (suc (at (chain L) a)) (at value)
      later zero l e = absurd (omega (arith, chain-at zero l))
      later (suc a) l e =
          let q : at (chain L) (suc a) ≡ a = chain-at (suc a) l in
          rw q (omega arith)

  sums : (value : List ℕ) → L ≤ length value → total L (at value) ≤ MAX-NUMBER → (i : ℕ) → i < L
      → at (sums_after L (lg L) (chain L) value) i ≡ total (suc i) (at value)
  sums value long small = follows.sums value (λ (i : ℕ). total (suc i) (at value)) (chain-sums value long small) (lg L)
      (omega arith)

  total-ones : (k : ℕ) → k ≤ L → total k (at (tab L (λ (j : ℕ). 1))) ≡ k
  total-ones zero l = refl
  total-ones (suc k) l = omega (arith, total-ones k (omega arith), get_d_tab {A = ℕ} L (λ (j : ℕ). 1) k 0 l)

  ranks : L ≤ MAX-NUMBER → (i : ℕ) → i < L → at (sums_after L (lg L) (chain L) (tab L (λ (j : ℕ). 1))) i ≡ i + 1
  ranks small i l =
      let e : at (sums_after L (lg L) (chain L) (tab L (λ (j : ℕ). 1))) i ≡ total (suc i) (at (tab L (λ (j : ℕ). 1))) =
      sums (tab L (λ (j : ℕ). 1)) (omega (arith, length-tab L (λ (j : ℕ). 1)))
      (omega (arith, total-ones L (omega arith))) i l in
      let f : total (suc i) (at (tab L (λ (j : ℕ). 1))) ≡ suc i = total-ones (suc i) l in
      e ∙ f ∙ omega arith

  -- ---- the predecessors and sums after r rounds, in full

  long-jumps : (r : ℕ) → length (jumps_after L r (chain L)) ≡ L
  long-jumps zero = length-tab L before
  long-jumps (suc r) = length-jumps L (jumps_after L r (chain L)) ∙ long-jumps r

  Back : ℕ → ℕ → ℕ → Type 0
  Back r i x = ((i < 2 ^ r) × (x ≡ ABSENT)) ⊎ ((2 ^ r ≤ i) × (x ≡ i - 2 ^ r))

  back_at : (r i : ℕ) → i < L → Back r i (at (jumps_after L r (chain L)) i)
  unfolding Back
  back_at zero zero l = inl (omega arith, chain-at zero l)
  back_at zero (suc i) l = inr (omega arith, chain-at (suc i) l ∙ omega arith)
  back_at (suc r) i l = go (back_at r i l) (λ (j : ℕ) (k : j < L). back_at r j k)
    where
      jump : List ℕ
      jump = jumps_after L r (chain L)

      go : Back r i (at jump i) → ((j : ℕ) → j < L → Back r j (at jump j)) → Back (suc r) i (at (jump_round L jump) i)
      go (inl w) all = inl (omega (arith, w.0), jump_kept L jump i l (omega (arith, long-jumps r)) w.1 ∙ w.1)
      go (inr w) all =
          let x : at jump i ≡ i - 2 ^ r = w.1 in
          let y : at (jump_round L jump) i ≡ at jump (i - 2 ^ r) =
          jump-taken L jump i l (omega (arith, long-jumps r)) (omega arith) ∙ ap (at jump) x in
          on w.0 y (all (i - 2 ^ r) (omega arith))
        where
          on : 2 ^ r ≤ i → at (jump_round L jump) i ≡ at jump (i - 2 ^ r) → Back r (i - 2 ^ r) (at jump (i - 2 ^ r)) →
              Back (suc r) i (at (jump_round L jump) i)
          on h y (inl v) = inl (omega (arith, v.0), y ∙ v.1)
          on h y (inr v) = inr (omega (arith, v.0), y ∙ v.1 ∙ omega (arith, v.0))

  back : (r i : ℕ) → i < L → at (jumps_after L r (chain L)) i ≡ cond (ltb i (2 ^ r)) ABSENT (i - 2 ^ r)
  unfolding Back
  back r i l = go (back_at r i l)
    where
      go : Back r i (at (jumps_after L r (chain L)) i) →
          at (jumps_after L r (chain L)) i ≡ cond (ltb i (2 ^ r)) ABSENT (i - 2 ^ r)
      go (inl w) = w.1 ∙ sym (cond_true (ltb i (2 ^ r)) ABSENT (i - 2 ^ r) (lt-ltb i (2 ^ r) w.0))
      go (inr w) = w.1 ∙ sym (cond_false (ltb i (2 ^ r)) ABSENT (i - 2 ^ r) (le-ltb i (2 ^ r) w.0))

  module _ (value : List ℕ) (long : L ≤ length value) (small : (i : ℕ) → i < L → at value i ≤ MAX-NUMBER) where
    long-sums : (r : ℕ) → L ≤ length (sums_after L r (chain L) value)
    long-sums zero = long
    long-sums (suc r) = omega (
      arith,
      long-sums r,
      length-sums L (jumps_after L r (chain L)) (sums_after L r (chain L) value),
    )

    -- the sum of the last 2 ^ r values up to i
    window : (r i : ℕ) → i < L → at (sums_after L r (chain L) value) i
        ≡ bounded (total (suc i) (at value) - total (suc i - 2 ^ r) (at value))
    unfolding Back
    window zero i l =
        let k : suc i - 1 ≡ i = omega arith in
        let e : total (suc i - 1) (at value) ≡ total i (at value) = ap (λ (j : ℕ). total j (at value)) k in
        omega (arith, small i l)
    window (suc r) i l = go (back_at r i l) (window r)
      where
        jump : List ℕ
        jump = jumps_after L r (chain L)

        sum : List ℕ
        sum = sums_after L r (chain L) value

        T : ℕ → ℕ
        T k = total k (at value)

        go : Back r i (at jump i) → ((j : ℕ) → j < L → at sum j ≡ bounded (T (suc j) - T (suc j - 2 ^ r)))
            → at (sum_round L jump sum) i ≡ bounded (T (suc i) - T (suc i - 2 ^ suc r))
        go (inl w) all =
            let x : at (sum_round L jump sum) i ≡ at sum i = sum_kept L jump sum i l (long-sums r) w.1 in
            let p : suc i - 2 ^ r ≡ 0 = omega (arith, w.0) in
            let q : suc i - 2 ^ suc r ≡ 0 = omega (arith, w.0) in
            x ∙ all i l ∙ ap (λ (k : ℕ). bounded (T (suc i) - T k)) (p ∙ sym q)
        go (inr w) all =
            let a : at jump i ≡ i - 2 ^ r = w.1 in
            let h : 2 ^ r ≤ i = w.0 in
            let x : at (sum_round L jump sum) i ≡ bounded (at sum i + at sum (i - 2 ^ r)) =
            sum-taken L jump sum i l (long-sums r) (omega arith) ∙ ap (λ (k : ℕ). bounded (at sum i + at sum k)) a in
            let p : suc (i - 2 ^ r) ≡ suc i - 2 ^ r = omega arith in
            let q : suc i - 2 ^ r - 2 ^ r ≡ suc i - 2 ^ suc r = omega arith in
            let s : at sum (i - 2 ^ r) ≡ bounded (T (suc i - 2 ^ r) - T (suc i - 2 ^ suc r)) =
            all (i - 2 ^ r) (omega arith) ∙ ap (λ (k : ℕ). bounded (T k - T (k - 2 ^ r))) p
            ∙ ap (λ (k : ℕ). bounded (T (suc i - 2 ^ r) - T k)) q in
            x
            ∙ halves (T (suc i)) (T (suc i - 2 ^ r)) (T (suc i - 2 ^ suc r)) (at sum i) (at sum (i - 2 ^ r))
            (sum-further (suc i - 2 ^ r) (suc i) (at value) (omega arith))
            (sum-further (suc i - 2 ^ suc r) (suc i - 2 ^ r) (at value) (omega arith)) (all i l) s

    clamped : (i : ℕ) → i < L → at (sums_after L (lg L) (chain L) value) i ≡ bounded (total (suc i) (at value))
    clamped i l =
        let e : suc i - 2 ^ lg L ≡ 0 = omega (arith, lg-reaches L) in
        let f : total (suc i - 2 ^ lg L) (at value) ≡ 0 = ap (λ (k : ℕ). total k (at value)) e in
        omega (arith, window (lg L) i l)

  -- ---- the rounds and requests from round r on

  ranking-from : (fuel r : ℕ) → r ≤ lg L → lg L < r + fuel
      → ((ranking fuel L (jumps_after L r (chain L))).0 + r ≡ lg L + 1)
      × ((ranking fuel L (jumps_after L r (chain L))).1 + total r (λ (i : ℕ). L - 2 ^ i)
      ≡ total (lg L) (λ (i : ℕ). L - 2 ^ i))
  ranking-from zero r h k = absurd (omega arith)
  ranking-from (suc fuel) r h k = go (dec_le (lg L) r) (ranking-from fuel (suc r))
    where
      From : ℕ × ℕ → Type 0
      From x = (x.0 + r ≡ lg L + 1) × (x.1 + total r (λ (i : ℕ). L - 2 ^ i) ≡ total (lg L) (λ (i : ℕ). L - 2 ^ i))

      more : ℕ × ℕ
      more = (
        (ranking fuel L (jumps_after L (suc r) (chain L))).0 + 1,
        (ranking fuel L (jumps_after L (suc r) (chain L))).1 + requests_of L (jumps_after L r (chain L)),
      )

      now : ranking_ends L (jumps_after L r (chain L)) ≡ true → From (1, 0) →
          From (cond (ranking_ends L (jumps_after L r (chain L))) (1, 0) more)
      now e w = subst (λ (x : ℕ × ℕ). From x)
          (sym (cond_true (ranking_ends L (jumps_after L r (chain L))) (1, 0) more e)) w

      on : ranking_ends L (jumps_after L r (chain L)) ≡ false → From more →
          From (cond (ranking_ends L (jumps_after L r (chain L))) (1, 0) more)
      on e w = subst (λ (x : ℕ × ℕ). From x)
          (sym (cond_false (ranking_ends L (jumps_after L r (chain L))) (1, 0) more e)) w

      go : Dec (lg L ≤ r)
          → (suc r ≤ lg L → lg L < suc r + fuel
          → ((ranking fuel L (jumps_after L (suc r) (chain L))).0 + suc r ≡ lg L + 1)
          × ((ranking fuel L (jumps_after L (suc r) (chain L))).1 + total (suc r) (λ (i : ℕ). L - 2 ^ i)
          ≡ total (lg L) (λ (i : ℕ). L - 2 ^ i)))
          → From (cond (ranking_ends L (jumps_after L r (chain L))) (1, 0) more)
      go (yes l) later =
          let e : r ≡ lg L = omega arith in
          let q : total r (λ (i : ℕ). L - 2 ^ i) ≡ total (lg L) (λ (i : ℕ). L - 2 ^ i) =
          ap (λ (k : ℕ). total k (λ (i : ℕ). L - 2 ^ i)) e in
          now ((follows.ends r).1 l) (omega arith, omega arith)
      go (no l) later =
          let w = later (omega arith) (omega arith) in
          on (refuted _ (λ t. l ((follows.ends r).0 t))) (omega (arith, w.0), omega (arith, w.1, asked r))

  below_power : (k : ℕ) → suc k ≤ 2 ^ k
  below_power zero = omega arith
  below_power (suc k) = omega (arith, below_power k, pow_pos k)

  within-fuel : lg L < L
  within-fuel = omega (arith, lg-least L (L - 1) (omega (arith, below_power (L - 1))))

  stage : ranking L L (chain L) ≡ (lg L + 1, total (lg L) (λ (r : ℕ). L - 2 ^ r))
  stage =
      let w = ranking-from L 0 (omega arith) (omega (arith, within-fuel)) in
      let p : (ranking L L (chain L)).0 ≡ lg L + 1 = omega (arith, w.0) in
      let q : (ranking L L (chain L)).1 ≡ total (lg L) (λ (r : ℕ). L - 2 ^ r) = omega (arith, w.1) in
      ap₂ (λ (x y : ℕ). (x, y)) p q

  pub ranked_list : RankedList L
  ranked_list =
      record {
        requests = asked;
        asks = asks;
        ends = follows.ends;
        absent = follows.absent (lg L) (omega arith);
        back = back;
        sums = sums;
        clamped = clamped;
        ranks = ranks;
        stage = stage;
      }

-- ---- document 01's case H: a list of five, 4 rounds and 8 requests

case_H : ranking 5 5 (chain 5) ≡ (4, 8)
unfolding lg lg_from
case_H = (ranked_list 5 (omega arith) (omega arith)).stage
