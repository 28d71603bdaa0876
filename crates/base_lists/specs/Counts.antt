-- Laws of counts: order, what a count of none, of some and of one says, and one number more at a time.
use Rattle.std.specs.Prelude.{◌≡◌, refl, Bool, true, false, cond, ◌↔◌, ◌⊎◌, ◌≢◌, ℕ, zero, suc, ◌+◌, ◌≤◌, ◌<◌}
use Rattle.std.proofs.Common.{inl, inr, le_refl, not-suc-le-zero, add-one, arith}
use Rattle.std.proofs.Math.Nat.{le_step}
use Rattle.std.proofs.Math.Decide.{dec_lt, ℕ_discrete}
use Rattle.base_lists.specs.Below.{below_suc}
use Rattle.base_lists.specs.Folds.{count}
use Rattle.base_lists.specs.Sums.{sum_cong, sum_le, sum_more}
use Rattle.base_lists.specs.Tests.{either, refuted}

pub cond-one : (b : Bool) → cond b 1 0 ≤ 1
cond-one true = omega arith
cond-one false = omega arith

pub count_le : (n : ℕ) (p : ℕ → Bool) → count n p ≤ n
count_le zero p = omega arith
count_le (suc n) p = omega (arith, count_le n p, cond-one (p n))

pub count_cong : (n : ℕ) (p q : ℕ → Bool) → ((i : ℕ) → i < n → p i ≡ q i) → count n p ≡ count n q
count_cong n p q h = sum_cong n (λ (i : ℕ). cond (p i) 1 0) (λ (i : ℕ). cond (q i) 1 0)
    (λ (i : ℕ) (l : i < n). rw (h i l) refl)

cond_le : (a b : Bool) → (a ≡ true → b ≡ true) → cond a 1 0 ≤ cond b 1 0
cond_le true b h = rw (h refl) (le_refl 1)
cond_le false true h = omega arith
cond_le false false h = le_refl 0

count_mono : (n : ℕ) (p q : ℕ → Bool) → ((i : ℕ) → i < n → p i ≡ true → q i ≡ true) → count n p ≤ count n q
count_mono n p q h = sum_le n (λ (i : ℕ). cond (p i) 1 0) (λ (i : ℕ). cond (q i) 1 0)
    (λ (i : ℕ) (l : i < n). cond_le (p i) (q i) (h i l))

-- a test that passes where another does, and once more, passes more often
pub count_less : (n : ℕ) (p q : ℕ → Bool) (j : ℕ) → j < n → p j ≡ false → q j ≡ true →
    ((i : ℕ) → i < n → p i ≡ true → q i ≡ true) → count n p < count n q
count_less zero p q j l a b h = absurd (not-suc-le-zero l)
count_less (suc n) p q j l a b h =
    go (ℕ_discrete n j) (λ (k : j < n). count_less n p q j k a b (λ (i : ℕ) (c : i < n). h i (le_step c)))
  where
    go : Dec (n ≡ j) → (j < n → count n p < count n q) → count (suc n) p < count (suc n) q
    go (yes s) below =
        let a' : ◌≡◌ {A = ℕ} (cond (p n) 1 0) 0 = rw (s, a) refl in
        let b' : ◌≡◌ {A = ℕ} (cond (q n) 1 0) 1 = rw (s, b) refl in
        omega (arith, count_mono n p q (λ (i : ℕ) (c : i < n). h i (le_step c)))
    go (no s) below = omega (arith, below (omega arith), cond_le (p n) (q n) (h n (le_refl (suc n))))

-- a test that always passes
pub count_true : (n : ℕ) → count n (λ (i : ℕ). true) ≡ n
count_true zero = refl
count_true (suc n) = omega (arith, count_true n)

-- one that fails somewhere
pub count-fewer : (n : ℕ) (p : ℕ → Bool) (j : ℕ) → j < n → p j ≡ false → count n p < n
count-fewer n p j l e = omega (
  arith,
  count_less n p (λ (i : ℕ). true) j l e refl
      (λ (i : ℕ) (k : i < n) (h : p i ≡ true). refl),
  count_true n,
)

-- tests that agree but at one number
pub count_next : (n : ℕ) (p q : ℕ → Bool) (j : ℕ) → j < n → p j ≡ true → q j ≡ false →
    ((i : ℕ) → i < n → i ≢ j → p i ≡ q i)
    → count n p ≡ suc (count n q)
count_next n p q j l a b h =
    let one : cond (p j) 1 0 ≡ cond (q j) 1 0 + 1 = rw (a, b) refl in
    omega (
      arith,
      sum_more n (λ (i : ℕ). cond (p i) 1 0) (λ (i : ℕ). cond (q i) 1 0) j 1 l one
          (λ (i : ℕ) (k : i < n) (d : i ≢ j). rw (h i k d) refl),
    )

-- tests that never pass together
pub count-apart : (n : ℕ) (p q r : ℕ → Bool) → ((i : ℕ) → i < n → p i ≡ true → (r i ≡ true) × (q i ≡ false)) →
    ((i : ℕ) → i < n → q i ≡ true → r i ≡ true)
    → count n p + count n q ≤ count n r
count-apart zero p q r f g = le_refl 0
count-apart (suc n) p q r f g =
    omega (
      arith,
      count-apart n p q r (λ (i : ℕ) (l : i < n). f i (le_step l)) (λ (i : ℕ) (l : i < n). g i (le_step l)),
      here (p n) (q n) (r n) (f n (le_refl (suc n))) (g n (le_refl (suc n))),
    )
  where
    here : (a b c : Bool) → (a ≡ true → (c ≡ true) × (b ≡ false)) → (b ≡ true → c ≡ true) →
        cond a 1 0 + cond b 1 0 ≤ cond c 1 0
    here true b c s t = let w = s refl in rw (w.0, w.1) (le_refl 1)
    here false true c s t = rw (t refl) (le_refl 1)
    here false false c s t = omega arith

pub count_none : (n : ℕ) (p : ℕ → Bool) → ((i : ℕ) → i < n → p i ≡ false) → count n p ≡ 0
count_none zero p h = refl
count_none (suc n) p h =
    rw (h n (le_refl (suc n))) (let r : count n p
    ≡ 0 = count_none n p (λ (i : ℕ) (l : i < n). h i (le_step l)) in omega arith)

-- a number that passes, or a count of none
pub count-some : (n : ℕ) (p : ℕ → Bool) →
    ((i : ℕ) × (i < n) × (p i ≡ true)) ⊎ ((count n p ≡ 0) × ((i : ℕ) → i < n → p i ≡ false))
count-some zero p = inr (refl, λ (i : ℕ) (l : i < 0). absurd (not-suc-le-zero l))
count-some (suc n) p = go (either (p n)) (count-some n p)
  where
    go : (p n ≡ true) ⊎ (p n ≡ false) → ((i : ℕ) × (i < n) × (p i ≡ true))
        ⊎ ((count n p ≡ 0) × ((i : ℕ) → i < n → p i ≡ false))
        → ((i : ℕ) × (i < suc n) × (p i ≡ true)) ⊎ ((count (suc n) p ≡ 0) × ((i : ℕ) → i < suc n → p i ≡ false))
    go (inl e) w = inl (n, le_refl (suc n), e)
    go (inr e) (inl w) = inl (w.0, le_step w.1, w.2)
    go (inr e) (inr w) =
        let none : (i : ℕ) → i < suc n → p i ≡ false = below_suc (λ (i : ℕ). p i ≡ false) n w.1 e in
        inr (count_none (suc n) p none, none)

pub count-positive : (n : ℕ) (p : ℕ → Bool) (i : ℕ) → i < n → p i ≡ true → 1 ≤ count n p
count-positive zero p i l h = absurd (not-suc-le-zero l)
count-positive (suc n) p i l h =
    below_suc (λ (j : ℕ). p j ≡ true → 1 ≤ count (suc n) p) n
    (λ (j : ℕ) (k : j < n) (e : p j ≡ true). omega (arith, count-positive n p j k e))
    (λ (e : p n ≡ true). rw e (omega arith)) i l h

-- two that pass
count-two : (n : ℕ) (p : ℕ → Bool) (i j : ℕ) → i < j → j < n → p i ≡ true → p j ≡ true → 2 ≤ count n p
count-two zero p i j h l a b = absurd (not-suc-le-zero l)
count-two (suc n) p i j h l a b = go (dec_lt j n) (λ k. count-two n p i j h k a b)
  where
    last : j ≡ n → 2 ≤ count (suc n) p
    last e = let f : p n ≡ true = rw (← e) b in rw f (omega (arith, count-positive n p i (omega arith) a))

    go : Dec (j < n) → (j < n → 2 ≤ count n p) → 2 ≤ count (suc n) p
    go (yes k) below = omega (arith, below k)
    go (no k) below = last (omega arith)

-- one alone that passes
count-alone : (n : ℕ) (p : ℕ → Bool) (j : ℕ) → j < n → p j ≡ true → ((k : ℕ) → k < n → p k ≡ true → k ≡ j) →
    count n p ≡ 1
count-alone zero p j l e h = absurd (not-suc-le-zero l)
count-alone (suc n) p j l e h = go (dec_lt j n) (λ k. count-alone n p j k e (λ i m. h i (le_step m)))
  where
    last : j ≡ n → count (suc n) p ≡ 1
    last q =
        let f : p n ≡ true = rw (← q) e in
        rw f (omega (
          arith,
          count_none n p
              (λ i m. refuted (p i) (λ g. let z : i ≡ j = h i (le_step m) g in omega arith)),
        ))

    go : Dec (j < n) → (j < n → count n p ≡ 1) → count (suc n) p ≡ 1
    go (yes k) below =
        let f : p n ≡ false = refuted (p n) (λ g. let z : n ≡ j = h n (le_refl (suc n)) g in omega arith) in
        rw f (omega (arith, below k))
    go (no k) below = last (omega arith)

-- a count of one
pub count-one : (n : ℕ) (p : ℕ → Bool) (j : ℕ) → j < n → p j ≡ true →
    (count n p ≡ 1) ↔ ((k : ℕ) → k < n → p k ≡ true → k ≡ j)
count-one n p j l e = (λ c k m f. only c k m f (dec_lt k j) (dec_lt j k), count-alone n p j l e)
  where
    only : count n p ≡ 1 → (k : ℕ) → k < n → p k ≡ true → Dec (k < j) → Dec (j < k) → k ≡ j
    only c k m f (yes h) g = absurd (omega (arith, count-two n p k j h l f e))
    only c k m f (no h) (yes g) = absurd (omega (arith, count-two n p j k g m e f))
    only c k m f (no h) (no g) = omega arith

-- a turn of a loop that counts
pub count-more : (n : ℕ) (p : ℕ → Bool) (k new x : ℕ) → k ≡ count n p → x ≡ cond (p n) 1 0 → new ≡ k + x →
    new ≡ count (n + 1) p
count-more n p k new x was is put = rw (put, was, is, add-one)
