-- Laws of sums over the numbers below a count: order, two sums in either order, and sums that differ at one place.
use Rattle.std.specs.Prelude.{◌≡◌, refl, ◌≢◌, ℕ, zero, suc, ◌+◌, ◌≤◌, ◌<◌}
use Rattle.std.proofs.Common.{sym, le_refl, not-suc-le-zero, arith}
use Rattle.std.proofs.Math.Nat.{le_step}
use Rattle.std.proofs.Math.Decide.{dec_lt, ℕ_discrete}
use Rattle.base_lists.specs.Folds.{sum}
use Rattle.base_lists.specs.FoldLaws.{fold_cong}

pub sum_cong : (n : ℕ) (f g : ℕ → ℕ) → ((i : ℕ) → i < n → f i ≡ g i) → sum n f ≡ sum n g
sum_cong n f g h = fold_cong ◌+◌ n f g 0 h

pub sum_zero : (n : ℕ) (f : ℕ → ℕ) → ((i : ℕ) → i < n → f i ≡ 0) → sum n f ≡ 0
sum_zero zero f h = refl
sum_zero (suc n) f h = omega (arith, sum_zero n f (λ (i : ℕ) (l : i < n). h i (le_step l)), h n (le_refl (suc n)))

pub sum-add : (n : ℕ) (f g : ℕ → ℕ) → sum n (λ (i : ℕ). f i + g i) ≡ sum n f + sum n g
sum-add zero f g = refl
sum-add (suc n) f g = omega (arith, sum-add n f g)

pub sum_swap : (n m : ℕ) (f : ℕ → ℕ → ℕ) →
    sum n (λ (i : ℕ). sum m (λ (j : ℕ). f i j)) ≡ sum m (λ (j : ℕ). sum n (λ (i : ℕ). f i j))
sum_swap zero m f = sym (sum_zero m (λ (j : ℕ). 0) (λ (i : ℕ) (l : i < m). refl))
sum_swap (suc n) m f = omega (arith, sum_swap n m f, sum-add m (λ (j : ℕ). sum n (λ (i : ℕ). f i j)) (λ (j : ℕ). f n j))

pub sum_le : (n : ℕ) (f g : ℕ → ℕ) → ((i : ℕ) → i < n → f i ≤ g i) → sum n f ≤ sum n g
sum_le zero f g h = le_refl 0
sum_le (suc n) f g h = omega (arith, sum_le n f g (λ (i : ℕ) (l : i < n). h i (le_step l)), h n (le_refl (suc n)))

pub sum-further : (n k : ℕ) (f : ℕ → ℕ) → n ≤ k → sum n f ≤ sum k f
sum-further n zero f h = let e : n ≡ 0 = omega arith in rw e (le_refl 0)
sum-further n (suc k) f h = go (dec_lt k n) (sum-further n k f)
  where
    go : Dec (k < n) → (n ≤ k → sum n f ≤ sum k f) → sum n f ≤ sum (suc k) f
    go (yes l) before = let e : n ≡ suc k = omega arith in rw e (le_refl (sum (suc k) f))
    go (no l) before = omega (arith, before (omega arith))

-- two sums that differ at one place
pub sum_more : (n : ℕ) (f g : ℕ → ℕ) (j x : ℕ) → j < n → f j ≡ g j + x → ((i : ℕ) → i < n → i ≢ j → f i ≡ g i) →
    sum n f ≡ sum n g + x
sum_more zero f g j x l e h = absurd (not-suc-le-zero l)
sum_more (suc n) f g j x l e h = go (ℕ_discrete n j)
    (λ (k : j < n). sum_more n f g j x k e (λ (i : ℕ) (b : i < n) (d : i ≢ j). h i (le_step b) d))
  where
    go : Dec (n ≡ j) → (j < n → sum n f ≡ sum n g + x) → sum (suc n) f ≡ sum (suc n) g + x
    go (yes s) below =
        let e' : f n ≡ g n + x = rw s e in
        omega (arith, sum_cong n f g (λ (i : ℕ) (b : i < n). h i (le_step b) (omega arith)))
    go (no s) below = omega (arith, below (omega arith), h n (le_refl (suc n)) s)

-- a sum with one term
pub sum_one : (n : ℕ) (f : ℕ → ℕ) (j : ℕ) → j < n → ((i : ℕ) → i < n → i ≢ j → f i ≡ 0) → sum n f ≡ f j
sum_one n f j l h = omega (
  arith,
  sum_more n f (λ (i : ℕ). 0) j (f j) l (omega arith) h,
  sum_zero n (λ (i : ℕ). 0) (λ (i : ℕ) (b : i < n). refl),
)
