-- The test whether some number below a count passes.
use Rattle.std.specs.Prelude.{◌≡◌, refl, Bool, true, false, ◌||◌, ◌↔◌, ◌⊎◌, ℕ, zero, suc, ◌+◌, ◌≤◌, ◌<◌}
use Rattle.std.proofs.Common.{ap₂, ◌∙◌, inl, inr, le_refl, le_antisymm, not-suc-le-zero, add-one}
use Rattle.std.proofs.lemmas.Bool.{false≢true}
use Rattle.std.proofs.Math.Nat.{le_step}
use Rattle.base_lists.specs.Below.{below_suc}
use Rattle.base_lists.specs.Folds.{some}
use Rattle.base_lists.specs.Tests.{or_cases, or_left, or_right, or_swap, refuted, not_both}

some-found : (n : ℕ) (p : ℕ → Bool) → some n p ≡ true → (i : ℕ) × (i < n) × (p i ≡ true)
some-found zero p e = absurd (false≢true e)
some-found (suc n) p e = pick (or_cases (some n p) (p n) e) (some-found n p)
  where
    pick : (some n p ≡ true) ⊎ (p n ≡ true) → (some n p ≡ true → (i : ℕ) × (i < n) × (p i ≡ true)) →
        (i : ℕ) × (i < suc n) × (p i ≡ true)
    pick (inl h) before = let w = before h in (w.0, le_step w.1, w.2)
    pick (inr h) before = (n, le_refl (suc n), h)

some_at : (n : ℕ) (p : ℕ → Bool) (i : ℕ) → i < n → p i ≡ true → some n p ≡ true
some_at zero p i l h = absurd (not-suc-le-zero l)
some_at (suc n) p i l h =
    below_suc (λ (j : ℕ). p j ≡ true → some (suc n) p ≡ true) n
    (λ (j : ℕ) (k : j < n) (e : p j ≡ true). or_left (some n p) (p n) (some_at n p j k e))
    (or_right (some n p) (p n)) i l h

-- some number below n passes
pub some-exact : (n : ℕ) (p : ℕ → Bool) → (some n p ≡ true) ↔ ((i : ℕ) × (i < n) × (p i ≡ true))
some-exact n p = (some-found n p, λ (w : (i : ℕ) × (i < n) × (p i ≡ true)). some_at n p w.0 w.1 w.2)

-- none does
pub some-none : (n : ℕ) (p : ℕ → Bool) → some n p ≡ false → (i : ℕ) → i < n → p i ≡ false
some-none n p e i l = refuted (p i) (λ (h : p i ≡ true). not_both (some n p) (some_at n p i l h) e)

-- tests that agree below n, and a test that is one or another
pub some_cong : (n : ℕ) (p q : ℕ → Bool) → ((i : ℕ) → i < n → p i ≡ q i) → some n p ≡ some n q
some_cong zero p q h = refl
some_cong (suc n) p q h = ap₂ ◌||◌ (some_cong n p q (λ i l. h i (le_step l))) (h n (le_refl (suc n)))

pub some_or : (n : ℕ) (p q r : ℕ → Bool) → ((i : ℕ) → i < n → p i ≡ (q i || r i)) → some n p ≡ (some n q || some n r)
some_or zero p q r h = refl
some_or (suc n) p q r h = ap₂ ◌||◌ (some_or n p q r (λ i l. h i (le_step l))) (h n (le_refl (suc n)))
    ∙ or_swap (some n q) (some n r) (q n) (r n)

-- a turn of a loop that looks whether some number passes, and its end
pub some_more : (n : ℕ) (p : ℕ → Bool) (any new x : Bool) → any ≡ some n p → x ≡ p n → new ≡ (any || x) →
    new ≡ some (n + 1) p
some_more n p any new x was is put = rw (put, was, is, add-one)

pub some-all : (i n : ℕ) (p : ℕ → Bool) → i ≤ n → n ≤ i → some i p ≡ some n p
some-all i n p l g = rw (le_antisymm l g)
