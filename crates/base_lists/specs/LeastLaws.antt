-- What the least of some numbers is.
use Rattle.std.specs.Prelude.{◌≡◌, Bool, true, false, cond, ◌⊎◌, ℕ, zero, suc, ◌≤◌, ◌<◌}
use Rattle.std.proofs.Common.{inl, inr, le_refl, arith}
use Rattle.std.proofs.Math.Nat.{le_step}
use Rattle.base_lists.specs.Folds.{least}
use Rattle.base_lists.specs.FoldLaws.{min_choice, fold_start, fold-before, fold_is}
use Rattle.base_lists.specs.Tests.{either}

pub least_start : (n : ℕ) (f : ℕ → ℕ) (x : ℕ) → least n f x ≤ x
least_start n f x = fold_start min_choice n f x

pub least_le : (n : ℕ) (f : ℕ → ℕ) (x i : ℕ) → i < n → least n f x ≤ f i
least_le n f x i l = fold-before min_choice n f x i l

-- it is one of them
pub least-is : (n : ℕ) (f : ℕ → ℕ) (x : ℕ) → (least n f x ≡ x) ⊎ ((i : ℕ) × (i < n) × (least n f x ≡ f i))
least-is n f x = fold_is min_choice n f x

pub least-greatest : (n : ℕ) (f : ℕ → ℕ) (x z : ℕ) → z ≤ x → ((i : ℕ) → i < n → z ≤ f i) → z ≤ least n f x
least-greatest zero f x z a h = a
least-greatest (suc n) f x z a h =
    omega (arith, least-greatest n f x z a (λ (i : ℕ) (l : i < n). h i (le_step l)), h n (le_refl (suc n)))

-- the least of the numbers below n that pass is one of them, or there is none
pub least-found : (n : ℕ) (p : ℕ → Bool) (none : ℕ)
    → (least n (λ (w : ℕ). cond (p w) w none) none < n) ⊎ (least n (λ (w : ℕ). cond (p w) w none) none ≡ none)
least-found n p none = go (least-is n (λ (w : ℕ). cond (p w) w none) none)
  where
    at : (y i : ℕ) → i < n → y ≡ cond (p i) i none → (p i ≡ true) ⊎ (p i ≡ false) → (y < n) ⊎ (y ≡ none)
    at y i l e (inl h) = let q : y ≡ i = rw h at e in inl (rw q l)
    at y i l e (inr h) = inr (rw h at e)

    go : (least n (λ (w : ℕ). cond (p w) w none) none ≡ none)
        ⊎ ((i : ℕ) × (i < n) × (least n (λ (w : ℕ). cond (p w) w none) none ≡ cond (p i) i none))
        → (least n (λ (w : ℕ). cond (p w) w none) none < n) ⊎ (least n (λ (w : ℕ). cond (p w) w none) none ≡ none)
    go (inl e) = inr e
    go (inr w) = at (least n (λ (w : ℕ). cond (p w) w none) none) w.0 w.1 w.2 (either (p w.0))
