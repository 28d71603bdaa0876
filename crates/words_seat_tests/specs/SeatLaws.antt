-- Flags of the seats, and a search for one.
use Rattle.std.specs.Prelude.{◌≡◌, refl, Bool, true, false, not, [], ◌∷◌, ℕ, zero, suc, ◌+◌, ◌≤◌, ◌<◌, get_or}
use Rattle.std.proofs.Common.{sym, add-one, arith}
use Rattle.base_lists.specs.Folds.{some}
use Rattle.base_lists.specs.Some.{some-exact}

pub eight_flags : (f : ℕ → Bool) (b0 b1 b2 b3 b4 b5 b6 b7 : Bool) → b0 ≡ f 0 → b1 ≡ f 1 → b2 ≡ f 2 → b3 ≡ f 3 →
    b4 ≡ f 4 → b5 ≡ f 5 → b6 ≡ f 6 → b7 ≡ f 7
    → (i : ℕ) → i < 8 → get_or (b0 ∷ b1 ∷ b2 ∷ b3 ∷ b4 ∷ b5 ∷ b6 ∷ b7 ∷ []) i false ≡ f i
eight_flags f b0 b1 b2 b3 b4 b5 b6 b7 e0 e1 e2 e3 e4 e5 e6 e7 = first
  where
    rest : (i : ℕ) → 4 + i < 8 → get_or (b4 ∷ b5 ∷ b6 ∷ b7 ∷ []) i false ≡ f (4 + i)
    rest zero h = e4
    rest (suc zero) h = e5
    rest (suc (suc zero)) h = e6
    rest (suc (suc (suc zero))) h = e7
    rest (suc (suc (suc (suc i)))) h = absurd (omega arith)

    first : (i : ℕ) → i < 8 → get_or (b0 ∷ b1 ∷ b2 ∷ b3 ∷ b4 ∷ b5 ∷ b6 ∷ b7 ∷ []) i false ≡ f i
    first zero h = e0
    first (suc zero) h = e1
    first (suc (suc zero)) h = e2
    first (suc (suc (suc zero))) h = e3
    first (suc (suc (suc (suc i)))) h = let e : 4 + i ≡ suc (suc (suc (suc i))) =
        omega arith in rw (sym e) (rest i (omega arith))

pub search_found : (p : ℕ → Bool) (i n : ℕ) → i < n → p i ≡ true → false ≡ not (some n p)
search_found p i n h e = rw ((some-exact n p).1 (i, h, e)) refl

pub search_more : (p : ℕ → Bool) (i : ℕ) → some i p ≡ false → p i ≡ false → some (i + 1) p ≡ false
search_more p i h e = rw (add-one i) (rw (h, e) refl)

pub search_none : (p : ℕ → Bool) (i n : ℕ) → some i p ≡ false → i ≤ n → n ≤ i → true ≡ not (some n p)
search_none p i n h l g = let e : i ≡ n = omega arith in let s : some n p ≡ false = rw e at h in rw s refl
