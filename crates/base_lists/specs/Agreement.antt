-- What the test `agree` of two lists says of their entries.
use Rattle.std.specs.Prelude.{◌≡◌, true, false, ◌⊎◌, List, [], ◌∷◌, ℕ, zero, suc, ◌≤◌, ◌<◌, eqb, length, get_or}
use Rattle.std.proofs.Common.{true≢false, inl, inr, zero-le, suc-le-suc, le_of_suc-le-suc, not-suc-le-zero, eqb-true}
use Rattle.std.proofs.lemmas.Bool.{eqb-false}
use Rattle.base_lists.specs.Folds.{agree}
use Rattle.base_lists.specs.Tests.{either, and_left, and_right}

pub agree_at : (n : ℕ) (s t : List ℕ) (d : ℕ) → n ≤ length s → n ≤ length t → agree n s t ≡ true → (i : ℕ) → i < n →
    get_or s i d ≡ get_or t i d
agree_at zero s t d hs ht e i l = absurd (not-suc-le-zero l)
agree_at (suc n) [] t d hs ht e i l = absurd (not-suc-le-zero hs)
agree_at (suc n) (x ∷ s) [] d hs ht e i l = absurd (not-suc-le-zero ht)
agree_at (suc n) (x ∷ s) (y ∷ t) d hs ht e zero l = eqb-true x y (and_left (eqb x y) (agree n s t) e)
agree_at (suc n) (x ∷ s) (y ∷ t) d hs ht e (suc i) l =
    agree_at n s t d (le_of_suc-le-suc hs) (le_of_suc-le-suc ht) (and_right (eqb x y) (agree n s t) e) i
    (le_of_suc-le-suc l)

-- where it fails two entries differ
pub agree_differ : (n : ℕ) (s t : List ℕ) (d : ℕ) → agree n s t ≡ false →
    (i : ℕ) × (i < n) × (get_or s i d ≡ get_or t i d → ⊥)
agree_differ zero s t d e = absurd (true≢false e)
agree_differ (suc n) [] t d e = absurd (true≢false e)
agree_differ (suc n) (x ∷ s) [] d e = absurd (true≢false e)
agree_differ (suc n) (x ∷ s) (y ∷ t) d e = go (either (eqb x y)) (agree_differ n s t d)
  where
    go : (eqb x y ≡ true) ⊎ (eqb x y ≡ false) →
        (agree n s t ≡ false → (i : ℕ) × (i < n) × (get_or s i d ≡ get_or t i d → ⊥))
        → (i : ℕ) × (i < suc n) × (get_or (x ∷ s) i d ≡ get_or (y ∷ t) i d → ⊥)
    go (inl h) later =
        let f : agree n s t ≡ false = rw h at e in
        let w = later f in
        (suc w.0, suc-le-suc w.1, w.2)
    go (inr h) later = (zero, suc-le-suc zero-le, eqb-false x y h)
