-- The test whether two lists agree, one entry more at a time, and the entries that count.
use Rattle.std.specs.Prelude.{◌≡◌, ℕ, zero, suc, ◌+◌, ◌<◌, min, Bool, ◌&&◌, List, [], ◌∷◌, length, ◌==◌, slice_index}
use Rattle.std.proofs.Common.{sym, ap, le_of_suc-le-suc, not-suc-le-zero, add-one, arith}
use Rattle.std.proofs.Math.Bool.{and-true, and_assoc}
use Rattle.base_lists.specs.Folds.{agree}

agree_suc : (i : ℕ) (s t : List ℕ) → i < length s → i < length t →
    agree (suc i) s t ≡ (agree i s t && slice_index s i == slice_index t i)
agree_suc i [] t h l = absurd (not-suc-le-zero h)
agree_suc i (x ∷ s) [] h l = absurd (not-suc-le-zero l)
agree_suc zero (x ∷ s) (y ∷ t) h l = and-true (x == y)
agree_suc (suc i) (x ∷ s) (y ∷ t) h l =
    rw (agree_suc i s t (le_of_suc-le-suc h) (le_of_suc-le-suc l))
    (sym (and_assoc (x == y) (agree i s t) (slice_index s i == slice_index t i)))

-- a turn of a loop along both
pub agree-more : (i : ℕ) (s t : List ℕ) (same new : Bool) → i < length s → i < length t → same ≡ agree i s t
    → new ≡ (same && slice_index s i == slice_index t i) → new ≡ agree (i + 1) s t
agree-more i s t same new h l was put = rw (put, was, add-one i, agree_suc i s t h l)

-- past the end of either there is nothing to compare
pub agree-least : (n : ℕ) (s t : List ℕ) → agree (min n (min (length s) (length t))) s t ≡ agree n s t
agree-least zero s t = let e : min 0 (min (length s) (length t)) ≡ 0 = omega arith in rw e
agree-least (suc n) [] t = let e : min (suc n) (min 0 (length t)) ≡ 0 = omega arith in rw e
agree-least (suc n) (x ∷ s) [] = let e : min (suc n) (min (suc (length s)) 0) ≡ 0 = omega arith in rw e
agree-least (suc n) (x ∷ s) (y ∷ t) =
    let e : min (suc n) (min (suc (length s)) (suc (length t))) ≡ suc (min n (min (length s) (length t))) =
    omega arith in
    rw e (ap (λ (b : Bool). (x == y) && b) (agree-least n s t))
