-- A table of flags, one a number: 1 where a test passes, else 0.
use Rattle.std.specs.Prelude.{◌≡◌, ℕ, ◌+◌, ◌<◌, ◌≤◌, Bool, true, false, cond, List, length, replicate, ◌==◌, nat_eq}
use Rattle.std.specs.Prelude.{slice_index, slice_set, refl}
use Rattle.std.proofs.Common.{sym, ◌∙◌, add-one, arith}
use Rattle.std.proofs.Math.Decide.{dec_lt}
use Rattle.std.proofs.lemmas.List.{length-replicate}
use Rattle.std.proofs.Math.Seq.{set_out}
use Rattle.base_lists.specs.Tables.{over, length_over, get_d_over, set-over}
use Rattle.base_lists.specs.Folds.{count}
use Rattle.base_lists.specs.Counts.{count_cong}

-- the numbers below n that have a place, of size places
unfoldable pub flag_table : ℕ → ℕ → (ℕ → Bool) → List ℕ
flag_table size n p = over n (λ (i : ℕ). cond (p i) 1 0) (replicate size 0)

length_flags : (size n : ℕ) (p : ℕ → Bool) → length (flag_table size n p) ≡ size
unfolding flag_table
length_flags size n p = length_over n (λ (i : ℕ). cond (p i) 1 0) (replicate size 0) ∙ length-replicate {A = ℕ} size 0

pub flag_at : (size n : ℕ) (p : ℕ → Bool) (i : ℕ) → i < n → i < size → slice_index (flag_table size n p) i
    ≡ cond (p i) 1 0
unfolding flag_table
flag_at size n p i h l = get_d_over n (λ (i : ℕ). cond (p i) 1 0) (replicate size 0) i 0 h
    (omega (arith, length-replicate {A = ℕ} size 0))

-- ---- one more

pub flags_none : (size : ℕ) (p : ℕ → Bool) → replicate size 0 ≡ flag_table size 0 p
unfolding flag_table
flags_none size p = refl

-- a store past the last place does nothing, whatever is stored
pub flags_more : (size n : ℕ) (p : ℕ → Bool) (y : ℕ) → (n < size → y ≡ cond (p n) 1 0) →
    slice_set (flag_table size n p) n y ≡ flag_table size (n + 1) p
unfolding flag_table
flags_more size n p y h = go (dec_lt n size)
  where
    f : ℕ → ℕ
    f i = cond (p i) 1 0

    past : size ≤ n → (z : ℕ) → slice_set (flag_table size n p) n z ≡ flag_table size n p
    past l z = set_out (flag_table size n p) n z (omega (arith, length_flags size n p))

    go : Dec (n < size) → slice_set (flag_table size n p) n y ≡ flag_table size (n + 1) p
    go (yes l) = rw (add-one n, h l) (set-over n f (replicate size 0))
    go (no l) = rw (add-one n) (past (omega arith) y ∙ sym (past (omega arith) (f n)) ∙ set-over n f (replicate size 0))

-- ---- flags counted

flag-test : (b : Bool) → (cond b 1 0 == 1) ≡ b
flag-test true = refl
flag-test false = refl

pub flags_count : (size n : ℕ) (p : ℕ → Bool) → n ≤ size →
    count n (λ (i : ℕ). nat_eq (slice_index (flag_table size n p) i) 1) ≡ count n p
flags_count size n p h =
    count_cong n (λ (i : ℕ). nat_eq (slice_index (flag_table size n p) i) 1) p
    (λ (i : ℕ) (l : i < n). rw (flag_at size n p i l (omega arith)) (flag-test (p i)))
