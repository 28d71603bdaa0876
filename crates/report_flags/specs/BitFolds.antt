-- Folds over the bits of numbers: the bits that all of them have are no more than any one, and no one is more than the
-- bits that any has.
use Rattle.std.specs.Prelude.{◌≡◌, ℕ, zero, suc, ◌/◌, ◌%◌, ◌<◌, ◌≤◌, min, max, ◌⊎◌, bit_and, bit_or, refl}
use Rattle.std.proofs.Common.{ap, ◌∙◌, inl, inr, le_refl, not-suc-le-zero, arith}
use Rattle.std.proofs.Math.Nat.{le_step}
use Rattle.std.proofs.Math.Decide.{dec_lt}
use Rattle.std.proofs.Math.Arith.{bin_ind}
use Rattle.std.specs.Int.Bits.{and_step, or_step, or_add_and, or_self}
use Rattle.std.proofs.lemmas.Nat.{and_mask, and_le_l, and_le_r}
use Rattle.base_lists.specs.Folds.{fold}

-- ---- two numbers

or_ge_l : (a b : ℕ) → a ≤ bit_or a b
or_ge_l a b = omega (arith, or_add_and a b, and_le_r a b)

or_ge_r : (a b : ℕ) → b ≤ bit_or a b
or_ge_r a b = omega (arith, or_add_and a b, and_le_l a b)

-- the second number taken in twice
pub and_again : (a b : ℕ) → bit_and (bit_and a b) b ≡ bit_and a b
and_again a = bin_ind (λ (n : ℕ). (b : ℕ) → bit_and (bit_and n b) b ≡ bit_and n b) (λ b. refl) step a
  where
    step : (n : ℕ) → ((b : ℕ) → bit_and (bit_and (n / 2) b) b ≡ bit_and (n / 2) b) → (b : ℕ) →
        bit_and (bit_and n b) b ≡ bit_and n b
    step n again b =
        let z = bit_and n b in
        let half : z / 2 ≡ bit_and (n / 2) (b / 2) = omega (arith, and_step n b) in
        let odd : z % 2 ≡ min (n % 2) (b % 2) = omega (arith, and_step n b) in
        omega (arith, and_step z b, and_step n b, odd, ap (λ (x : ℕ). bit_and x (b / 2)) half ∙ again (b / 2))

pub or_again : (a b : ℕ) → bit_or (bit_or a b) b ≡ bit_or a b
or_again a = bin_ind (λ (n : ℕ). (b : ℕ) → bit_or (bit_or n b) b ≡ bit_or n b) or_self step a
  where
    step : (n : ℕ) → ((b : ℕ) → bit_or (bit_or (n / 2) b) b ≡ bit_or (n / 2) b) → (b : ℕ) → bit_or (bit_or n b) b
        ≡ bit_or n b
    step n again b =
        let z = bit_or n b in
        let half : z / 2 ≡ bit_or (n / 2) (b / 2) = omega (arith, or_step n b) in
        let odd : z % 2 ≡ max (n % 2) (b % 2) = omega (arith, or_step n b) in
        omega (arith, or_step z b, or_step n b, odd, ap (λ (x : ℕ). bit_or x (b / 2)) half ∙ again (b / 2))

-- a word keeps its bits
pub and_word : (x : ℕ) → x ≤ 65535 → bit_and x 65535 ≡ x
and_word x h = omega (arith, and_mask x 16)

-- ---- folds

pub all_start : (n : ℕ) (f : ℕ → ℕ) (x : ℕ) → fold bit_and n f x ≤ x
all_start zero f x = le_refl x
all_start (suc n) f x = omega (arith, all_start n f x, and_le_l (fold bit_and n f x) (f n))

pub all_le : (n : ℕ) (f : ℕ → ℕ) (x i : ℕ) → i < n → fold bit_and n f x ≤ f i
all_le zero f x i l = absurd (not-suc-le-zero l)
all_le (suc n) f x i l = go (dec_lt i n) (λ (h : i < n). all_le n f x i h)
  where
    same : i ≡ n → fold bit_and (suc n) f x ≤ f i
    same e = rw e (and_le_r (fold bit_and n f x) (f n))

    go : Dec (i < n) → (i < n → fold bit_and n f x ≤ f i) → fold bit_and (suc n) f x ≤ f i
    go (yes h) below = omega (arith, below h, and_le_l (fold bit_and n f x) (f n))
    go (no h) below = same (omega arith)

pub any_ge : (n : ℕ) (f : ℕ → ℕ) (x i : ℕ) → i < n → f i ≤ fold bit_or n f x
any_ge zero f x i l = absurd (not-suc-le-zero l)
any_ge (suc n) f x i l = go (dec_lt i n) (λ (h : i < n). any_ge n f x i h)
  where
    same : i ≡ n → f i ≤ fold bit_or (suc n) f x
    same e = rw e (or_ge_r (fold bit_or n f x) (f n))

    go : Dec (i < n) → (i < n → f i ≤ fold bit_or n f x) → f i ≤ fold bit_or (suc n) f x
    go (yes h) below = omega (arith, below h, or_ge_l (fold bit_or n f x) (f n))
    go (no h) below = same (omega arith)

-- where each is the start or y, the fold is one of them too
pub fold-one : (op : ℕ → ℕ → ℕ) (s y : ℕ) → op s s ≡ s → op s y ≡ y → op y s ≡ y → op y y ≡ y
    → (n : ℕ) (f : ℕ → ℕ) → ((i : ℕ) → i < n → (f i ≡ s) ⊎ (f i ≡ y)) → (fold op n f s ≡ s) ⊎ (fold op n f s ≡ y)
fold-one op s y ss sy ys yy zero f h = inl refl
fold-one op s y ss sy ys yy (suc n) f h =
    go (fold-one op s y ss sy ys yy n f (λ (i : ℕ) (l : i < n). h i (le_step l))) (h n (le_refl (suc n)))
  where
    go : (fold op n f s ≡ s) ⊎ (fold op n f s ≡ y) → (f n ≡ s) ⊎ (f n ≡ y) →
        (fold op (suc n) f s ≡ s) ⊎ (fold op (suc n) f s ≡ y)
    go (inl e) (inl g) = inl (rw (e, g) ss)
    go (inl e) (inr g) = inr (rw (e, g) sy)
    go (inr e) (inl g) = inr (rw (e, g) ys)
    go (inr e) (inr g) = inr (rw (e, g) yy)
