-- The bits of a byte after one of them is set.
use Rattle.std.specs.Prelude.{◌≡◌, refl, ℕ, zero, suc, ◌+◌, ◌-◌, ◌*◌, ◌/◌, ◌%◌, ◌^◌, ◌<◌}
use Rattle.std.proofs.Common.{sym, ap, ◌∙◌, one-mul, mul_assoc, mod-lt, arith, pow-add, shl_exact}
use Rattle.std.proofs.Math.Decide.{dec_lt}
use Rattle.std.proofs.Math.Nat.{div-eq_of_lt}
use Rattle.std.specs.Int.Bits.{bit_or, or_zero_r, shifted_even}
use Rattle.std.proofs.lemmas.Nat.{or_shr, or_mod, shl-shr}
use Rattle.std.proofs.Math.Pow.{pow-lt}

-- bit k of x
abbrev pub bit : ℕ → ℕ → ℕ
bit x k = x / 2 ^ k % 2

-- ---- the byte that has one bit set

one_same : (k : ℕ) → bit (1 * 2 ^ k) k ≡ 1
one_same k = ap (λ (x : ℕ). x % 2) (shl-shr 1 k)

one-above : (d k : ℕ) → bit (1 * 2 ^ (suc d + k)) k ≡ 0
one-above d k =
    ap (λ (x : ℕ). 1 * x / 2 ^ k % 2) (pow-add 2 (suc d) k)
    ∙ ap (λ (x : ℕ). x / 2 ^ k % 2) (sym (mul_assoc 1 (2 ^ suc d) (2 ^ k)))
    ∙ ap (λ (x : ℕ). x % 2) (shl-shr (1 * 2 ^ suc d) k)
    ∙ shifted_even 1 d

one_below : (j k : ℕ) → j < k → bit (1 * 2 ^ j) k ≡ 0
one_below j k l = ap (λ (x : ℕ). x / 2 ^ k % 2) (one-mul (2 ^ j)) ∙ ap (λ (x : ℕ). x % 2) (div-eq_of_lt (pow-lt l))

one-other : (j k : ℕ) → (j ≡ k → ⊥) → bit (1 * 2 ^ j) k ≡ 0
one-other j k n = go (dec_lt j k)
  where
    go : Dec (j < k) → bit (1 * 2 ^ j) k ≡ 0
    go (yes l) = one_below j k l
    go (no l) =
        let e : j ≡ suc (j - k - 1) + k = omega arith in
        ap (λ (i : ℕ). bit (1 * 2 ^ i) k) e ∙ one-above (j - k - 1) k

-- ---- a byte in which it is set

bit_or_lem : (x y k : ℕ) → bit (bit_or x y) k ≡ bit_or (bit x k) (bit y k)
bit_or_lem x y k = ap (λ (z : ℕ). z % 2) (or_shr x y k) ∙ or_mod (x / 2 ^ k) (y / 2 ^ k) 1

or_one : (y : ℕ) → y < 2 → bit_or y 1 ≡ 1
or_one zero h = refl
or_one (suc zero) h = refl
or_one (suc (suc y)) h = absurd (omega arith)

-- one of the eight, as a byte holds it
in_byte : (j : ℕ) → j < 8 → 1 * 2 ^ j % 256 ≡ 1 * 2 ^ j
in_byte j h = shl_exact 1 j 8 (omega arith) (omega arith)

pub set_same : (x k : ℕ) → k < 8 → bit (bit_or x (1 * 2 ^ k % 256)) k ≡ 1
set_same x k h =
    ap (λ (y : ℕ). bit (bit_or x y) k) (in_byte k h)
    ∙ bit_or_lem x (1 * 2 ^ k) k
    ∙ ap (λ (y : ℕ). bit_or (bit x k) y) (one_same k)
    ∙ or_one (bit x k) (mod-lt (x / 2 ^ k) (omega arith))

pub set_other : (x j k : ℕ) → j < 8 → (j ≡ k → ⊥) → bit (bit_or x (1 * 2 ^ j % 256)) k ≡ bit x k
set_other x j k h n =
    ap (λ (y : ℕ). bit (bit_or x y) k) (in_byte j h)
    ∙ bit_or_lem x (1 * 2 ^ j) k
    ∙ ap (λ (y : ℕ). bit_or (bit x k) y) (one-other j k n)
    ∙ or_zero_r (bit x k)
