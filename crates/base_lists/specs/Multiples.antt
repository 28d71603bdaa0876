-- Multiples of a width, and of widths that double.
use Rattle.std.specs.Prelude.{◌≡◌, ◌⊎◌, ℕ, zero, suc, ◌+◌, ◌*◌, ◌-◌, ◌/◌, ◌%◌, ◌≤◌, ◌<◌, ◌^◌}
use Rattle.std.proofs.Common.{sym, ◌∙◌, inl, inr, zero-mul, suc-mul, add-mul, mul-add, mul-one, mul-le-mul_right}
use Rattle.std.proofs.Common.{div-add-mod', arith}
use Rattle.std.proofs.Math.Nat.{mul-mod_left}
use Rattle.std.proofs.Math.Decide.{dec_lt}

abbrev pub Multiple : ℕ → ℕ → Type 0
Multiple m x = (c : ℕ) × (x ≡ c * m)

pub multiple_one : (x : ℕ) → Multiple 1 x
multiple_one x = (x, sym (mul-one x))

pub multiple_up : (m x : ℕ) → Multiple m x → Multiple m (x + m)
multiple_up m x (c, e) = (suc c, omega (arith, suc-mul c m))

pub multiple_down : (m x : ℕ) → Multiple m x → Multiple m (x - m)
multiple_down m x (zero, e) = (zero, omega (arith, zero-mul m))
multiple_down m x (suc c, e) = (c, omega (arith, suc-mul c m))

-- the next multiple is a width on
pub multiple_step : (m x y : ℕ) → Multiple m x → Multiple m y → x < y → x + m ≤ y
multiple_step m x y (c, e) (d, f) h = go (dec_lt c d)
  where
    go : Dec (c < d) → x + m ≤ y
    go (yes l) = omega (arith, suc-mul c m, mul-le-mul_right {m = suc c} {n = d} m l)
    go (no l) = absurd (omega (arith, mul-le-mul_right {m = d} {n = c} m (omega arith)))

-- below the width there is only 0
pub multiple_zero : (m x : ℕ) → Multiple m x → x < m → x ≡ 0
multiple_zero m x (zero, e) h = omega (arith, zero-mul m)
multiple_zero m x (suc c, e) h = omega (arith, suc-mul c m)

-- the test by remainder
pub no_remainder : (m x : ℕ) → x % m ≡ 0 → Multiple m x
no_remainder m x e = (x / m, omega (arith, div-add-mod' x m))

pub multiple_remainder : (m x : ℕ) → Multiple m x → x % m ≡ 0
multiple_remainder m x (c, e) = rw e (mul-mod_left c m)

-- ---- powers of two

double : (i c : ℕ) → c * 2 ^ suc i ≡ c * 2 ^ i + c * 2 ^ i
double i c = let power : 2 ^ suc i ≡ 2 ^ i + 2 ^ i = omega arith in rw power (mul-add c (2 ^ i) (2 ^ i))

-- a multiple of 2 ^ (i + 1) is one of 2 ^ i
pub multiple_half : (i x : ℕ) → Multiple (2 ^ suc i) x → Multiple (2 ^ i) x
multiple_half i x (c, e) = (c + c, omega (arith, double i c, add-mul c c (2 ^ i)))

-- where it is not, its neighbours are multiples of 2 ^ (i + 1)
pub odd_multiple : (i x : ℕ) → Multiple (2 ^ i) x → (x % 2 ^ suc i ≡ 0 → ⊥)
    → (2 ^ i ≤ x) × Multiple (2 ^ suc i) (x + 2 ^ i) × Multiple (2 ^ suc i) (x - 2 ^ i)
odd_multiple i x (c, e) h = go (c / 2) (parity c)
  where
    parity : (b : ℕ) → (b ≡ b / 2 + b / 2) ⊎ (b ≡ suc (b / 2 + b / 2))
    parity b = pick (dec_lt (b % 2) 1)
      where
        pick : Dec (b % 2 < 1) → (b ≡ b / 2 + b / 2) ⊎ (b ≡ suc (b / 2 + b / 2))
        pick (yes l) = inl (omega arith)
        pick (no l) = inr (omega arith)

    go : (d : ℕ) → (c ≡ d + d) ⊎ (c ≡ suc (d + d)) →
        (2 ^ i ≤ x) × Multiple (2 ^ suc i) (x + 2 ^ i) × Multiple (2 ^ suc i) (x - 2 ^ i)
    go d (inl q) =
        let even : x ≡ (d + d) * 2 ^ i = e ∙ rw q in
        absurd (h (multiple_remainder (2 ^ suc i) x (d, omega (arith, double i d, add-mul d d (2 ^ i)))))
    go d (inr q) =
        let uneven : x ≡ suc (d + d) * 2 ^ i = e ∙ rw q in
        let parts : x ≡ d * 2 ^ suc i + 2 ^ i =
        omega (arith, double i d, add-mul d d (2 ^ i), suc-mul (d + d) (2 ^ i)) in
        (omega arith, (suc d, omega (arith, suc-mul d (2 ^ suc i))), (d, omega arith))
