-- The bits of a mask are the units' flags.
use Rattle.std.specs.Prelude.{◌≡◌, refl, Bool, true, false, cond, ◌↔◌, List, ℕ, zero, suc, ◌+◌, ◌*◌, ◌/◌, ◌%◌, ◌^◌, ◌≤◌}
use Rattle.std.specs.Prelude.{◌<◌, get_or}
use Rattle.std.proofs.Common.{ap, sym, ◌∙◌}
use native.Mathlib.Omega.{arith}
use Rattle.small_tables.specs.Small.{mask_of}

abbrev bit : Bool → ℕ
bit b = cond b 1 0

bit-small : (b : Bool) → bit b ≤ 1
bit-small true = omega arith
bit-small false = omega arith

bit_power : (b : Bool) (p : ℕ) → cond b p 0 ≡ bit b * p
bit_power true p = omega arith
bit_power false p = omega arith

bit-set : (b : Bool) → (bit b ≡ 1) ↔ (b ≡ true)
bit-set true = (λ _. refl, λ _. refl)
bit-set false = (λ e. absurd (omega (arith, e)), λ e. ap bit e)

-- five bits and the number that they make
bits_of : (m a b c d e : ℕ) → a ≤ 1 → b ≤ 1 → c ≤ 1 → d ≤ 1 → e ≤ 1 → m ≡ a + b * 2 + c * 4 + d * 8 + e * 16
    → (m / 1 % 2 ≡ a) × (m / 2 % 2 ≡ b) × (m / 4 % 2 ≡ c) × (m / 8 % 2 ≡ d) × (m / 16 % 2 ≡ e)
bits_of m a b c d e la lb lc ld le q = (omega arith, omega arith, omega arith, omega arith, omega arith)

as_flag : (x : ℕ) (b : Bool) → x ≡ bit b → (x ≡ 1) ↔ (b ≡ true)
as_flag x b e = (λ h. (bit-set b).0 (sym e ∙ h), λ h. e ∙ (bit-set b).1 h)

module _ (singles : List Bool) where
  parts : mask_of singles
      ≡ bit (get_or singles 0 false) + bit (get_or singles 1 false) * 2 + bit (get_or singles 2 false) * 4
      + bit (get_or singles 3 false) * 8 + bit (get_or singles 4 false) * 16
  unfolding mask_of
  parts =
      omega (
        arith,
        bit_power (get_or singles 0 false) 1,
        bit_power (get_or singles 1 false) 2,
        bit_power (get_or singles 2 false) 4,
        bit_power (get_or singles 3 false) 8,
        bit_power (get_or singles 4 false) 16,
      )

  pub mask-bit : (v : ℕ) → v < 5 → (mask_of singles / 2 ^ v % 2 ≡ 1) ↔ (get_or singles v false ≡ true)
  mask-bit v l =
      go v l
      (bits_of (mask_of singles) _ _ _ _ _ (bit-small (get_or singles 0 false)) (bit-small (get_or singles 1 false))
      (bit-small (get_or singles 2 false)) (bit-small (get_or singles 3 false)) (bit-small (get_or singles 4 false))
      parts)
    where
      Bit : ℕ → Type 0
      Bit u = mask_of singles / 2 ^ u % 2 ≡ bit (get_or singles u false)

      go : (u : ℕ) → u < 5 → Bit 0 × Bit 1 × Bit 2 × Bit 3 × Bit 4
          → (mask_of singles / 2 ^ u % 2 ≡ 1) ↔ (get_or singles u false ≡ true)
      go zero h all = as_flag _ _ all.0
      go (suc zero) h all = as_flag _ _ all.1
      go (suc (suc zero)) h all = as_flag _ _ all.2
      go (suc (suc (suc zero))) h all = as_flag _ _ all.3
      go (suc (suc (suc (suc zero)))) h all = as_flag _ _ all.4
      go (suc (suc (suc (suc (suc u))))) h all = absurd (omega arith)
