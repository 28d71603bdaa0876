-- Digits as a loop meets them.
use Rattle.std.specs.Prelude.{◌≡◌, Bool, true, false, ◌&&◌, List, [], ◌∷◌, ℕ, zero, suc, ◌+◌, ◌*◌, ◌-◌, ◌≤◌, ◌<◌, eqb}
use Rattle.std.specs.Prelude.{leb, ltb, get_or, drop, ℤ, pos, negsuc, ◌-ℤ◌}
use Rattle.std.proofs.Math.Path.{refl}
use Rattle.std.proofs.Common.{ap, drop_of_length-le}
use Rattle.std.proofs.Math.Decide.{dec_lt}
use native.Mathlib.Omega.{arith}
use Rattle.std.proofs.Math.ListN.{length}
use borrow.Author.Tests.{leb-true, ltb-true, lt-ltb, le-ltb}
use Rattle.base_lists.specs.Rests.{rest-one}
use Rattle.base_lists.specs.Tests.{and_left, and_right}
use Rattle.std.specs.Int.Signed.{mag}
use Rattle.base_streams.specs.Stream.{goes, value_of, width, closed, after, part_at, start, signed, level_at}
use Rattle.base_streams.specs.declared.Cursor.{Cursor}
use Rattle.base_streams.specs.declared.Number.{Number}
use Rattle.base_streams.specs.declared.Level.{Level}

pub past : (s : List ℕ) (i : ℕ) → length s ≤ i → get_or s i 0 ≡ 0
past [] i h = refl
past (x ∷ s) zero h = absurd (omega arith)
past (x ∷ s) (suc i) h = past s i (omega arith)

-- a byte other than 0 stands before the end
pub inside : (s : List ℕ) (i : ℕ) → 0 < get_or s i 0 → i < length s
inside s i h = go (dec_lt i (length s))
  where
    go : Dec (i < length s) → i < length s
    go (yes l) = l
    go (no l) = absurd (omega (arith, past s i (omega arith)))

-- one digit more
module _ (v c : ℕ) (e : goes v c ≡ true) where
  pub digit_low : 48 ≤ c
  digit_low = leb-true 48 c (and_left (leb 48 c) (leb c 57 && ltb v 100000000) e)

  pub digit_high : c ≤ 57
  digit_high = leb-true c 57 (and_left (leb c 57) (ltb v 100000000)
      (and_right (leb 48 c) (leb c 57 && ltb v 100000000) e))

  pub value-small : v < 100000000
  value-small = ltb-true v 100000000 (and_right (leb c 57) (ltb v 100000000)
      (and_right (leb 48 c) (leb c 57 && ltb v 100000000) e))

module _ (s : List ℕ) (i v : ℕ) where
  pub digit_inside : goes v (get_or s i 0) ≡ true → i < length s
  digit_inside e = inside s i (omega (arith, digit_low v (get_or s i 0) e))

  pub value-more : goes v (get_or s i 0) ≡ true →
      value_of v (drop i s) ≡ value_of (10 * v + (get_or s i 0 - 48)) (drop (i + 1) s)
  unfolding value_of
  value-more e = rw (rest-one s i 0 (digit_inside e), e) refl

  pub width-more : goes v (get_or s i 0) ≡ true →
      width v (drop i s) ≡ suc (width (10 * v + (get_or s i 0 - 48)) (drop (i + 1) s))
  unfolding width
  width-more e = rw (rest-one s i 0 (digit_inside e), e) refl

  pub digits-end : goes v (get_or s i 0) ≡ false → (value_of v (drop i s) ≡ v) × (width v (drop i s) ≡ 0)
  unfolding value_of width
  digits-end e = go (dec_lt i (length s))
    where
      go : Dec (i < length s) → (value_of v (drop i s) ≡ v) × (width v (drop i s) ≡ 0)
      go (yes l) = rw (rest-one s i 0 l, e) (refl, refl)
      go (no l) = let h : length s ≤ i = omega arith in rw (drop_of_length-le s h) (refl, refl)

-- ---- signs

pub below_zero : (v : ℕ) → pos 0 -ℤ pos v ≡ signed true v
below_zero zero = refl
below_zero (suc v) = rw (lt-ltb 0 (suc v) (omega arith)) (ap negsuc (omega arith))

pub signed-small : (b : Bool) (v : ℕ) → v ≤ 32767 → mag (signed b v) < 32768
signed-small false v h = omega arith
signed-small true zero h = omega arith
signed-small true (suc v) h = omega arith

-- ---- a number

abbrev faulty : Cursor → Number
faulty c = record { value = 0; cursor = record { at = c.at; fault = true } }

pub part-fault : (s : List ℕ) (c : Cursor) (from : ℕ) → c.fault ≡ true → faulty c ≡ part_at s c from
unfolding part_at
part-fault s c from e = rw e refl

module _ (s : List ℕ) (c : Cursor) (from end : ℕ) (clean : c.fault ≡ false)
    (e : end ≡ from + width 0 (drop from s)) where
  pub part-empty : end ≤ from → faulty c ≡ part_at s c from
  unfolding part_at
  part-empty h = rw (← e) (rw (clean, le-ltb from end h) refl)

  pub part_open : from < end → closed s end ≡ false → faulty c ≡ part_at s c from
  unfolding part_at
  part_open l o = rw (← e) (rw (clean, lt-ltb from end l, o) refl)

  pub part-read : (value next : ℕ) → from < end → closed s end ≡ true → value ≡ value_of 0 (drop from s) →
      next ≡ after s end
      → ◌≡◌ {A = Number} (record { value = value; cursor = record { at = next; fault = false } }) (part_at s c from)
  unfolding part_at
  part-read value next l o v n = rw (v, n) (rw (← e) (rw (clean, lt-ltb from end l, o) refl))

-- ---- a level

abbrev faulty_level : Cursor → Level
faulty_level c = record { value = pos 0; cursor = record { at = c.at; fault = true } }

module _ (s : List ℕ) (c : Cursor) (p : Number) (e : p ≡ part_at s c (start s c.at)) where
  pub level-fault : p.cursor.fault ≡ true → faulty_level c ≡ level_at s c
  unfolding level_at
  level-fault f = rw (← e) (rw f refl)

  pub level_great : p.cursor.fault ≡ false → 32767 < p.value → faulty_level c ≡ level_at s c
  unfolding level_at
  level_great f l = rw (← e) (rw (f, lt-ltb 32767 p.value l) refl)

  pub level-read : (x : ℤ) → p.cursor.fault ≡ false → p.value ≤ 32767 →
      x ≡ signed (eqb (get_or s c.at 0) 45) p.value
      → ◌≡◌ {A = Level} (record { value = x; cursor = p.cursor }) (level_at s c)
  unfolding level_at
  level-read x f l q = rw q (rw (← e) (rw (f, le-ltb 32767 p.value l) refl))
