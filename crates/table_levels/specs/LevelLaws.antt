-- Levels by the numbers below a power of two that stand for them.
use Rattle.std.specs.Prelude.{◌≡◌, refl, Bool, true, false, not, ◌&&◌, ◌↔◌, List, ℕ, suc, ◌+◌, ◌-◌, ◌/◌, ◌%◌, ◌≤◌, ◌<◌}
use Rattle.std.specs.Prelude.{T, leb, ℤ, pos, negsuc, ◌+ℤ◌, ◌-ℤ◌, length, get_or, drop, ◌≤ℤ◌, zero}
use Rattle.std.proofs.Common.{sym, ap, ◌∙◌, mod-eq_of_lt, arith, drop_of_length-le, lt-ltb, le-ltb, le-leb, leb-true}
use Rattle.std.proofs.Math.Bool.{and_assoc, and-true}
use Rattle.std.proofs.lemmas.Bool.{false≢true, lt-leb}
use Rattle.std.proofs.Math.Decide.{dec_lt, dec_le}
use Rattle.std.specs.Int.Signed.{mag, le_z}
use Rattle.base_lists.specs.Folds.{every}
use Rattle.base_lists.specs.Tests.{and_left, and_exact}
use Rattle.base_lists.specs.Rests.{rest-one}
use Rattle.table_levels.specs.Level.{LOWEST, HIGHEST, in_range, twos, signed, level_byte, byte_level, raised_of}

-- ---- in range, by the order of signed numbers

abbrev pub InRange : ℤ → Type 0
InRange z = (LOWEST ≤ℤ z) × (z ≤ℤ HIGHEST)

test-exact : (b : Bool) → (b ≡ true) ↔ T b
test-exact true = (λ e. tt, λ h. refl)
test-exact false = (λ e. absurd (false≢true e), λ h. absurd h)

order-exact : (x y : ℤ) → (le_z x y ≡ true) ↔ (x ≤ℤ y)
order-exact x y = (λ e. record { le = (test-exact (le_z x y)).0 e }, λ h. (test-exact (le_z x y)).1 h.le)

pub range-exact : (z : ℤ) → (in_range z ≡ true) ↔ InRange z
unfolding in_range
range-exact z = and_exact (le_z LOWEST z) (le_z z HIGHEST) (order-exact LOWEST z) (order-exact z HIGHEST)

pub zero_range : in_range HIGHEST ≡ true
unfolding in_range
zero_range = refl

-- one bound after the other
pub range-low : (z : ℤ) → le_z LOWEST z ≡ false → in_range z ≡ false
unfolding in_range
range-low z e = ap (λ (b : Bool). b && le_z z HIGHEST) e

pub range-high : (z : ℤ) → le_z LOWEST z ≡ true → in_range z ≡ le_z z HIGHEST
unfolding in_range
range-high z e = ap (λ (b : Bool). b && le_z z HIGHEST) e

-- ---- a level by 65,536 higher

pub raise_sum : (z : ℤ) → mag z < 32768 → z +ℤ pos 65536 ≡ pos (raised_of z)
unfolding raised_of
raise_sum (pos n) h = ap pos (omega arith)
raise_sum (negsuc n) h = rw (le-ltb 65536 (suc n) (omega arith)) (ap pos (omega arith))

pub raised-few : (z : ℤ) → mag z < 32768 → raised_of z < 98304
unfolding raised_of
raised-few (pos n) h = omega arith
raised-few (negsuc n) h = omega arith

-- its place among the powers
pub raised_byte : (z : ℤ) → mag z < 32768 → raised_of z % 256 ≡ twos 256 z
unfolding raised_of twos
raised_byte (pos n) h = omega arith
raised_byte (negsuc n) h = omega arith

pub raised-word : (z : ℤ) → mag z < 32768 → raised_of z % 65536 ≡ twos 65536 z
unfolding raised_of twos
raised-word (pos n) h = omega arith
raised-word (negsuc n) h = omega arith

-- ---- there and back

pub signed-few : (power x : ℕ) → x < power / 2 → signed power x ≡ pos x
unfolding signed
signed-few power x h = rw (lt-ltb x (power / 2) h) refl

pub signed-many : (power x : ℕ) → power / 2 ≤ x → signed power x ≡ negsuc (power - 1 - x)
unfolding signed
signed-many power x h = rw (le-ltb x (power / 2) h) refl

-- less the power
pub lower-sum : (power x : ℕ) → 0 < power → x < power → power / 2 ≤ x → pos x -ℤ pos power ≡ signed power x
lower-sum power x p h l = go power p h l
  where
    go : (k : ℕ) → 0 < k → x < k → k / 2 ≤ x → pos x -ℤ pos k ≡ signed k x
    go zero q m r = absurd (omega (arith, q))
    go (suc k) q m r = rw (signed-many (suc k) x r, lt-ltb x (suc k) m) (ap negsuc (omega arith))

pub signed-fits : (power x : ℕ) → x < power → mag (signed power x) ≤ power / 2
signed-fits power x h = go (dec_lt x (power / 2))
  where
    go : Dec (x < power / 2) → mag (signed power x) ≤ power / 2
    go (yes l) = rw (signed-few power x l) (omega arith)
    go (no l) = rw (signed-many power x (omega arith)) (omega arith)

-- a negative one is above half the power
pub signed_low : (power x : ℕ) → x < power → power / 2 ≤ x → mag (signed power x) < power - power / 2
signed_low power x h l = rw (signed-many power x l) (omega arith)

-- a number below the power comes back
pub twos-signed : (power x : ℕ) → x < power → power ≡ power / 2 + power / 2 → twos power (signed power x) ≡ x
unfolding twos
twos-signed power x h e = go (dec_lt x (power / 2))
  where
    go : Dec (x < power / 2) → twos power (signed power x) ≡ x
    go (yes l) = rw (signed-few power x l) (mod-eq_of_lt h)
    go (no l) =
        let low : power - 1 - x < power = omega arith in
        rw (signed-many power x (omega arith)) (rw (mod-eq_of_lt low) (omega arith))

-- and so does a signed number that has its place in the power
pub signed-twos : (power : ℕ) (z : ℤ) → power ≡ power / 2 + power / 2 → mag z < power / 2 →
    signed power (twos power z) ≡ z
unfolding twos
signed-twos power (pos n) e h = let low : n < power = omega arith in rw (mod-eq_of_lt low) (signed-few power n h)
signed-twos power (negsuc n) e h =
    let low : n < power = omega arith in
    rw (mod-eq_of_lt low) (signed-many power (power - 1 - n) (omega arith) ∙ ap negsuc (omega arith))

-- a byte is one
pub byte_below : (z : ℤ) → level_byte z < 256
unfolding twos
byte_below (pos n) = omega arith
byte_below (negsuc n) = omega arith

-- a level that a table may have has its place in a byte
range_mag : (z : ℤ) → in_range z ≡ true → mag z < 128
unfolding in_range
range_mag (pos n) e = omega (arith, leb-true n 0 e)
range_mag (negsuc n) e = omega (arith, leb-true n 126 (and_left (leb n 126) true e))

pub byte_back : (z : ℤ) → in_range z ≡ true → byte_level (level_byte z) ≡ z
byte_back z e = signed-twos 256 z refl (range_mag z e)

-- of the bytes only 0 and those above 128 are levels of a table
pub byte_zero : in_range (byte_level 0) ≡ true
unfolding signed
byte_zero = zero_range

pub byte_bad : (b : ℕ) → b < 256 → (b ≡ 0 → ⊥) → leb b 128 ≡ not (in_range (byte_level b))
unfolding in_range
byte_bad b h n = go (dec_lt b 128) (dec_le b 128)
  where
    go : Dec (b < 128) → Dec (b ≤ 128) → leb b 128 ≡ not (in_range (byte_level b))
    go (yes l) m = rw (signed-few 256 b l, le-leb b 128 (omega arith), lt-leb b 0 (omega arith)) refl
    go (no l) (yes m) = rw (signed-many 256 b (omega arith), le-leb b 128 m, lt-leb (255 - b) 126 (omega arith)) refl
    go (no l) (no m) = rw (
      signed-many 256 b (omega arith),
      lt-leb b 128 (omega arith),
      le-leb (255 - b) 126 (omega arith),
    ) refl

-- ---- all levels, from a place on

pub range-next : (ls : List ℤ) (i : ℕ) (b : Bool) → i < length ls
    → (b && every in_range (drop i ls)) ≡ ((b && in_range (get_or ls i (pos 0))) && every in_range (drop (i + 1) ls))
range-next ls i b h =
    ap (λ (t : List ℤ). b && every in_range t) (rest-one ls i (pos 0) h)
    ∙ sym (and_assoc b (in_range (get_or ls i (pos 0))) (every in_range (drop (i + 1) ls)))

pub range-end : (ls : List ℤ) (i : ℕ) (b : Bool) → length ls ≤ i → (b && every in_range (drop i ls)) ≡ b
range-end ls i b h = rw (drop_of_length-le ls {i = i} h) (and-true b)
