-- Frames there and back: digits and bytes, the check byte, lengths.
use Rattle.std.specs.Prelude.{◌≡◌, ℕ, zero, suc, ◌+◌, ◌-◌, ◌*◌, ◌/◌, ◌%◌, ◌<◌, ◌≤◌, true, ◌&&◌, ◌⊎◌, ◌↔◌, List, [], ◌∷◌}
use Rattle.std.specs.Prelude.{◌++◌, length, ◌≢◌, nat_lt, slice_index, refl}
use Rattle.std.proofs.Common.{ap, ap₂, inl, inr, arith, length-append, le-leb, lt-ltb, le-ltb, ltb-true}
use Rattle.std.proofs.Math.Decide.{dec_lt}
use Rattle.std.proofs.lemmas.Bool.{lt-leb}
use Rattle.base_lists.specs.Tests.{and_left, and_right}
use Rattle.file_frames.specs.Frame.{LF, digit_of, digit_value, byte_of, hex_of, hexes_of, sum_of, check_byte, line_of}
use Rattle.file_frames.specs.Frame.{line_length, all_digits, bytes_of}

-- every number of the list is a byte
abbrev pub Bytes : List ℕ → Type 0
Bytes f = (i : ℕ) → slice_index f i < 256

-- ---- a digit there and back

pub digit_back : (d : ℕ) → d < 16 → digit_value (digit_of d) ≡ d
digit_back d h = go (dec_lt d 10)
  where
    go : Dec (d < 10) → digit_value (digit_of d) ≡ d
    go (yes l) =
        rw (lt-ltb d 10 l, le-leb 48 (48 + d) (omega arith), le-leb (48 + d) 57 (omega arith)) (omega arith)
    go (no n) =
        rw (
          le-ltb d 10 (omega arith),
          le-leb 48 (55 + d) (omega arith),
          lt-leb (55 + d) 57 (omega arith),
          le-leb 65 (55 + d) (omega arith),
          le-leb (55 + d) 70 (omega arith),
        ) (omega arith)

-- an upper-case hexadecimal digit: '0' to '9', 'A' to 'F'
abbrev pub IsDigit : ℕ → Type 0
IsDigit c = ((48 ≤ c) × (c ≤ 57)) ⊎ ((65 ≤ c) × (c ≤ 70))

-- the value of a character, by where it stands
module _ (c : ℕ) where
  value_low : c < 48 → 16 ≡ digit_value c
  value_low h = rw (lt-leb 48 c h, lt-leb 65 c (omega arith))

  value-numeral : 48 ≤ c → c ≤ 57 → c - 48 ≡ digit_value c
  value-numeral h k = rw (le-leb 48 c h, le-leb c 57 k)

  value-between : 57 < c → c < 65 → 16 ≡ digit_value c
  value-between h k = rw (le-leb 48 c (omega arith), lt-leb c 57 h, lt-leb 65 c k)

  value-letter : 65 ≤ c → c ≤ 70 → c - 55 ≡ digit_value c
  value-letter h k = rw (le-leb 48 c (omega arith), lt-leb c 57 (omega arith), le-leb 65 c h, le-leb c 70 k)

  value-high : 70 < c → 16 ≡ digit_value c
  value-high h = rw (le-leb 48 c (omega arith), lt-leb c 57 (omega arith), le-leb 65 c (omega arith), lt-leb c 70 h)

-- what a character is, with its value
data Kind (c : ℕ) : Type 0 where
  numeral : 48 ≤ c → c ≤ 57 → c - 48 ≡ digit_value c → Kind c
  letter : 65 ≤ c → c ≤ 70 → c - 55 ≡ digit_value c → Kind c
  other : (IsDigit c → ⊥) → 16 ≡ digit_value c → Kind c

no_digit : (c : ℕ) → ((48 ≤ c) × (c ≤ 57) → ⊥) → ((65 ≤ c) × (c ≤ 70) → ⊥) → IsDigit c → ⊥
no_digit c n l (inl d) = n d
no_digit c n l (inr d) = l d

digit_kind : (c : ℕ) → Kind c
digit_kind c = go (dec_lt c 48) (dec_lt 57 c) (dec_lt c 65) (dec_lt 70 c)
  where
    go : Dec (c < 48) → Dec (57 < c) → Dec (c < 65) → Dec (70 < c) → Kind c
    go (yes a) p q r = other (no_digit c (λ d. omega (arith, d.0)) (λ d. omega (arith, d.0))) (value_low c a)
    go (no a) (no b) q r = numeral (omega arith) (omega arith) (value-numeral c (omega arith) (omega arith))
    go (no a) (yes b) (yes l) r = other (no_digit c (λ d. omega (arith, d.1)) (λ d. omega (arith, d.0)))
        (value-between c b l)
    go (no a) (yes b) (no l) (no m) = letter (omega arith) (omega arith) (value-letter c (omega arith) (omega arith))
    go (no a) (yes b) (no l) (yes m) = other (no_digit c (λ d. omega (arith, d.1)) (λ d. omega (arith, d.1)))
        (value-high c m)

pub digit_forth : (c : ℕ) → digit_value c < 16 → digit_of (digit_value c) ≡ c
digit_forth c h = go (digit_kind c)
  where
    go : Kind c → digit_of (digit_value c) ≡ c
    go (numeral a b e) = rw (← e, lt-ltb (c - 48) 10 (omega arith)) (omega arith)
    go (letter a b e) = rw (← e, le-ltb (c - 55) 10 (omega arith)) (omega arith)
    go (other n e) = absurd (omega arith)

-- the test of a character decides whether it is a digit
pub digit_exact : (c : ℕ) → (nat_lt (digit_value c) 16 ≡ true) ↔ IsDigit c
digit_exact c = go (digit_kind c)
  where
    go : Kind c → (nat_lt (digit_value c) 16 ≡ true) ↔ IsDigit c
    go (numeral a b e) = (λ _. inl (a, b), λ _. lt-ltb (digit_value c) 16 (omega arith))
    go (letter a b e) = (λ _. inr (a, b), λ _. lt-ltb (digit_value c) 16 (omega arith))
    go (other n e) = (λ t. absurd (omega (arith, ltb-true (digit_value c) 16 t)), λ d. absurd (n d))

pub value_le : (c : ℕ) → digit_value c ≤ 16
value_le c = go (digit_kind c)
  where
    go : Kind c → digit_value c ≤ 16
    go (numeral a b e) = omega arith
    go (letter a b e) = omega arith
    go (other n e) = omega arith

-- a line feed is no digit
pub digit_no_feed : (c : ℕ) → nat_lt (digit_value c) 16 ≡ true → c ≢ LF
digit_no_feed c t e = go ((digit_exact c).0 t)
  where
    go : IsDigit c → ⊥
    go (inl d) = omega (arith, d.0)
    go (inr d) = omega (arith, d.0)

-- ---- a byte there and back

byte_back : (b : ℕ) → b < 256 → byte_of (digit_of (b / 16)) (digit_of (b % 16)) ≡ b
byte_back b h = rw (digit_back (b / 16) (omega arith), digit_back (b % 16) (omega arith)) (omega arith)

byte_forth : (c d : ℕ) → digit_value c < 16 → digit_value d < 16 → hex_of (byte_of c d) ≡ c ∷ d ∷ []
byte_forth c d hc hd =
    let high : byte_of c d / 16 ≡ digit_value c = omega arith in
    let low : byte_of c d % 16 ≡ digit_value d = omega arith in
    rw (high, low, digit_forth c hc, digit_forth d hd)

-- ---- lists of bytes there and back

pub hexes_append : (f g : List ℕ) → hexes_of (f ++ g) ≡ hexes_of f ++ hexes_of g
unfolding hexes_of
hexes_append [] g = refl
hexes_append (b ∷ f) g = ap (λ (l : List ℕ). hex_of b ++ l) (hexes_append f g)

pub length_hexes : (f : List ℕ) → length (hexes_of f) ≡ 2 * length f
unfolding hexes_of
length_hexes [] = refl
length_hexes (b ∷ f) = omega (arith, length_hexes f)

pub bytes_hexes : (f : List ℕ) → Bytes f → bytes_of (hexes_of f) ≡ f
unfolding hexes_of bytes_of
bytes_hexes [] h = refl
bytes_hexes (b ∷ f) h = ap₂ (λ (x : ℕ) (l : List ℕ). x ∷ l) (byte_back b (h zero))
    (bytes_hexes f (λ (i : ℕ). h (suc i)))

pub hexes_digits : (f : List ℕ) → Bytes f → all_digits (hexes_of f) ≡ true
unfolding hexes_of all_digits
hexes_digits [] h = refl
hexes_digits (b ∷ f) h =
    let hb : b < 256 = h zero in
    rw (
      digit_back (b / 16) (omega arith),
      digit_back (b % 16) (omega arith),
      lt-ltb (b / 16) 16 (omega arith),
      lt-ltb (b % 16) 16 (omega arith),
    )
    (hexes_digits f (λ (i : ℕ). h (suc i)))

-- two digits a byte: an even number of them
pub hexes_bytes : (p : List ℕ) (k : ℕ) → length p ≡ 2 * k → all_digits p ≡ true → hexes_of (bytes_of p) ≡ p
unfolding hexes_of bytes_of all_digits
hexes_bytes [] k e h = refl
hexes_bytes (c ∷ []) k e h = absurd (omega arith)
hexes_bytes (c ∷ d ∷ p) k e h =
    let hc : digit_value c < 16 = ltb-true (digit_value c) 16
    (and_left (nat_lt (digit_value c) 16) (nat_lt (digit_value d) 16 && all_digits p) h) in
    let h' = and_right (nat_lt (digit_value c) 16) (nat_lt (digit_value d) 16 && all_digits p) h in
    let hd : digit_value d < 16 =
    ltb-true (digit_value d) 16 (and_left (nat_lt (digit_value d) 16) (all_digits p) h') in
    ap₂ (λ (x y : List ℕ). x ++ y) (byte_forth c d hc hd)
    (hexes_bytes p (k - 1) (omega arith) (and_right (nat_lt (digit_value d) 16) (all_digits p) h'))

pub length-bytes : (p : List ℕ) → length (bytes_of p) ≡ length p / 2
unfolding bytes_of
length-bytes [] = refl
length-bytes (c ∷ []) = refl
length-bytes (c ∷ d ∷ p) = omega (arith, length-bytes p)

pub bytes_below : (p : List ℕ) → Bytes (bytes_of p)
unfolding bytes_of
bytes_below [] i = omega arith
bytes_below (c ∷ []) i = omega arith
bytes_below (c ∷ d ∷ p) zero = omega arith
bytes_below (c ∷ d ∷ p) (suc i) = bytes_below p i

-- byte i stands in the characters 2 i and 2 i + 1
pub bytes-at : (p : List ℕ) (i : ℕ) → 2 * i + 1 < length p →
    slice_index (bytes_of p) i ≡ byte_of (slice_index p (2 * i)) (slice_index p (2 * i + 1))
unfolding bytes_of
bytes-at [] i h = absurd (omega arith)
bytes-at (c ∷ []) i h = absurd (omega arith)
bytes-at (c ∷ d ∷ p) zero h = refl
bytes-at (c ∷ d ∷ p) (suc i) h =
    let e : 2 * suc i ≡ suc (suc (2 * i)) = omega arith in
    let e' : 2 * suc i + 1 ≡ suc (suc (2 * i + 1)) = omega arith in
    rw (e', e) (bytes-at p i (omega arith))

-- ---- the check byte

pub sum-append : (f g : List ℕ) → sum_of (f ++ g) ≡ sum_of f + sum_of g
unfolding sum_of
sum-append [] g = omega arith
sum-append (b ∷ f) g = omega (arith, sum-append f g)

pub sum_check : (f : List ℕ) (x : ℕ) → sum_of (f ++ x ∷ []) ≡ sum_of f + x
unfolding sum_of
sum_check f x = omega (arith, sum-append f (x ∷ []))

pub check_below : (f : List ℕ) → check_byte f < 256
unfolding check_byte
check_below f = omega arith

pub check_sum : (f : List ℕ) → sum_of (f ++ check_byte f ∷ []) % 256 ≡ 0
unfolding check_byte
check_sum f = omega (arith, sum_check f (check_byte f))

pub check_unique : (f : List ℕ) (x : ℕ) → x < 256 → (sum_of f + x) % 256 ≡ 0 → x ≡ check_byte f
unfolding check_byte
check_unique f x h e = omega arith

-- ---- a line

pub line_hexes : (f : List ℕ) → line_of f ≡ hexes_of (f ++ check_byte f ∷ []) ++ LF ∷ []
unfolding line_of hexes_of
line_hexes f = rw hexes_append

pub length-line : (f : List ℕ) → length (line_of f) ≡ line_length f
unfolding line_of
length-line f = simp (length-append, length_hexes) (omega arith)
