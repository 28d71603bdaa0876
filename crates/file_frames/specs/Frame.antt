-- A frame stands on a line of its own (document 01), two upper-case hexadecimal digits for each byte. Its kind comes
-- first; its check byte comes last and brings the sum to 0 in eight bits. Here a frame's body is its bytes without the
-- check byte.
use Rattle.std.specs.Prelude.{ℕ, ◌+◌, ◌-◌, ◌*◌, ◌/◌, ◌%◌, Bool, true, cond, ◌&&◌, List, [], ◌∷◌, ◌++◌, length, take}
use Rattle.std.specs.Prelude.{drop, ◌==◌, nat_le, nat_lt, slice_index}

abbrev pub LF : ℕ
LF = 10

-- the two bytes of a number, high byte first
abbrev pub word_bytes : ℕ → List ℕ
word_bytes w = w / 256 % 256 ∷ w % 256 ∷ []

-- the number of two bytes
abbrev pub word_of : ℕ → ℕ → ℕ
word_of high low = 256 * high + low

-- ---- written

-- the character of a digit below 16: '0' to '9', 'A' to 'F'
abbrev pub digit_of : ℕ → ℕ
digit_of d = cond (nat_lt d 10) (48 + d) (55 + d)

-- the two characters of a byte
abbrev pub hex_of : ℕ → List ℕ
hex_of b = digit_of (b / 16) ∷ digit_of (b % 16) ∷ []

unfoldable pub hexes_of : List ℕ → List ℕ
hexes_of [] = []
hexes_of (b ∷ f) = hex_of b ++ hexes_of f

unfoldable pub sum_of : List ℕ → ℕ
sum_of [] = 0
sum_of (b ∷ f) = b + sum_of f

-- the byte that makes the sum of all bytes wrap to 0
unfoldable pub check_byte : List ℕ → ℕ
check_byte f = (256 - sum_of f % 256) % 256

-- the line of a frame with this body
unfoldable pub line_of : List ℕ → List ℕ
line_of f = hexes_of f ++ hex_of (check_byte f) ++ LF ∷ []

-- its number of characters
abbrev pub line_length : List ℕ → ℕ
line_length f = 2 * length f + 3

-- a slice after the line was written at its front; as it was, where the line does not fit
unfoldable pub line_over : List ℕ → List ℕ → List ℕ
line_over f out = cond (nat_le (line_length f) (length out)) (line_of f ++ drop (line_length f) out) out

-- ---- read

-- what a character stands for as an upper-case hexadecimal digit; 16: it is none
abbrev pub digit_value : ℕ → ℕ
digit_value c = cond (nat_le 48 c && nat_le c 57) (c - 48) (cond (nat_le 65 c && nat_le c 70) (c - 55) 16)

-- the byte that two digits stand for
abbrev pub byte_of : ℕ → ℕ → ℕ
byte_of c d = (16 * digit_value c + digit_value d) % 256

-- the byte in the characters i and i + 1, and the number in the four from i on
abbrev pub byte_at : List ℕ → ℕ → ℕ
byte_at s i = byte_of (slice_index s i) (slice_index s (i + 1))

abbrev pub word_at : List ℕ → ℕ → ℕ
word_at s i = word_of (byte_at s i) (byte_at s (i + 2))

-- every character is an upper-case hexadecimal digit
unfoldable pub all_digits : List ℕ → Bool
all_digits [] = true
all_digits (c ∷ s) = nat_lt (digit_value c) 16 && all_digits s

-- the bytes that pairs of digits stand for
unfoldable pub bytes_of : List ℕ → List ℕ
bytes_of [] = []
bytes_of (c ∷ []) = []
bytes_of (c ∷ d ∷ s) = byte_of c d ∷ bytes_of s

-- characters begin with the line of a frame of this many bytes: its digits, a sum of 0, its line feed
unfoldable pub line_front : ℕ → List ℕ → Bool
line_front bytes s =
    (slice_index s (2 * bytes) == LF) && all_digits (take (2 * bytes) s)
    && sum_of (bytes_of (take (2 * bytes) s)) % 256 == 0
