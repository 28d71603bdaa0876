-- A level (document 02, T-01): the received signal of a link, a signed number of dBm from −127 to 0, and its two's
-- complement in a byte or a word.
use Rattle.std.specs.Prelude.{Bool, cond, ◌&&◌, List, [], ◌∷◌, ℕ, ◌+◌, ◌-◌, ◌/◌, ◌%◌, ltb, ℤ, pos, negsuc}
use Rattle.std.specs.Int.Signed.{le_z}

-- −127, which a link line of kind 02 means, and 0
abbrev pub LOWEST : ℤ
LOWEST = negsuc 126

abbrev pub HIGHEST : ℤ
HIGHEST = pos 0

-- a level that a table may have
unfoldable pub in_range : ℤ → Bool
in_range z = le_z LOWEST z && le_z z HIGHEST

-- two's complement in numbers below a power of two: a negative number is raised by the power
unfoldable pub twos : ℕ → ℤ → ℕ
twos power (pos n) = n % power
twos power (negsuc n) = power - 1 - n % power

-- and back: from half the power on a number is negative
unfoldable pub signed : ℕ → ℕ → ℤ
signed power x = cond (ltb x (power / 2)) (pos x) (negsuc (power - 1 - x))

-- a level as a byte of a file
abbrev pub level_byte : ℤ → ℕ
level_byte = twos 256

abbrev pub byte_level : ℕ → ℤ
byte_level = signed 256

-- a level as a word of a state
abbrev pub level_word : ℤ → ℕ
level_word = twos 65536

abbrev pub word_level : ℕ → ℤ
word_level = signed 65536

-- levels as words, and words as levels
unfoldable pub to_words : List ℤ → List ℕ
to_words [] = []
to_words (z ∷ ls) = level_word z ∷ to_words ls

unfoldable pub from_words : List ℕ → List ℤ
from_words [] = []
from_words (w ∷ ws) = word_level w ∷ from_words ws

-- a number by 65,536 higher
unfoldable pub raised_of : ℤ → ℕ
raised_of (pos n) = 65536 + n
raised_of (negsuc n) = 65535 - n
