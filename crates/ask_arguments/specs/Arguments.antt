-- What the words of a command line are: bytes read as decimal numbers, levels, parents and questions.
use Rattle.std.specs.Prelude.{Bool, true, false, cond, ◌&&◌, List, [], ◌∷◌, ℕ, ◌+◌, ◌*◌, ◌-◌, min, eqb, leb, length}
use Rattle.std.specs.Prelude.{get_or, drop, ℤ}
use Rattle.base_lists.specs.Text.{characters}
use Rattle.base_streams.specs.Stream.{signed}

-- what stands for a word that is no number
abbrev pub NONE : ℕ
NONE = 65536

-- the byte c is one digit more of a number that was v so far and stays within 65,535
abbrev pub goes : ℕ → ℕ → Bool
goes v c = leb 48 c && (leb c 57 && leb (10 * v + (c - 48)) 65535)

-- the value of digits, after digits that made v
unfoldable pub value_in : ℕ → List ℕ → ℕ
value_in v [] = v
value_in v (c ∷ w) = let more = value_in (10 * v + (c - 48)) w in cond (goes v c) more NONE

-- a number is one to five digits
unfoldable pub number_in : List ℕ → ℕ
number_in w = let value = value_in 0 w in cond (leb 1 (length w) && leb (length w) 5) value NONE

-- the number after a `-`, or that of the whole word
unfoldable pub size_in : List ℕ → ℕ
size_in w = cond (eqb (get_or w 0 0) 45) (number_in (drop 1 w)) (number_in w)

-- a level is a number, perhaps with `-` before it; one that no table can hold is the nearest that it can
unfoldable pub is_level : List ℕ → Bool
is_level w = leb (size_in w) 65535

unfoldable pub level_in : List ℕ → ℤ
level_in w = signed (eqb (get_or w 0 0) 45) (min (size_in w) 32767)

-- two words are the same
unfoldable pub same : List ℕ → List ℕ → Bool
same [] [] = true
same [] (y ∷ n) = false
same (x ∷ w) [] = false
same (x ∷ w) (y ∷ n) = eqb x y && same w n

-- a parent is a number, or `none`: absent
unfoldable pub parent_in : List ℕ → ℕ
parent_in w = cond (same w (characters "none")) 65535 (number_in w)

-- the questions by their names; 0 for a word that names none
unfoldable pub question_in : List ℕ → ℕ
question_in w =
    cond (same w (characters "ring")) 1
    (cond (same w (characters "lift")) 2
    (cond (same w (characters "doubtful")) 3
    (cond (same w (characters "plan")) 4
    (cond (same w (characters "one-way")) 5
    (cond (same w (characters "add")) 6
    (cond (same w (characters "withdraw")) 7
    (cond (same w (characters "lines")) 8
    (cond (same w (characters "seats")) 9 0))))))))
