-- T-13: the sets of links among a few units, each by a number; the line that tells its single points.
use Rattle.std.specs.Prelude.{Bool, false, cond, List, [], ◌∷◌, ◌++◌, ℕ, zero, suc, ◌/◌, ◌%◌, ◌^◌, eqb, get_or}
use Rattle.base_lists.specs.Folds.{sum}
use Rattle.file_frames.specs.Frame.{word_bytes}

-- the pairs of unit a with the k units from b on
abbrev pub pairs_with : ℕ → ℕ → ℕ → List (ℕ × ℕ)
pairs_with a b zero = []
pairs_with a b (suc k) = (a, b) ∷ pairs_with a (suc b) k

-- the pairs of the k units from a on, by the lower and then the higher
abbrev pub pairs_from : ℕ → ℕ → List (ℕ × ℕ)
pairs_from a zero = []
pairs_from a (suc k) = pairs_with a (suc a) k ++ pairs_from (suc a) k

-- the pairs of n units
abbrev pub pairs_of : ℕ → List (ℕ × ℕ)
pairs_of n = pairs_from 0 n

-- the pairs whose bit of the number is set; the first pair has the lowest bit
abbrev pub chosen : List (ℕ × ℕ) → ℕ → List (ℕ × ℕ)
chosen [] number = []
chosen (p ∷ ps) number = let later = chosen ps (number / 2) in cond (eqb (number % 2) 1) (p ∷ later) later

-- two words for each pair
abbrev pub words_of : List (ℕ × ℕ) → List ℕ
words_of [] = []
words_of (p ∷ ps) = p.0 ∷ p.1 ∷ words_of ps

-- the table of n units with that number
unfoldable pub table_of : ℕ → ℕ → List ℕ
table_of n number = words_of (chosen (pairs_of n) number)

-- one byte with bit i set where unit i is a single point
unfoldable pub mask_of : List Bool → ℕ
mask_of singles = sum 5 (λ (i : ℕ). cond (get_or singles i false) (2 ^ i) 0)

-- a small site: unit count, number and mask
abbrev pub SMALL : ℕ
SMALL = 0x22

abbrev pub small_body : ℕ → ℕ → ℕ → List ℕ
small_body n number mask = SMALL ∷ word_bytes n ++ word_bytes number ++ mask ∷ []
