-- A number in base ten as bytes, without zeros before it.
use Rattle.std.specs.Prelude.{cond, List, [], ◌∷◌, ℕ, zero, suc, ◌+◌, ◌*◌, ◌/◌, ◌%◌, leb, length}

-- powers of ten
unfoldable pub tens : ℕ → ℕ
tens zero = 1
tens (suc k) = 10 * tens k

-- the digits from place k down: one at a higher place stands only where the number is as great as the place
unfoldable pub shown : ℕ → ℕ → List ℕ
shown zero v = (v % 10 + 48) ∷ []
shown (suc k) v = let rest = shown k v in cond (leb (tens (suc k)) v) ((v / tens (suc k) % 10 + 48) ∷ rest) rest

-- a number of 32 bits has at most ten
abbrev pub decimal : ℕ → List ℕ
decimal v = shown 9 v

-- the place after k bytes; one past the slice stays
abbrev pub place_after : List ℕ → ℕ → ℕ → ℕ
place_after out at k = cond (leb at (length out)) (at + k) at
