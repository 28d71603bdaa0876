-- The search for a repeated link by marks: a bit for each pair of units, set for each link passed.
use Rattle.std.specs.Prelude.{Bool, false, not, cond, ◌||◌, List, [], ◌∷◌, ℕ, ◌+◌, ◌*◌, ◌/◌, ◌%◌, ◌^◌, min, max, eqb}
use Rattle.std.specs.Prelude.{get_or, set}
use Rattle.std.specs.Int.Bits.{bit_and, bit_or}

-- the place of a pair of units, the lesser first
abbrev pub pair_at : ℕ → ℕ → ℕ
pair_at a b = 256 * min a b + max a b

-- of an ordered pair
abbrev pub ordered_at : ℕ → ℕ → ℕ
ordered_at a b = 256 * a + b

abbrev pub place_as : Bool → ℕ → ℕ → ℕ
place_as ordered a b = cond ordered (ordered_at a b) (pair_at a b)

-- bit p % 8 of byte p / 8 is set
unfoldable pub marked : List ℕ → ℕ → Bool
marked marks p = not (eqb (bit_and (get_or marks (p / 8) 0 / 2 ^ (p % 8)) 1) 0)

unfoldable pub mark : List ℕ → ℕ → List ℕ
mark marks p = set marks (p / 8) (bit_or (get_or marks (p / 8) 0) (1 * 2 ^ (p % 8) % 256))

-- some link of the table is marked when its turn comes, over where a pair has its place
module _ (place : ℕ → ℕ → ℕ) where
  unfoldable pub found_from : List ℕ → List ℕ → Bool
  found_from marks [] = false
  found_from marks (a ∷ []) = false
  found_from marks (a ∷ b ∷ t) = let later = found_from (mark marks (place a b)) t in marked marks (place a b) || later
