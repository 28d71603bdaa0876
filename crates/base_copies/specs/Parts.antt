-- Words copied out of others and laid over them, from a place on.
use Rattle.std.specs.Prelude.{◌≡◌, cond, List, ◌++◌, ℕ, ◌+◌, ◌≤◌, ◌<◌, leb, ℤ, pos, length, take, drop, replicate}
use Rattle.table_levels.specs.Level.{from_words}

-- n words from a place on
unfoldable pub part : ℕ → ℕ → List ℕ → List ℕ
part at n ws = take n (drop at ws)

-- words after xs was laid over them from a place on
unfoldable pub laid : ℕ → List ℕ → List ℕ → List ℕ
laid at xs ws = take at ws ++ xs ++ drop (at + length xs) ws

-- the same for every place: xs is laid whole or not at all
unfoldable pub laid_in : ℕ → List ℕ → List ℕ → List ℕ
laid_in at xs ws = let new = laid at xs ws in cond (leb (at + length xs) (length ws)) new ws

-- as many words from a place on as there are in old, which stays where they are not all there
unfoldable pub copied : ℕ → List ℕ → List ℕ → List ℕ
copied at ws old = let new = part at (length old) ws in cond (leb (at + length old) (length ws)) new old

-- n words from a place on, or as many zeros where they are not all there
abbrev pub PartOr : ℕ → ℕ → List ℕ → List ℕ → Type 0
PartOr at n ws r = (at + n ≤ length ws → r ≡ part at n ws) × (length ws < at + n → r ≡ replicate n 0)

-- the same of levels
abbrev pub LevelsOr : ℕ → ℕ → List ℕ → List ℤ → Type 0
LevelsOr at n ws r = (at + n ≤ length ws → r ≡ from_words (part at n ws))
    × (length ws < at + n → r ≡ replicate n (pos 0))

unfoldable pub copied_levels : ℕ → List ℕ → List ℤ → List ℤ
copied_levels at ws old = let new = from_words (part at (length old) ws) in cond
    (leb (at + length old) (length ws)) new old
