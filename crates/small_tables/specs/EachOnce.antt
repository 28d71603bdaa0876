-- T-13: the tables of n units are each set of pairs exactly once.
use Rattle.std.specs.Prelude.{◌≡◌, Bool, true, ◌⊎◌, ◌↔◌, List, [], ◌∷◌, ℕ, ◌^◌, ◌<◌, length}
use Rattle.small_tables.specs.Small.{pairs_of, chosen}

-- the pair of a and b stands in the list
abbrev pub Listed : ℕ → ℕ → List (ℕ × ℕ) → Type 0
Listed a b [] = ⊥
Listed a b (p ∷ ps) = ((a ≡ p.0) × (b ≡ p.1)) ⊎ Listed a b ps

-- the numbers of the tables of n units are those below this
abbrev pub tables : ℕ → ℕ
tables n = 2 ^ length (pairs_of n)

pub record EachOnce (n : ℕ) : Type 0 where
  -- links join units of the n, the lower first
  pub among : (k a b : ℕ) → Listed a b (chosen (pairs_of n) k) → (a < b) × (b < n)
  -- for each set of pairs there is a number,
  pub each : (set : ℕ → ℕ → Bool)
      → (k : ℕ) × (k < tables n) × ((a b : ℕ) → a < b → b < n → Listed a b (chosen (pairs_of n) k) ↔ (set a b ≡ true))
  -- and only one
  pub once : (k l : ℕ) → k < tables n → l < tables n
      → ((a b : ℕ) → a < b → b < n → Listed a b (chosen (pairs_of n) k) ↔ Listed a b (chosen (pairs_of n) l))
      → k ≡ l
