-- The greatest entry of a table, each raised within a word.
use Rattle.std.specs.Prelude.{◌≡◌, ℕ, ◌+◌, ◌%◌, ◌<◌, max, Bool, List, [], ◌∷◌, nat_le}

-- what a word is after `more` is added
abbrev pub raised : ℕ → ℕ → ℕ
raised more x = (x + more) % 65536

-- a word passes p exactly where, raised by `more`, it is at most `most`
abbrev pub Tells : ℕ → ℕ → (ℕ → Bool) → Type 0
Tells more most p = (x : ℕ) → x < 65536 → nat_le (raised more x) most ≡ p x

unfoldable pub top_of : ℕ → List ℕ → ℕ
top_of more [] = 0
top_of more (x ∷ t) = max (raised more x) (top_of more t)
