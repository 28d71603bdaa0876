-- Why a call is turned down (document 01): tests in order, each with its number. The reply is the number of the first
-- that holds, 0 where none does.
use Rattle.std.specs.Prelude.{Bool, cond, List, [], ◌∷◌, ◌++◌, ℕ, eqb, length, drop}

abbrev pub first_of : List (ℕ × Bool) → ℕ
first_of [] = 0
first_of (t ∷ ts) = let later = first_of ts in cond t.1 t.0 later

-- what a lent slice holds after a call: the new contents and the rest as it was, or all as it was where refusal k came
-- up
module _ {A : Type 0} where
  abbrev pub written : ℕ → List A → List A → List A
  written k new old = cond (eqb k 0) (new ++ drop (length new) old) old
