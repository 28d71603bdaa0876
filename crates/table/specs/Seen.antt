-- The search for a unit without a link by marks: a byte for each unit, 1 once a link ends at it.
use Rattle.std.specs.Prelude.{Bool, false, ◌||◌, List, [], ◌∷◌, ℕ, zero, suc, eqb, get_or, set}

-- the marks after all links
unfoldable pub ends_seen : List ℕ → List ℕ → List ℕ
ends_seen marks [] = marks
ends_seen marks (a ∷ []) = marks
ends_seen marks (a ∷ b ∷ t) = ends_seen (set (set marks a 1) b 1) t

-- one of the first k marks is blank
unfoldable pub some_blank : ℕ → List ℕ → Bool
some_blank zero marks = false
some_blank (suc k) marks = some_blank k marks || eqb (get_or marks k 0) 0
