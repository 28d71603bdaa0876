-- Document 02, T-02, on a site of four units: unit 3 has the neighbours 1 and 2, both visited in the round before, over
-- links 0 (3 and 2) and 1 (1 and 3).
use Rattle.std.specs.Prelude.{◌≡◌, refl, List, [], ◌∷◌, ℕ, ℤ, pos, negsuc}
use Rattle.spec_rules.specs.Basics.{ABSENT}
use Rattle.spec_rules.specs.Tree.{better, prefer, best_neighbor, chosen_parent}

-- the parent that unit 3 takes over links of these two levels
parent_of : ℤ → ℤ → ℕ
parent_of first second = chosen_parent 2 2 (3 ∷ 2 ∷ 1 ∷ 3 ∷ []) (first ∷ second ∷ []) (0 ∷ 1 ∷ 1 ∷ ABSENT ∷ []) 3

-- the higher level: −40 before −90
highest : parent_of (negsuc 39) (negsuc 89) ≡ 2
unfolding parent_of better prefer best_neighbor chosen_parent
highest = refl

-- at the same level the lesser number
tie : parent_of (negsuc 126) (negsuc 126) ≡ 1
unfolding parent_of better prefer best_neighbor chosen_parent
tie = refl

-- as signed numbers: 0 before −1
sign : parent_of (pos 0) (negsuc 0) ≡ 2
unfolding parent_of better prefer best_neighbor chosen_parent
sign = refl
