-- The ceilings of the ten stages for n units, and the countdown.
use Rattle.std.specs.Prelude.{List, [], ◌∷◌, ℕ, ◌+◌, ◌*◌, ◌-◌, max, get_or, drop}
use Rattle.base_log2.specs.Lg.{lg}

-- rounds that a ranking of the 2n − 2 arcs of n units takes at most
abbrev pub ranking_ceiling : ℕ → ℕ
ranking_ceiling n = lg (2 * n - 2) + 1

-- the ceiling of each stage, 1 to 10
abbrev pub ceilings : ℕ → List ℕ
ceilings n =
    max 2 n  -- 1 components
    ∷ (n + 1)  -- 2 tree
    ∷ 2  -- 3 tour
    ∷ ranking_ceiling n  -- 4 first ranking
    ∷ 2  -- 5 marks
    ∷ ranking_ceiling n  -- 6 second ranking
    ∷ (1 + lg n)  -- 7 low and high
    ∷ 1  -- 8 auxiliary edges
    ∷ max 2 (n - 1)  -- 9 auxiliary components
    ∷ 2  -- 10 labels
    ∷ []

abbrev pub ceiling : ℕ → ℕ → ℕ
ceiling n stage = get_or (ceilings n) (stage - 1) 0

abbrev pub total : List ℕ → ℕ
total [] = 0
total (c ∷ cs) = c + total cs

-- what is left of this stage's ceiling, and the ceilings of the later stages; 0 at stage 11
unfoldable pub countdown : ℕ → ℕ → ℕ → ℕ
countdown n stage made = total (drop (stage - 1) (ceilings n)) - made
