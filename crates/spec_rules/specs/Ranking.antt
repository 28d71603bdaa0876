-- Stages 4 and 6, list ranking by doubling, over k objects. `jump` is the working predecessor of each object, `sum` the
-- sum so far.
use Rattle.std.specs.Prelude.{Bool, not, cond, List, ℕ, ◌+◌, eqb}
use Rattle.base_lists.specs.Tables.{over}
use Rattle.base_lists.specs.Folds.{count}
use Rattle.spec_rules.specs.Basics.{ABSENT, at, bounded}

-- an object with a predecessor makes one request
abbrev pub asks : List ℕ → ℕ → Bool
asks jump a = not (eqb (at jump a) ABSENT)

-- it adds the predecessor's sum
abbrev pub sum_after : List ℕ → List ℕ → ℕ → ℕ
sum_after jump sum a = cond (asks jump a) (bounded (at sum a + at sum (at jump a))) (at sum a)

unfoldable pub sum_round : ℕ → List ℕ → List ℕ → List ℕ
sum_round k jump sum = over k (sum_after jump sum) sum

-- and takes the predecessor's predecessor
abbrev pub jump_after : List ℕ → ℕ → ℕ
jump_after jump a = cond (asks jump a) (at jump (at jump a)) (at jump a)

unfoldable pub jump_round : ℕ → List ℕ → List ℕ
jump_round k jump = over k (jump_after jump) jump

unfoldable pub requests_of : ℕ → List ℕ → ℕ
requests_of k jump = count k (asks jump)

-- the stage ends with one round without requests
unfoldable pub ranking_ends : ℕ → List ℕ → Bool
ranking_ends k jump = eqb (requests_of k jump) 0
