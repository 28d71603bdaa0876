-- Stage 1, colour: the least unit of each component, by propagation of the least number.
use Rattle.std.specs.Prelude.{Bool, not, ◌&&◌, cond, List, ℕ, eqb}
use Rattle.base_lists.specs.Tables.{over}
use Rattle.base_lists.specs.Folds.{least, agree}
use Rattle.table.specs.Table.{end_a, end_b}
use Rattle.spec_rules.specs.Basics.{at, heard}

-- the least of v's own value and its neighbours' values
unfoldable pub least_heard : ℕ → List ℕ → List ℕ → ℕ → ℕ
least_heard m ends value v = least m (λ (j : ℕ). heard value (end_a ends j) (end_b ends j) v) (at value v)

-- what the units say: in the first round each its own number, later its present value
abbrev pub color_said : ℕ → ℕ → List ℕ → List ℕ
color_said n made color = cond (eqb made 0) (over n (λ (v : ℕ). v) color) color

unfoldable pub color_round : ℕ → ℕ → ℕ → List ℕ → List ℕ → List ℕ
color_round n m made ends color = over n (least_heard m ends (color_said n made color)) color

-- ends with the first later round that changes nothing
unfoldable pub color_ends : ℕ → ℕ → List ℕ → List ℕ → Bool
color_ends n made before after = not (eqb made 0) && agree n before after
