-- Stage 2, tree: breadth first from the units that equal their colour. `made` is the rounds made in the stage before
-- this one, and so the distance that this round gives; the units visited in the round before have made − 1.
use Rattle.std.specs.Prelude.{Bool, not, ◌&&◌, ◌||◌, cond, List, ℕ, zero, suc, ◌-◌, eqb, ltb, ℤ, pos, get_or}
use Rattle.std.specs.Int.Signed.{lt_z, le_z}
use Rattle.base_lists.specs.Tables.{over}
use Rattle.base_lists.specs.Folds.{some}
use Rattle.table.specs.Table.{end_a, end_b}
use Rattle.spec_rules.specs.Basics.{ABSENT, at}

-- w was visited in the round before
abbrev pub visited_before : ℕ → List ℕ → ℕ → Bool
visited_before made dist w = eqb (at dist w) (made - 1)

-- ---- parents by level (document 02, T-02)

-- the level of link j
abbrev pub level_at : List ℤ → ℕ → ℤ
level_at levels j = get_or levels j (pos 0)

-- a neighbour w over a link of level z is a better parent than u over one of level y: a higher level or, at the same
-- level, a lesser number
unfoldable pub better : ℤ → ℕ → ℤ → ℕ → Bool
better z w y u = lt_z y z || (le_z y z && ltb w u)

-- a neighbour and the level of the link to it
pub record Neighbor : Type 0 where
  pub level : ℤ
  pub unit : ℕ

-- where there is none
abbrev pub NOBODY : Neighbor
NOBODY = record { level = pos 0; unit = ABSENT }

-- the best so far, or w over a link of level z: w where there is none so far, or where it is better
unfoldable pub prefer : Neighbor → ℤ → ℕ → Neighbor
prefer best z w = cond (eqb best.unit ABSENT || better z w best.level best.unit)
    (record { level = z; unit = w }) best

-- a link of level z from a to b, of which v takes the other end in if that passes the test
abbrev pub over_link : (ℕ → Bool) → ℤ → ℕ → ℕ → ℕ → Neighbor → Neighbor
over_link passes z a b v best = cond (eqb a v && passes b) (prefer best z b)
    (cond (eqb b v && passes a) (prefer best z a) best)

-- of v's neighbours over the first m links that pass the test, the one with the highest level, ties to the least number
unfoldable pub best_neighbor : (ℕ → Bool) → ℕ → List ℕ → List ℤ → ℕ → Neighbor
best_neighbor passes zero ends levels v = NOBODY
best_neighbor passes (suc m) ends levels v =
    over_link passes (level_at levels m) (end_a ends m) (end_b ends m) v (best_neighbor passes m ends levels v)

-- the choice of a parent: "of the neighbours visited in the round before, the one with the highest level, ties to the
-- least number"; absent where there is none. BestParent.antt proves that it is this one
unfoldable pub chosen_parent : ℕ → ℕ → List ℕ → List ℤ → List ℕ → ℕ → ℕ
chosen_parent m made ends levels dist v = (best_neighbor (visited_before made dist) m ends levels v).unit

-- ---- a round

-- v is visited in this round: first the units that equal their colour, later the unvisited ones with a neighbour
-- visited in the round before
unfoldable pub visits : ℕ → ℕ → List ℕ → List ℤ → List ℕ → List ℕ → ℕ → Bool
visits m made ends levels color dist v =
    cond (eqb made 0) (eqb (at color v) v)
    (eqb (at dist v) ABSENT && not (eqb (chosen_parent m made ends levels dist v) ABSENT))

unfoldable pub parent_round : ℕ → ℕ → ℕ → List ℕ → List ℤ → List ℕ → List ℕ → List ℕ → List ℕ
parent_round n m made ends levels color dist parent =
    over n
    (λ (v : ℕ). cond (visits m made ends levels color dist v)
    (cond (eqb made 0) ABSENT (chosen_parent m made ends levels dist v)) (at parent v))
    parent

unfoldable pub dist_round : ℕ → ℕ → ℕ → List ℕ → List ℤ → List ℕ → List ℕ → List ℕ
dist_round n m made ends levels color dist =
    over n (λ (v : ℕ). cond (visits m made ends levels color dist v) made (at dist v)) dist

-- ends with the first round that visits none
unfoldable pub tree_ends : ℕ → ℕ → ℕ → List ℕ → List ℤ → List ℕ → List ℕ → Bool
tree_ends n m made ends levels color dist = not (some n (visits m made ends levels color dist))
