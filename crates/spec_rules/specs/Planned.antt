-- A tree drawn by the planner (document 02, T-05): a table of parents, what stage 2's one round makes of it, and what
-- 18 looks for.
use Rattle.std.specs.Prelude.{Bool, not, ◌&&◌, ◌||◌, cond, List, ℕ, zero, suc, ◌+◌, eqb, ltb}
use Rattle.base_lists.specs.Tables.{over}
use Rattle.base_lists.specs.Folds.{some}
use Rattle.table.specs.Table.{end_a, end_b}
use Rattle.spec_rules.specs.Basics.{ABSENT, at}

-- ---- stage 2 with a plan: one round

-- one step more; absent stays absent
abbrev pub onward : ℕ → ℕ
onward x = cond (eqb x ABSENT) ABSENT (x + 1)

-- the steps along the plan from v up to c, among the first k units of the chain; absent where it ends or goes on
-- without c
abbrev pub steps_to : List ℕ → ℕ → ℕ → ℕ → ℕ
steps_to plan c zero v = ABSENT
steps_to plan c (suc k) v =
    let later = onward (steps_to plan c k (at plan v)) in
    cond (eqb v c) 0 (cond (eqb (at plan v) ABSENT) ABSENT later)

-- the parents are the plan's
unfoldable pub planned_parents : ℕ → List ℕ → List ℕ → List ℕ
planned_parents n plan parent = over n (at plan) parent

-- a distance is the number of steps up to the colour unit, absent where the chain never gets there
unfoldable pub planned_dists : ℕ → List ℕ → List ℕ → List ℕ → List ℕ
planned_dists n plan color dist = over n (λ (v : ℕ). steps_to plan (at color v) n v) dist

-- ---- 18, without the colours

-- the top of v's chain of parents: the unit without a parent; absent where the first k units have none
abbrev pub top_of : List ℕ → ℕ → ℕ → ℕ
top_of plan zero v = ABSENT
top_of plan (suc k) v = let later = top_of plan k (at plan v) in cond (eqb (at plan v) ABSENT) v later

-- link j joins v and its parent
abbrev pub parent_link : List ℕ → List ℕ → ℕ → ℕ → Bool
parent_link ends plan v j =
    (eqb (end_a ends j) v && eqb (end_b ends j) (at plan v)) || (eqb (end_b ends j) v && eqb (end_a ends j) (at plan v))

-- v has a parent that is not its neighbour
abbrev pub stray_parent : ℕ → List ℕ → List ℕ → ℕ → Bool
stray_parent m ends plan v = not (eqb (at plan v) ABSENT) && not (some m (parent_link ends plan v))

-- v's chain of parents does not end, or ends above v: as a number, absent is above every unit
abbrev pub stray_top : ℕ → List ℕ → ℕ → Bool
stray_top n plan v = ltb v (top_of plan n v)

-- the ends of link j have different tops
abbrev pub splits : ℕ → List ℕ → List ℕ → ℕ → Bool
splits n ends plan j = not (eqb (top_of plan n (end_a ends j)) (top_of plan n (end_b ends j)))

-- 18's test: theory_reach/specs/PlanCause says in the words of document 02 what it finds
unfoldable pub plan_unfit : ℕ → ℕ → List ℕ → List ℕ → Bool
plan_unfit n m ends plan =
    some n (stray_parent m ends plan) || (some n (stray_top n plan) || some m (splits n ends plan))
