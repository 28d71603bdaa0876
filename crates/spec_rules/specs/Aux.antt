-- Stage 8, joins: the edges of the auxiliary graph on tree links, each named by its lower unit. Stage 9, classes: its
-- components, by stage 1's rule.
use Rattle.std.specs.Prelude.{Bool, not, ◌&&◌, ◌||◌, cond, List, ℕ, ◌+◌, eqb, ltb, leb}
use Rattle.base_lists.specs.Tables.{over}
use Rattle.base_lists.specs.Folds.{least, agree}
use Rattle.table.specs.Table.{end_a, end_b}
use Rattle.spec_rules.specs.Basics.{ABSENT, at, is_root, off_tree, heard}

-- ---- stage 8

-- v is u or one of its descendants: place(u) ≤ place(v) < place(u) + descendants(u)
abbrev pub within : List ℕ → List ℕ → ℕ → ℕ → Bool
within nd pre u v = leb (at pre u) (at pre v) && ltb (at pre v) (at pre u + at nd u)

-- a link off the tree joins its ends if neither is the other's ancestor (case 2; T-05)
abbrev pub joins_ends : List ℕ → List ℕ → List ℕ → ℕ → ℕ → Bool
joins_ends parent nd pre a b = off_tree parent a b && not (within nd pre a b) && not (within nd pre b a)

abbrev pub link_join : List ℕ → List ℕ → List ℕ → List ℕ → ℕ → ℕ
link_join ends parent nd pre j = cond (joins_ends parent nd pre (end_a ends j) (end_b ends j)) 1 0

unfoldable pub link_joins_round : ℕ → List ℕ → List ℕ → List ℕ → List ℕ → List ℕ → List ℕ
link_joins_round m ends parent nd pre joins = over m (link_join ends parent nd pre) joins

-- u joins its parent p, if p is no root, when low(u) < place(p) or high(u) ≥ place(p) + descendants(p) (case 3)
unfoldable pub joins_parent : List ℕ → List ℕ → List ℕ → List ℕ → List ℕ → ℕ → Bool
joins_parent parent nd pre low high u =
    not (is_root parent u)
    && not (is_root parent (at parent u))
    && (ltb (at low u) (at pre (at parent u)) || leb (at pre (at parent u) + at nd (at parent u)) (at high u))

abbrev pub parent_join : List ℕ → List ℕ → List ℕ → List ℕ → List ℕ → ℕ → ℕ
parent_join parent nd pre low high u = cond (joins_parent parent nd pre low high u) 1 0

unfoldable pub parent_joins_round : ℕ → List ℕ → List ℕ → List ℕ → List ℕ → List ℕ → List ℕ → List ℕ
parent_joins_round n parent nd pre low high joins = over n (parent_join parent nd pre low high) joins

-- ---- stage 9

-- a join of a and b counts where neither is a root
abbrev pub joined : List ℕ → ℕ → ℕ → ℕ → Bool
joined parent mark a b = not (eqb mark 0) && not (is_root parent a) && not (is_root parent b)

-- what v hears over a join: stage 1's rule where it counts, else its own value
abbrev pub heard_over : List ℕ → List ℕ → ℕ → ℕ → ℕ → ℕ → ℕ
heard_over parent value mark a b v = cond (joined parent mark a b) (heard value a b v) (at value v)

-- the least of v's own value, over the joins of links and then over the joins with parents; roots take no part and stay
-- absent
unfoldable pub least_joined : ℕ → ℕ → List ℕ → List ℕ → List ℕ → List ℕ → List ℕ → ℕ → ℕ
least_joined n m ends parent linkJoins parentJoins value v =
    cond (is_root parent v) ABSENT
    (least n (λ (u : ℕ). heard_over parent value (at parentJoins u) u (at parent u) v)
    (least m (λ (j : ℕ). heard_over parent value (at linkJoins j) (end_a ends j) (end_b ends j) v) (at value v)))

-- what the tree links say: in the first round each its own name, later its present class
abbrev pub aux_said : ℕ → ℕ → List ℕ → List ℕ
aux_said n made color = cond (eqb made 0) (over n (λ (v : ℕ). v) color) color

unfoldable pub aux_round : ℕ → ℕ → ℕ → List ℕ → List ℕ → List ℕ → List ℕ → List ℕ → List ℕ
aux_round n m made ends parent linkJoins parentJoins color =
    over n (least_joined n m ends parent linkJoins parentJoins (aux_said n made color)) color

-- ends with the first later round that changes nothing
unfoldable pub aux_ends : ℕ → ℕ → List ℕ → List ℕ → Bool
aux_ends n made before after = not (eqb made 0) && agree n before after
