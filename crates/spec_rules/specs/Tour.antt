-- Stage 3, tour: the Euler tour of each tree as a list of arcs (directed tree links, document 01's list places). The
-- arc into v from its parent is 2v, the arc out of v to its parent 2v + 1; both exist where v is no root. The tree is
-- what the parent table says.
use Rattle.std.specs.Prelude.{Bool, not, ◌&&◌, ◌||◌, cond, List, ℕ, ◌+◌, ◌*◌, ◌/◌, ◌%◌, eqb, ltb}
use Rattle.base_lists.specs.Tables.{over}
use Rattle.base_lists.specs.Folds.{least}
use Rattle.spec_rules.specs.Basics.{ABSENT, at, is_root}

-- the unit whose arc a is, into it or out of it
abbrev pub arc_unit : ℕ → ℕ
arc_unit a = a / 2

abbrev pub is_into : ℕ → Bool
is_into a = eqb (a % 2) 0

-- a directed tree link stands at a
abbrev pub is_arc : List ℕ → ℕ → Bool
is_arc parent a = not (is_root parent (arc_unit a))

-- w is a tree neighbour of v: its child or its parent
abbrev pub tree_neighbor : List ℕ → ℕ → ℕ → Bool
tree_neighbor parent v w = eqb (at parent w) v || eqb (at parent v) w

-- the least tree neighbour of v, absent where it has none
unfoldable pub least_neighbor : ℕ → List ℕ → ℕ → ℕ
least_neighbor n parent v = least n (λ (w : ℕ). cond (tree_neighbor parent v w) w ABSENT) ABSENT

-- the least tree neighbour of v that is greater than u
unfoldable pub greater_neighbor : ℕ → List ℕ → ℕ → ℕ → ℕ
greater_neighbor n parent v u = least n (λ (w : ℕ). cond (tree_neighbor parent v w && ltb u w) w ABSENT) ABSENT

-- sorted by number, cyclically: the tree neighbour of v after u
unfoldable pub neighbor_after : ℕ → List ℕ → ℕ → ℕ → ℕ
neighbor_after n parent v u =
    cond (eqb (greater_neighbor n parent v u) ABSENT) (least_neighbor n parent v) (greater_neighbor n parent v u)

-- the arc from v to its tree neighbour w
abbrev pub arc_from : List ℕ → ℕ → ℕ → ℕ
arc_from parent v w = cond (eqb (at parent w) v) (2 * w) (2 * v + 1)

-- after (u, v) comes (v, the neighbour after u)
abbrev pub arc_after : ℕ → List ℕ → ℕ → ℕ → ℕ
arc_after n parent u v = arc_from parent v (neighbor_after n parent v u)

-- the follower of an arc: of (p, v) round v, of (v, p) round p
unfoldable pub follower : ℕ → List ℕ → ℕ → ℕ
follower n parent a =
    cond (is_arc parent a)
    (cond (is_into a) (arc_after n parent (at parent (arc_unit a)) (arc_unit a))
    (arc_after n parent (arc_unit a) (at parent (arc_unit a))))
    ABSENT

-- the list starts at the root's least neighbour
unfoldable pub is_start : ℕ → List ℕ → ℕ → Bool
is_start n parent a =
    is_into a && is_root parent (at parent (arc_unit a))
    && eqb (least_neighbor n parent (at parent (arc_unit a))) (arc_unit a)

-- the predecessor of an arc: the arc that it follows, absent at the start of the list
unfoldable pub predecessor : ℕ → List ℕ → List ℕ → ℕ → ℕ
predecessor n parent next a =
    cond (is_arc parent a && not (is_start n parent a))
    (least (2 * n) (λ (b : ℕ). cond (eqb (at next b) a) b ABSENT) ABSENT) ABSENT

-- round one: each directed link's follower
unfoldable pub next_round : ℕ → List ℕ → List ℕ → List ℕ
next_round n parent next = over (2 * n) (follower n parent) next

-- round two: each directed link's predecessor
unfoldable pub pred_round : ℕ → List ℕ → List ℕ → List ℕ → List ℕ
pred_round n parent next pred = over (2 * n) (predecessor n parent next) pred

-- the last round sets up the first ranking: every value 1, and the working predecessors just found
abbrev pub first_sum : List ℕ → ℕ → ℕ
first_sum parent a = cond (is_arc parent a) 1 0

unfoldable pub first_sums : ℕ → List ℕ → List ℕ → List ℕ
first_sums n parent sum = over (2 * n) (first_sum parent) sum

unfoldable pub first_jumps : ℕ → List ℕ → List ℕ → List ℕ → List ℕ
first_jumps n parent next jump = over (2 * n) (predecessor n parent next) jump
