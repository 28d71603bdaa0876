-- Stage 10, labels; and what a finished survey says of its links and units: lone (a bridge), single point (an
-- articulation point).
use Rattle.std.specs.Prelude.{Bool, not, ◌&&◌, ◌||◌, cond, List, ℕ, min, eqb, ltb}
use Rattle.base_lists.specs.Tables.{over}
use Rattle.base_lists.specs.Folds.{least, count, some}
use Rattle.table.specs.Table.{end_a, end_b}
use Rattle.spec_rules.specs.Basics.{ABSENT, at}

-- the unit that names a link (a, b): of a tree link its lower unit, of a link off the tree its end with the greater
-- place (case 1); where each end is the other's parent, the lesser
unfoldable pub naming_unit : List ℕ → List ℕ → ℕ → ℕ → ℕ
naming_unit parent pre a b =
    cond (eqb (at parent a) b && eqb (at parent b) a) (min a b)
    (cond (eqb (at parent b) a) b (cond (eqb (at parent a) b) a (cond (ltb (at pre b) (at pre a)) a b)))

-- round one gives each link a class
abbrev pub class_of : List ℕ → List ℕ → List ℕ → List ℕ → ℕ → ℕ
class_of ends parent pre color j = at color (naming_unit parent pre (end_a ends j) (end_b ends j))

unfoldable pub class_round : ℕ → List ℕ → List ℕ → List ℕ → List ℕ → List ℕ → List ℕ
class_round m ends parent pre color class = over m (class_of ends parent pre color) class

-- round two: the label of a link is the least position in its class
unfoldable pub label_of : ℕ → List ℕ → ℕ → ℕ
label_of m class j = least m (λ (k : ℕ). cond (eqb (at class k) (at class j)) k ABSENT) ABSENT

unfoldable pub label_round : ℕ → List ℕ → List ℕ → List ℕ
label_round m class label = over m (label_of m class) label

-- a link is lone if it is alone in its label
unfoldable pub lone : ℕ → List ℕ → ℕ → Bool
lone m label j = eqb (count m (λ (k : ℕ). eqb (at label k) (at label j))) 1

-- u is an end of link j
abbrev pub touches : List ℕ → ℕ → ℕ → Bool
touches ends u j = eqb (end_a ends j) u || eqb (end_b ends j) u

-- "A unit is a single point if links of two labels meet at it."
unfoldable pub single : ℕ → List ℕ → List ℕ → ℕ → Bool
single m ends label u =
    some m
    (λ (j : ℕ). touches ends u j && some m (λ (k : ℕ). touches ends u k && not (eqb (at label k) (at label j))))
