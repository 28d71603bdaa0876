-- The rules of the ten stages where the three things that document 01 settles for other states cannot pass unseen: a
-- read at an absent or missing place and half of an odd number have no value, and numbers have no bound. Tables by unit
-- or by place are read below n, by arc below 2n, by link below m, and the ends below 2m. To be read beside
-- `spec_rules`: each word stands under its name there, with a question mark.
use Rattle.std.specs.Prelude.{cond, List, ℕ, zero, suc, ◌*◌, ◌^◌, min, eqb, ltb, ℤ}
use Rattle.std.proofs.Math.Option.{Option, none, some, map}
use Rattle.spec_rules.specs.Components.{color_said}
use Rattle.spec_rules.specs.Tree.{level_at, Neighbor, NOBODY, prefer}
use Rattle.spec_rules.specs.Aux.{aux_said}
use Rattle.theory_reach.specs.Partial.{Value, Test, absent, at?, half?, minus?, both?, plus?, times?, remainder?}
use Rattle.theory_reach.specs.Partial.{eq?, lt?, le?, not?, and?, or?, if?, fold?, least?, count?, any?, over?}

-- ---- what the stages share

unfoldable pub end_a? : ℕ → List ℕ → Value → Value
end_a? m ends j = at? (2 * m) ends (times? (some 2) j)

unfoldable pub end_b? : ℕ → List ℕ → Value → Value
end_b? m ends j = at? (2 * m) ends (plus? (times? (some 2) j) (some 1))

unfoldable pub is_root? : ℕ → List ℕ → Value → Test
is_root? n parent v = eq? (at? n parent v) absent

unfoldable pub off_tree? : ℕ → List ℕ → Value → Value → Test
off_tree? n parent a b = and? (not? (eq? (at? n parent a) b)) (not? (eq? (at? n parent b) a))

unfoldable pub heard? : ℕ → List ℕ → Value → Value → Value → Value
heard? n value a b v = if? (eq? a v) (at? n value b) (if? (eq? b v) (at? n value a) (at? n value v))

-- a mark, 1 or 0
unfoldable pub mark? : Test → Value
mark? t = if? t (some 1) (some 0)

-- ---- stage 1

unfoldable pub least_heard? : ℕ → ℕ → List ℕ → List ℕ → Value → Value
least_heard? n m ends value v = least? m (λ (j : Value). heard? n value (end_a? m ends j) (end_b? m ends j) v)
    (at? n value v)

unfoldable pub color_round? : ℕ → ℕ → ℕ → List ℕ → List ℕ → Option (List ℕ)
color_round? n m made ends color = over? n (least_heard? n m ends (color_said n made color)) color

-- ---- stage 2

unfoldable pub visited_before? : ℕ → ℕ → List ℕ → Value → Test
visited_before? n made dist w = eq? (at? n dist w) (minus? (some made) (some 1))

unfoldable pub level_at? : ℕ → List ℤ → Value → Option ℤ
level_at? m levels none = none
level_at? m levels (some j) = cond (ltb j m) (some (level_at levels j)) none

unfoldable pub prefer? : Option Neighbor → Option ℤ → Value → Option Neighbor
prefer? best z w = both? (λ (b new : Neighbor). prefer b new.level new.unit) best
    (both? (λ (y : ℤ) (u : ℕ). record { level = y; unit = u }) z w)

unfoldable pub over_link? : (Value → Test) → Option ℤ → Value → Value → Value → Option Neighbor → Option Neighbor
over_link? passes z a b v best = if? (and? (eq? a v) (passes b)) (prefer? best z b)
    (if? (and? (eq? b v) (passes a)) (prefer? best z a) best)

-- over the first k of the m links
unfoldable pub best_neighbor? : ℕ → (Value → Test) → ℕ → List ℕ → List ℤ → Value → Option Neighbor
best_neighbor? m passes zero ends levels v = some NOBODY
best_neighbor? m passes (suc k) ends levels v =
    over_link? passes (level_at? m levels (some k)) (end_a? m ends (some k)) (end_b? m ends (some k)) v
    (best_neighbor? m passes k ends levels v)

unfoldable pub chosen_parent? : ℕ → ℕ → ℕ → List ℕ → List ℤ → List ℕ → Value → Value
chosen_parent? n m made ends levels dist v =
    map (λ (best : Neighbor). best.unit) (best_neighbor? m (visited_before? n made dist) m ends levels v)

unfoldable pub visits? : ℕ → ℕ → ℕ → List ℕ → List ℤ → List ℕ → List ℕ → Value → Test
visits? n m made ends levels color dist v =
    cond (eqb made 0) (eq? (at? n color v) v)
    (and? (eq? (at? n dist v) absent) (not? (eq? (chosen_parent? n m made ends levels dist v) absent)))

unfoldable pub parent_round? : ℕ → ℕ → ℕ → List ℕ → List ℤ → List ℕ → List ℕ → List ℕ → Option (List ℕ)
parent_round? n m made ends levels color dist parent =
    over? n
    (λ (v : Value).
    if? (visits? n m made ends levels color dist v)
    (cond (eqb made 0) absent (chosen_parent? n m made ends levels dist v)) (at? n parent v))
    parent

unfoldable pub dist_round? : ℕ → ℕ → ℕ → List ℕ → List ℤ → List ℕ → List ℕ → Option (List ℕ)
dist_round? n m made ends levels color dist =
    over? n (λ (v : Value). if? (visits? n m made ends levels color dist v) (some made) (at? n dist v)) dist

unfoldable pub tree_ends? : ℕ → ℕ → ℕ → List ℕ → List ℤ → List ℕ → List ℕ → Test
tree_ends? n m made ends levels color dist = not? (any? n (visits? n m made ends levels color dist))

-- with a plan (document 02, T-05)

unfoldable pub onward? : Value → Value
onward? x = if? (eq? x absent) absent (plus? x (some 1))

unfoldable pub steps_to? : ℕ → List ℕ → Value → ℕ → Value → Value
steps_to? n plan c zero v = absent
steps_to? n plan c (suc k) v =
    if? (eq? v c) (some 0) (if? (eq? (at? n plan v) absent) absent (onward? (steps_to? n plan c k (at? n plan v))))

unfoldable pub planned_parents? : ℕ → List ℕ → List ℕ → Option (List ℕ)
planned_parents? n plan parent = over? n (at? n plan) parent

unfoldable pub planned_dists? : ℕ → List ℕ → List ℕ → List ℕ → Option (List ℕ)
planned_dists? n plan color dist = over? n (λ (v : Value). steps_to? n plan (at? n color v) n v) dist

-- ---- stage 3

unfoldable pub is_into? : Value → Test
is_into? a = eq? (remainder? a (some 2)) (some 0)

-- half of an arc into a unit, or of the one before an arc out of it
unfoldable pub arc_unit? : Value → Value
arc_unit? a = half? (if? (is_into? a) a (minus? a (some 1)))

unfoldable pub is_arc? : ℕ → List ℕ → Value → Test
is_arc? n parent a = not? (is_root? n parent (arc_unit? a))

unfoldable pub tree_neighbor? : ℕ → List ℕ → Value → Value → Test
tree_neighbor? n parent v w = or? (eq? (at? n parent w) v) (eq? (at? n parent v) w)

unfoldable pub least_neighbor? : ℕ → List ℕ → Value → Value
least_neighbor? n parent v = least? n (λ (w : Value). if? (tree_neighbor? n parent v w) w absent) absent

unfoldable pub greater_neighbor? : ℕ → List ℕ → Value → Value → Value
greater_neighbor? n parent v u = least? n
    (λ (w : Value). if? (and? (tree_neighbor? n parent v w) (lt? u w)) w absent) absent

unfoldable pub neighbor_after? : ℕ → List ℕ → Value → Value → Value
neighbor_after? n parent v u = if? (eq? (greater_neighbor? n parent v u) absent) (least_neighbor? n parent v)
    (greater_neighbor? n parent v u)

unfoldable pub arc_from? : ℕ → List ℕ → Value → Value → Value
arc_from? n parent v w = if? (eq? (at? n parent w) v) (times? (some 2) w) (plus? (times? (some 2) v) (some 1))

unfoldable pub arc_after? : ℕ → List ℕ → Value → Value → Value
arc_after? n parent u v = arc_from? n parent v (neighbor_after? n parent v u)

unfoldable pub follower? : ℕ → List ℕ → Value → Value
follower? n parent a =
    if? (is_arc? n parent a)
    (if? (is_into? a) (arc_after? n parent (at? n parent (arc_unit? a)) (arc_unit? a))
    (arc_after? n parent (arc_unit? a) (at? n parent (arc_unit? a))))
    absent

unfoldable pub is_start? : ℕ → List ℕ → Value → Test
is_start? n parent a =
    and? (and? (is_into? a) (is_root? n parent (at? n parent (arc_unit? a))))
    (eq? (least_neighbor? n parent (at? n parent (arc_unit? a))) (arc_unit? a))

unfoldable pub predecessor? : ℕ → List ℕ → List ℕ → Value → Value
predecessor? n parent next a =
    if? (and? (is_arc? n parent a) (not? (is_start? n parent a)))
    (least? (2 * n) (λ (b : Value). if? (eq? (at? (2 * n) next b) a) b absent) absent)
    absent

unfoldable pub next_round? : ℕ → List ℕ → List ℕ → Option (List ℕ)
next_round? n parent next = over? (2 * n) (follower? n parent) next

unfoldable pub pred_round? : ℕ → List ℕ → List ℕ → List ℕ → Option (List ℕ)
pred_round? n parent next pred = over? (2 * n) (predecessor? n parent next) pred

unfoldable pub first_sums? : ℕ → List ℕ → List ℕ → Option (List ℕ)
first_sums? n parent sum = over? (2 * n) (λ (a : Value). mark? (is_arc? n parent a)) sum

unfoldable pub first_jumps? : ℕ → List ℕ → List ℕ → List ℕ → Option (List ℕ)
first_jumps? n parent next jump = over? (2 * n) (predecessor? n parent next) jump

-- ---- stages 4 and 6: the predecessor of an object without one is not looked up

unfoldable pub asks? : ℕ → List ℕ → Value → Test
asks? k jump a = not? (eq? (at? k jump a) absent)

unfoldable pub sum_round? : ℕ → List ℕ → List ℕ → Option (List ℕ)
sum_round? k jump sum =
    over? k (λ (a : Value). if? (asks? k jump a) (plus? (at? k sum a) (at? k sum (at? k jump a))) (at? k sum a)) sum

unfoldable pub jump_round? : ℕ → List ℕ → Option (List ℕ)
jump_round? k jump = over? k (λ (a : Value). if? (asks? k jump a) (at? k jump (at? k jump a)) (at? k jump a)) jump

unfoldable pub requests_of? : ℕ → List ℕ → Value
requests_of? k jump = count? k (asks? k jump)

unfoldable pub ranking_ends? : ℕ → List ℕ → Test
ranking_ends? k jump = eq? (requests_of? k jump) (some 0)

-- ---- stage 5, and the places of stage 6

unfoldable pub reverse_arc? : Value → Value
reverse_arc? a = if? (is_into? a) (plus? a (some 1)) (minus? a (some 1))

unfoldable pub forward_round? : ℕ → List ℕ → List ℕ → List ℕ → Option (List ℕ)
forward_round? n parent rank forward =
    over? (2 * n)
    (λ (a : Value). mark? (and? (is_arc? n parent a) (lt? (at? (2 * n) rank a) (at? (2 * n) rank (reverse_arc? a)))))
    forward

unfoldable pub descendants? : ℕ → List ℕ → List ℕ → List ℕ → Value → Value
descendants? n color parent rank v =
    if? (is_root? n parent v) (count? n (λ (w : Value). eq? (at? n color w) (at? n color v)))
    (half?
    (minus? (plus? (at? (2 * n) rank (plus? (times? (some 2) v) (some 1))) (some 1))
    (at? (2 * n) rank (times? (some 2) v))))

unfoldable pub nd_round? : ℕ → List ℕ → List ℕ → List ℕ → List ℕ → Option (List ℕ)
nd_round? n color parent rank nd = over? n (descendants? n color parent rank) nd

unfoldable pub second_sums? : ℕ → List ℕ → List ℕ → List ℕ → Option (List ℕ)
second_sums? n parent forward sum =
    over? (2 * n) (λ (a : Value). mark? (and? (is_arc? n parent a) (not? (eq? (at? (2 * n) forward a) (some 0))))) sum

unfoldable pub second_jumps? : ℕ → List ℕ → List ℕ → Option (List ℕ)
second_jumps? n pred jump = over? (2 * n) (at? (2 * n) pred) jump

unfoldable pub place_of? : ℕ → List ℕ → List ℕ → List ℕ → Value → Value
place_of? n color parent sum v =
    plus? (if? (is_root? n parent v) (some 0) (at? (2 * n) sum (times? (some 2) v)))
    (count? n (λ (w : Value). lt? (at? n color w) (at? n color v)))

unfoldable pub pre_round? : ℕ → List ℕ → List ℕ → List ℕ → List ℕ → Option (List ℕ)
pre_round? n color parent sum pre = over? n (place_of? n color parent sum) pre

-- ---- stage 7: a place without a unit has no local values, and a place past the last no segment

unfoldable pub place_heard? : ℕ → ℕ → List ℕ → List ℕ → List ℕ → Value → Value → Value
place_heard? n m ends parent pre v j =
    if? (off_tree? n parent (end_a? m ends j) (end_b? m ends j)) (heard? n pre (end_a? m ends j) (end_b? m ends j) v)
    (at? n pre v)

unfoldable pub local_of? : (ℕ → ℕ → ℕ) → ℕ → ℕ → List ℕ → List ℕ → List ℕ → Value → Value
local_of? op n m ends parent pre v = fold? op m (place_heard? n m ends parent pre v) (at? n pre v)

unfoldable pub unit_at? : ℕ → List ℕ → Value → Value
unit_at? n pre q = least? n (λ (v : Value). if? (eq? (at? n pre v) q) v absent) absent

unfoldable pub local_at? : (ℕ → ℕ → ℕ) → ℕ → ℕ → List ℕ → List ℕ → List ℕ → Value → Value
local_at? op n m ends parent pre q = local_of? op n m ends parent pre (unit_at? n pre q)

unfoldable pub last_place? : ℕ → List ℕ → List ℕ → Value → Value
last_place? n nd pre v = minus? (plus? (at? n pre v) (at? n nd v)) (some 1)

unfoldable pub global_first? : (ℕ → ℕ → ℕ) → ℕ → ℕ → List ℕ → List ℕ → List ℕ → List ℕ → Option (List ℕ)
global_first? op n m ends parent pre global = over? n (local_at? op n m ends parent pre) global

unfoldable pub range_first? : (ℕ → ℕ → ℕ) → ℕ → ℕ → List ℕ → List ℕ → List ℕ → List ℕ → List ℕ → Option (List ℕ)
range_first? op n m ends parent nd pre range =
    over? n (λ (v : Value). local_at? op n m ends parent pre (last_place? n nd pre v)) range

unfoldable pub little_first? : ℕ → List ℕ → List ℕ → Option (List ℕ)
little_first? n pre little = over? n (at? n pre) little

unfoldable pub big_first? : ℕ → List ℕ → List ℕ → List ℕ → Option (List ℕ)
big_first? n nd pre big = over? n (last_place? n nd pre) big

unfoldable pub odd? : ℕ → Value → Test
odd? i x = not? (eq? (remainder? x (some (2 ^ suc i))) (some 0))

unfoldable pub moves_little? : ℕ → ℕ → List ℕ → List ℕ → Value → Test
moves_little? i n little big v = and? (lt? (at? n little v) (at? n big v)) (odd? i (at? n little v))

unfoldable pub moves_big? : ℕ → ℕ → List ℕ → List ℕ → Value → Test
moves_big? i n little big v = and? (lt? (at? n little v) (at? n big v)) (odd? i (at? n big v))

unfoldable pub with_little? : (ℕ → ℕ → ℕ) → ℕ → ℕ → List ℕ → List ℕ → List ℕ → Value → Value → Value
with_little? op i n global little big v x =
    if? (moves_little? i n little big v) (both? op x (at? n global (at? n little v))) x

unfoldable pub with_big? : (ℕ → ℕ → ℕ) → ℕ → ℕ → List ℕ → List ℕ → List ℕ → Value → Value → Value
with_big? op i n global little big v x =
    if? (moves_big? i n little big v) (both? op x (at? n global (minus? (at? n big v) (some (2 ^ i))))) x

unfoldable pub range_later? : (ℕ → ℕ → ℕ) → ℕ → ℕ → List ℕ → List ℕ → List ℕ → List ℕ → Option (List ℕ)
range_later? op i n global little big range =
    over? n (λ (v : Value). with_big? op i n global little big v
    (with_little? op i n global little big v (at? n range v))) range

unfoldable pub little_later? : ℕ → ℕ → List ℕ → List ℕ → Option (List ℕ)
little_later? i n big little =
    over? n (λ (v : Value). if? (moves_little? i n little big v) (plus? (at? n little v) (some (2 ^ i)))
    (at? n little v)) little

unfoldable pub big_later? : ℕ → ℕ → List ℕ → List ℕ → Option (List ℕ)
big_later? i n little big =
    over? n (λ (v : Value). if? (moves_big? i n little big v) (minus? (at? n big v) (some (2 ^ i))) (at? n big v)) big

unfoldable pub global_later? : (ℕ → ℕ → ℕ) → ℕ → ℕ → List ℕ → Option (List ℕ)
global_later? op i n global =
    over? n
    (λ (q : Value).
    if? (and? (not? (odd? i q)) (lt? (plus? q (some (2 ^ i))) (some n)))
    (both? op (at? n global q) (at? n global (plus? q (some (2 ^ i)))))
    (at? n global q))
    global

-- ---- stage 8: the parent of a root is not looked up

unfoldable pub within? : ℕ → List ℕ → List ℕ → Value → Value → Test
within? n nd pre u v = and? (le? (at? n pre u) (at? n pre v)) (lt? (at? n pre v) (plus? (at? n pre u) (at? n nd u)))

unfoldable pub joins_ends? : ℕ → List ℕ → List ℕ → List ℕ → Value → Value → Test
joins_ends? n parent nd pre a b = and? (and? (off_tree? n parent a b) (not? (within? n nd pre a b)))
    (not? (within? n nd pre b a))

unfoldable pub link_joins_round? : ℕ → ℕ → List ℕ → List ℕ → List ℕ → List ℕ → List ℕ → Option (List ℕ)
link_joins_round? n m ends parent nd pre joins =
    over? m (λ (j : Value). mark? (joins_ends? n parent nd pre (end_a? m ends j) (end_b? m ends j))) joins

unfoldable pub joins_parent? : ℕ → List ℕ → List ℕ → List ℕ → List ℕ → List ℕ → Value → Test
joins_parent? n parent nd pre low high u =
    and? (and? (not? (is_root? n parent u)) (not? (is_root? n parent (at? n parent u))))
    (or? (lt? (at? n low u) (at? n pre (at? n parent u)))
    (le? (plus? (at? n pre (at? n parent u)) (at? n nd (at? n parent u))) (at? n high u)))

unfoldable pub parent_joins_round? : ℕ → List ℕ → List ℕ → List ℕ → List ℕ → List ℕ → List ℕ → Option (List ℕ)
parent_joins_round? n parent nd pre low high joins =
    over? n (λ (u : Value). mark? (joins_parent? n parent nd pre low high u)) joins

-- ---- stage 9

unfoldable pub joined? : ℕ → List ℕ → Value → Value → Value → Test
joined? n parent mark a b = and? (and? (not? (eq? mark (some 0))) (not? (is_root? n parent a)))
    (not? (is_root? n parent b))

unfoldable pub heard_over? : ℕ → List ℕ → List ℕ → Value → Value → Value → Value → Value
heard_over? n parent value mark a b v = if? (joined? n parent mark a b) (heard? n value a b v) (at? n value v)

unfoldable pub least_joined? : ℕ → ℕ → List ℕ → List ℕ → List ℕ → List ℕ → List ℕ → Value → Value
least_joined? n m ends parent linkJoins parentJoins value v =
    if? (is_root? n parent v) absent
    (least? n (λ (u : Value). heard_over? n parent value (at? n parentJoins u) u (at? n parent u) v)
    (least? m (λ (j : Value). heard_over? n parent value (at? m linkJoins j) (end_a? m ends j) (end_b? m ends j) v)
    (at? n value v)))

unfoldable pub aux_round? : ℕ → ℕ → ℕ → List ℕ → List ℕ → List ℕ → List ℕ → List ℕ → Option (List ℕ)
aux_round? n m made ends parent linkJoins parentJoins color =
    over? n (least_joined? n m ends parent linkJoins parentJoins (aux_said n made color)) color

-- ---- stage 10

unfoldable pub naming_unit? : ℕ → List ℕ → List ℕ → Value → Value → Value
naming_unit? n parent pre a b =
    if? (and? (eq? (at? n parent a) b) (eq? (at? n parent b) a)) (both? min a b)
    (if? (eq? (at? n parent b) a) b (if? (eq? (at? n parent a) b) a (if? (lt? (at? n pre b) (at? n pre a)) a b)))

unfoldable pub class_round? : ℕ → ℕ → List ℕ → List ℕ → List ℕ → List ℕ → List ℕ → Option (List ℕ)
class_round? n m ends parent pre color class =
    over? m (λ (j : Value). at? n color (naming_unit? n parent pre (end_a? m ends j) (end_b? m ends j))) class

unfoldable pub label_of? : ℕ → List ℕ → Value → Value
label_of? m class j = least? m (λ (k : Value). if? (eq? (at? m class k) (at? m class j)) k absent) absent

unfoldable pub label_round? : ℕ → List ℕ → List ℕ → Option (List ℕ)
label_round? m class label = over? m (label_of? m class) label
