-- A round leaves every entry within its bounds: for each rule, from the bounds of the tables that it reads.
use Rattle.std.specs.Prelude.{◌≡◌, refl, Bool, true, false, cond, not, ◌&&◌, ◌||◌, ◌⊎◌, List, ℕ, zero, suc, ◌+◌, ◌*◌}
use Rattle.std.specs.Prelude.{◌-◌, ◌/◌, ◌^◌, ◌≤◌, ◌<◌, min, eqb, ℤ}
use Rattle.std.proofs.Common.{inl, inr, arith, eq-eqb}
use Rattle.std.proofs.Math.Dec.{leb, ltb}
use Rattle.std.proofs.lemmas.Bool.{eqb-false}
use Rattle.base_lists.specs.All.{All, all-at, all-over, cond-keeps}
use Rattle.base_lists.specs.Folds.{least, count}
use Rattle.base_lists.specs.LeastLaws.{least_le}
use Rattle.base_lists.specs.Counts.{count_le}
use Rattle.base_lists.specs.Tables.{over}
use Rattle.base_lists.specs.Tests.{either, or_left, or_right, cond_true, cond_false}
use Rattle.table.specs.Table.{end_a, end_b}
use Rattle.spec_rules.specs.Basics.{ABSENT, MAX-NUMBER, at, bounded, is_root, heard, off_tree}
use Rattle.spec_rules.specs.BoundLaws.{Names, Number, Distance, names_at, number_at, bounded-number}
use Rattle.base_lists.specs.FoldLaws.{Picks, min_picks, picks-keep, fold-picks}
use Rattle.spec_rules.specs.Components.{least_heard, color_said, color_round}
use Rattle.spec_rules.specs.Tree.{visited_before, level_at, better, Neighbor, prefer, best_neighbor, chosen_parent}
use Rattle.spec_rules.specs.Tree.{visits, parent_round, dist_round}
use Rattle.spec_rules.specs.Tour.{arc_unit, is_into, is_arc, tree_neighbor, least_neighbor, greater_neighbor}
use Rattle.spec_rules.specs.Tour.{neighbor_after, arc_after, follower, is_start, predecessor, next_round, pred_round}
use Rattle.spec_rules.specs.Tour.{first_sums, first_jumps}
use Rattle.spec_rules.specs.Ranking.{asks, sum_round, jump_round}
use Rattle.spec_rules.specs.Order.{reverse_arc, forward_round, descendants, nd_round, second_sums, second_jumps}
use Rattle.spec_rules.specs.Order.{place_of, pre_round}
use Rattle.spec_rules.specs.Range.{place_heard, local_of, unit_at, local_at, end_place, global_first, range_first}
use Rattle.spec_rules.specs.Range.{little_first, big_first, odd, moves_little, moves_big, segment, segment_before}
use Rattle.spec_rules.specs.Range.{with_little, with_big, range_later, little_later, big_later, global_later}
use Rattle.spec_rules.specs.Aux.{joins_ends, link_joins_round, joins_parent, parent_joins_round, joined, heard_over}
use Rattle.spec_rules.specs.Aux.{least_joined, aux_said, aux_round}
use Rattle.spec_rules.specs.Labels.{class_round, label_of, label_round}

-- ---- stage 1

heard-names : (k : ℕ) (value : List ℕ) (a b v : ℕ) → 0 < k → All (Names k) value → Names k (heard value a b v)
heard-names k value a b v h w =
    cond-keeps (Names k) (eqb a v) _ _ (names_at k value b h w)
    (cond-keeps (Names k) (eqb b v) _ _ (names_at k value a h w) (names_at k value v h w))

said-names : (n : ℕ) (b : Bool) (color : List ℕ) → All (Names n) color →
    All (Names n) (cond b (over n (λ (v : ℕ). v) color) color)
said-names n true color w = all-over (Names n) n (λ (v : ℕ). v) color (λ (i : ℕ) (l : i < n). inl l) w
said-names n false color w = w

pub color_names : (n m made : ℕ) (ends color : List ℕ) → 0 < n → All (Names n) color →
    All (Names n) (color_round n m made ends color)
unfolding color_round least_heard
color_names n m made ends color h w = all-over (Names n) n _ color (λ (v : ℕ) (l : v < n). entry v) w
  where
    said : All (Names n) (color_said n made color)
    said = said-names n (eqb made 0) color w

    entry : (v : ℕ) → Names n (least_heard m ends (color_said n made color) v)
    entry v =
        fold-picks (Names n) min min_picks m (λ (j : ℕ). heard (color_said n made color) (end_a ends j) (end_b ends j)
        v)
        (at (color_said n made color) v)
        (λ (j : ℕ) (l : j < m). heard-names n (color_said n made color) (end_a ends j) (end_b ends j) v h said)
        (names_at n (color_said n made color) v h said)

-- ---- stage 2

named : ℕ → Neighbor → Type 0
named n best = Names n best.unit

prefer-names : (n : ℕ) (best : Neighbor) (z : ℤ) (w : ℕ) → Names n w → named n best → named n (prefer best z w)
unfolding prefer named
prefer-names n best z w h g = keeps (eqb best.unit ABSENT || better z w best.level best.unit)
  where
    keeps : (t : Bool) → named n (cond t (record { level = z; unit = w }) best)
    keeps true = h
    keeps false = g

best-names : (n : ℕ) (passes : ℕ → Bool) (m : ℕ) (ends : List ℕ) (levels : List ℤ) (v : ℕ) → 0 < n →
    All (Names n) ends → named n (best_neighbor passes m ends levels v)
unfolding best_neighbor named
best-names n passes zero ends levels v h e = inr refl
best-names n passes (suc m) ends levels v h e =
    keeps (eqb (end_a ends m) v && passes (end_b ends m)) (eqb (end_b ends m) v && passes (end_a ends m))
    (best-names n passes m ends levels v h e)
  where
    best : Neighbor
    best = best_neighbor passes m ends levels v

    keeps : (s t : Bool) → named n best →
        named n (cond s (prefer best (level_at levels m) (end_b ends m))
        (cond t (prefer best (level_at levels m) (end_a ends m)) best))
    keeps true t g = prefer-names n best (level_at levels m) (end_b ends m) (names_at n ends _ h e) g
    keeps false true g = prefer-names n best (level_at levels m) (end_a ends m) (names_at n ends _ h e) g
    keeps false false g = g

chosen-names : (n m made : ℕ) (ends : List ℕ) (levels : List ℤ) (dist : List ℕ) (v : ℕ) → 0 < n → All (Names n) ends
    → Names n (chosen_parent m made ends levels dist v)
unfolding chosen_parent named
chosen-names n m made ends levels dist v h e = best-names n (visited_before made dist) m ends levels v h e

pub parent-names : (n m made : ℕ) (ends : List ℕ) (levels : List ℤ) (color dist parent : List ℕ) → n ≤ ABSENT → 0 < n →
    All (Names n) ends → All (Names n) parent
    → All (Names n) (parent_round n m made ends levels color dist parent)
unfolding parent_round
parent-names n m made ends levels color dist parent small h e w =
    all-over (Names n) n _ parent
    (λ (v : ℕ) (l : v < n).
    cond-keeps (Names n) (visits m made ends levels color dist v) _ _
    (cond-keeps (Names n) (eqb made 0) _ _ (inr refl) (chosen-names n m made ends levels dist v h e))
    (names_at n parent v h w))
    w

pub dist_distances : (n m made : ℕ) (ends : List ℕ) (levels : List ℤ) (color dist : List ℕ) → made ≤ MAX-NUMBER →
    All Distance dist
    → All Distance (dist_round n m made ends levels color dist)
unfolding dist_round
dist_distances n m made ends levels color dist h w =
    all-over Distance n _ dist
    (λ (v : ℕ) (l : v < n). cond-keeps Distance (visits m made ends levels color dist v) _ _ (inl h)
    (all-at Distance dist v 0 (inl (omega arith)) w))
    w

-- ---- stage 3

-- the least of the numbers below n that pass a test is below n, or absent; where one passes, it is below n
least-names : (n : ℕ) (p : ℕ → Bool) → Names n (least n (λ (w : ℕ). cond (p w) w ABSENT) ABSENT)
least-names n p =
    fold-picks (Names n) min min_picks n (λ (w : ℕ). cond (p w) w ABSENT) ABSENT
    (λ (w : ℕ) (l : w < n). cond-keeps (Names n) (p w) w ABSENT (inl l) (inr refl)) (inr refl)

least-below : (n : ℕ) (p : ℕ → Bool) (u : ℕ) → n ≤ ABSENT → u < n → p u ≡ true →
    least n (λ (w : ℕ). cond (p w) w ABSENT) ABSENT < n
least-below n p u small l t = go (least-names n p)
    (rw (cond_true (p u) u ABSENT t) at (least_le n (λ (w : ℕ). cond (p w) w ABSENT) ABSENT u l))
  where
    go : Names n (least n (λ (w : ℕ). cond (p w) w ABSENT) ABSENT) → least n (λ (w : ℕ). cond (p w) w ABSENT) ABSENT ≤ u
        → least n (λ (w : ℕ). cond (p w) w ABSENT) ABSENT < n
    go (inl h) k = h
    go (inr h) k = omega arith

after-below : (n : ℕ) (parent : List ℕ) (v u : ℕ) → n ≤ ABSENT → u < n → tree_neighbor parent v u ≡ true →
    neighbor_after n parent v u < n
unfolding neighbor_after least_neighbor greater_neighbor
after-below n parent v u small l t = go (least-names n (λ (w : ℕ). tree_neighbor parent v w && ltb u w))
    (either (eqb (greater_neighbor n parent v u) ABSENT))
  where
    go : Names n (greater_neighbor n parent v u) →
        (eqb (greater_neighbor n parent v u) ABSENT ≡ true) ⊎ (eqb (greater_neighbor n parent v u) ABSENT ≡ false)
        → neighbor_after n parent v u < n
    go g (inl e) = rw (cond_true (eqb (greater_neighbor n parent v u) ABSENT) (least_neighbor n parent v)
        (greater_neighbor n parent v u) e) (least-below n (tree_neighbor parent v) u small l t)
    go (inl g) (inr e) = rw (cond_false (eqb (greater_neighbor n parent v u) ABSENT) (least_neighbor n parent v)
        (greater_neighbor n parent v u) e) g
    go (inr g) (inr e) = absurd (eqb-false (greater_neighbor n parent v u) ABSENT e g)

-- the arc after (u, v) exists, where u is a tree neighbour of v
arc-after-names : (n : ℕ) (parent : List ℕ) (u v : ℕ) → n ≤ ABSENT → u < n → v < n → tree_neighbor parent v u ≡ true
    → Names (2 * n) (arc_after n parent u v)
arc-after-names n parent u v small l k t =
    cond-keeps (Names (2 * n)) (eqb (at parent (neighbor_after n parent v u)) v) (2 * neighbor_after n parent v u)
    (2 * v + 1)
    (inl (omega (arith, after-below n parent v u small l t))) (inl (omega arith))

follower-names : (n : ℕ) (parent : List ℕ) (a : ℕ) → n ≤ ABSENT → All (Names n) parent → a < 2 * n →
    Names (2 * n) (follower n parent a)
unfolding follower
follower-names n parent a small w l = go (names_at n parent (arc_unit a) (omega arith) w)
    (either (is_root parent (arc_unit a)))
  where
    go : Names n (at parent (arc_unit a)) → (is_root parent (arc_unit a) ≡ true) ⊎ (is_root parent (arc_unit a) ≡ false)
        →
        Names (2 * n) (follower n parent a)
    go p (inl e) = rw e (inr refl)
    go (inl p) (inr e) =
        rw e
        (cond-keeps (Names (2 * n)) (is_into a) (arc_after n parent (at parent (arc_unit a)) (arc_unit a))
        (arc_after n parent (arc_unit a) (at parent (arc_unit a)))
        (arc-after-names n parent (at parent (arc_unit a)) (arc_unit a) small p (omega arith)
        (or_right (eqb (at parent (at parent (arc_unit a))) (arc_unit a)) _
        (eq-eqb (at parent (arc_unit a)) (at parent (arc_unit a)) refl)))
        (arc-after-names n parent (arc_unit a) (at parent (arc_unit a)) small (omega arith) p
        (or_left _ (eqb (at parent (at parent (arc_unit a))) (arc_unit a))
        (eq-eqb (at parent (arc_unit a)) (at parent (arc_unit a)) refl))))
    go (inr p) (inr e) = absurd (eqb-false (at parent (arc_unit a)) ABSENT e p)

pub next-names : (n : ℕ) (parent next : List ℕ) → n ≤ ABSENT → All (Names n) parent → All (Names (2 * n)) next →
    All (Names (2 * n)) (next_round n parent next)
unfolding next_round
next-names n parent next small p w =
    all-over (Names (2 * n)) (2 * n) (follower n parent) next
    (λ (a : ℕ) (l : a < 2 * n). follower-names n parent a small p l) w

-- predecessors, in the tour and as the first ranking's working ones
predecessor-names : (n : ℕ) (parent next table : List ℕ) → All (Names (2 * n)) table
    → All (Names (2 * n)) (over (2 * n) (predecessor n parent next) table)
unfolding predecessor
predecessor-names n parent next table w =
    all-over (Names (2 * n)) (2 * n) (predecessor n parent next) table
    (λ (a : ℕ) (l : a < 2 * n).
    cond-keeps (Names (2 * n)) (is_arc parent a && not (is_start n parent a))
    (least (2 * n) (λ (b : ℕ). cond (eqb (at next b) a) b ABSENT) ABSENT) ABSENT
    (least-names (2 * n) (λ (b : ℕ). eqb (at next b) a)) (inr refl))
    w

pub pred_names : (n : ℕ) (parent next pred : List ℕ) → All (Names (2 * n)) pred →
    All (Names (2 * n)) (pred_round n parent next pred)
unfolding pred_round
pred_names n parent next pred w = predecessor-names n parent next pred w

pub first-jump_names : (n : ℕ) (parent next jump : List ℕ) → All (Names (2 * n)) jump →
    All (Names (2 * n)) (first_jumps n parent next jump)
unfolding first_jumps
first-jump_names n parent next jump w = predecessor-names n parent next jump w

-- a table of marks, 1 or 0
mark-numbers : (n : ℕ) (p : ℕ → Bool) (table : List ℕ) → All Number table →
    All Number (over n (λ (i : ℕ). cond (p i) 1 0) table)
mark-numbers n p table w =
    all-over Number n (λ (i : ℕ). cond (p i) 1 0) table
    (λ (i : ℕ) (l : i < n). cond-keeps Number (p i) 1 0 (omega arith) (omega arith)) w

pub first-sum_numbers : (n : ℕ) (parent sum : List ℕ) → All Number sum → All Number (first_sums n parent sum)
unfolding first_sums
first-sum_numbers n parent sum w = mark-numbers (2 * n) (is_arc parent) sum w

-- ---- stages 4 and 6

pub sum-numbers : (k : ℕ) (jump sum : List ℕ) → All Number sum → All Number (sum_round k jump sum)
unfolding sum_round
sum-numbers k jump sum w =
    all-over Number k (λ (a : ℕ). cond (asks jump a) (bounded (at sum a + at sum (at jump a))) (at sum a)) sum
    (λ (a : ℕ) (l : a < k). cond-keeps Number (asks jump a) (bounded (at sum a + at sum (at jump a))) (at sum a)
    (bounded-number _) (number_at sum a w)) w

pub jump-names : (k : ℕ) (jump : List ℕ) → All (Names k) jump → All (Names k) (jump_round k jump)
unfolding jump_round
jump-names k jump w =
    all-over (Names k) k (λ (a : ℕ). cond (asks jump a) (at jump (at jump a)) (at jump a)) jump
    (λ (a : ℕ) (l : a < k).
    cond-keeps (Names k) (asks jump a) (at jump (at jump a)) (at jump a) (names_at k jump (at jump a) (omega arith) w)
    (names_at k jump a (omega arith) w))
    w

-- ---- stage 5, and the places of stage 6

pub forward-numbers : (n : ℕ) (parent rank forward : List ℕ) → All Number forward →
    All Number (forward_round n parent rank forward)
unfolding forward_round
forward-numbers n parent rank forward w =
    mark-numbers (2 * n) (λ (a : ℕ). is_arc parent a && ltb (at rank a) (at rank (reverse_arc a))) forward w

pub nd-numbers : (n : ℕ) (color parent rank nd : List ℕ) → n ≤ MAX-NUMBER → All Number rank → All Number nd →
    All Number (nd_round n color parent rank nd)
unfolding nd_round descendants
nd-numbers n color parent rank nd small r w =
    all-over Number n (descendants n color parent rank) nd
    (λ (v : ℕ) (l : v < n).
    cond-keeps Number (is_root parent v) (count n (λ (u : ℕ). eqb (at color u) (at color v)))
    ((at rank (2 * v + 1) + 1 - at rank (2 * v)) / 2)
    (omega (arith, count_le n (λ (u : ℕ). eqb (at color u) (at color v))))
    (omega (arith, number_at rank (2 * v + 1) r)))
    w

pub second-sum_numbers : (n : ℕ) (parent forward sum : List ℕ) → All Number sum →
    All Number (second_sums n parent forward sum)
unfolding second_sums
second-sum_numbers n parent forward sum w =
    mark-numbers (2 * n) (λ (a : ℕ). is_arc parent a && not (eqb (at forward a) 0)) sum w

pub second-jump_names : (n : ℕ) (pred jump : List ℕ) → All (Names (2 * n)) pred → All (Names (2 * n)) jump →
    All (Names (2 * n)) (second_jumps n pred jump)
unfolding second_jumps
second-jump_names n pred jump p w =
    all-over (Names (2 * n)) (2 * n) (at pred) jump
    (λ (a : ℕ) (l : a < 2 * n). names_at (2 * n) pred a (omega arith) p) w

pub pre-numbers : (n : ℕ) (color parent sum pre : List ℕ) → All Number pre →
    All Number (pre_round n color parent sum pre)
unfolding pre_round place_of
pre-numbers n color parent sum pre w = all-over Number n (place_of n color parent sum) pre
    (λ (v : ℕ) (l : v < n). bounded-number _) w

-- ---- stage 7, for either choice

module _ (op : ℕ → ℕ → ℕ) (picks : Picks op) where
  local-number : (n m : ℕ) (ends parent pre : List ℕ) (q : ℕ) → All Number pre →
      Number (local_at op n m ends parent pre q)
  unfolding local_at local_of
  local-number n m ends parent pre q w =
      cond-keeps Number (eqb (unit_at n pre q) ABSENT) 0 (local_of op m ends parent pre (unit_at n pre q)) (omega arith)
      (fold-picks Number op picks m (place_heard ends parent pre (unit_at n pre q)) (at pre (unit_at n pre q))
      (λ (j : ℕ) (l : j < m).
      cond-keeps Number (off_tree parent (end_a ends j) (end_b ends j))
      (heard pre (end_a ends j) (end_b ends j) (unit_at n pre q)) (at pre (unit_at n pre q))
      (cond-keeps Number (eqb (end_a ends j) (unit_at n pre q)) (at pre (end_b ends j)) _
      (number_at pre (end_b ends j) w)
      (cond-keeps Number (eqb (end_b ends j) (unit_at n pre q)) (at pre (end_a ends j)) (at pre (unit_at n pre q))
      (number_at pre (end_a ends j) w) (number_at pre (unit_at n pre q) w)))
      (number_at pre (unit_at n pre q) w))
      (number_at pre (unit_at n pre q) w))

  pub global-first-numbers : (n m : ℕ) (ends parent pre global : List ℕ) → All Number pre → All Number global
      → All Number (global_first op n m ends parent pre global)
  unfolding global_first
  global-first-numbers n m ends parent pre global p w =
      all-over Number n (local_at op n m ends parent pre) global
      (λ (q : ℕ) (l : q < n). local-number n m ends parent pre q p) w

  pub range-first-numbers : (n m : ℕ) (ends parent nd pre range : List ℕ) → All Number pre → All Number range
      → All Number (range_first op n m ends parent nd pre range)
  unfolding range_first
  range-first-numbers n m ends parent nd pre range p w =
      all-over Number n _ range
      (λ (v : ℕ) (l : v < n).
      cond-keeps Number (leb 1 (end_place nd pre v) && leb (end_place nd pre v) n)
      (local_at op n m ends parent pre (end_place nd pre v - 1)) 0
      (local-number n m ends parent pre (end_place nd pre v - 1) p) (omega arith))
      w

  segment-number : (n : ℕ) (global : List ℕ) (q : ℕ) → All Number global → Number (segment n global q)
  segment-number n global q w = cond-keeps Number (ltb q n) (at global q) 0 (number_at global q w) (omega arith)

  pub range-later-numbers : (i n : ℕ) (global little big range : List ℕ) → All Number global → All Number range
      → All Number (range_later op i n global little big range)
  unfolding range_later with_little with_big
  range-later-numbers i n global little big range g w = all-over Number n _ range (λ (v : ℕ) (l : v < n). second v) w
    where
      first : (v : ℕ) → Number (with_little op i n global little big v (at range v))
      first v =
          cond-keeps Number (moves_little i little big v) (op (at range v) (segment n global (at little v)))
          (at range v)
          (picks-keep Number op picks (at range v) (segment n global (at little v)) (number_at range v w)
          (segment-number n global (at little v) g))
          (number_at range v w)

      second : (v : ℕ) → Number (with_big op i n global little big v
          (with_little op i n global little big v (at range v)))
      second v =
          cond-keeps Number (moves_big i little big v)
          (op (with_little op i n global little big v (at range v)) (segment_before i n global (at big v))) _
          (picks-keep Number op picks _ (segment_before i n global (at big v)) (first v)
          (cond-keeps Number (leb (2 ^ i) (at big v)) (segment n global (at big v - 2 ^ i)) 0
          (segment-number n global (at big v - 2 ^ i) g) (omega arith)))
          (first v)

  pub global-later-numbers : (i n : ℕ) (global : List ℕ) → All Number global → All Number (global_later op i n global)
  unfolding global_later
  global-later-numbers i n global w =
      all-over Number n _ global
      (λ (q : ℕ) (l : q < n).
      cond-keeps Number (not (odd i q) && ltb (q + 2 ^ i) n) (op (at global q) (at global (q + 2 ^ i))) (at global q)
      (picks-keep Number op picks (at global q) (at global (q + 2 ^ i)) (number_at global q w)
      (number_at global (q + 2 ^ i) w))
      (number_at global q w))
      w

pub little-first-numbers : (n : ℕ) (pre little : List ℕ) → All Number pre → All Number little →
    All Number (little_first n pre little)
unfolding little_first
little-first-numbers n pre little p w = all-over Number n (at pre) little (λ (v : ℕ) (l : v < n). number_at pre v p) w

pub big-first-numbers : (n : ℕ) (nd pre big : List ℕ) → All Number big → All Number (big_first n nd pre big)
unfolding big_first
big-first-numbers n nd pre big w = all-over Number n _ big (λ (v : ℕ) (l : v < n). bounded-number _) w

pub little-later-numbers : (i n : ℕ) (big little : List ℕ) → All Number little
    → All Number (little_later i n big little)
unfolding little_later
little-later-numbers i n big little w =
    all-over Number n _ little
    (λ (v : ℕ) (l : v < n).
    cond-keeps Number (moves_little i little big v) (bounded (at little v + 2 ^ i)) (at little v) (bounded-number _)
    (number_at little v w))
    w

pub big-later-numbers : (i n : ℕ) (little big : List ℕ) → All Number big → All Number (big_later i n little big)
unfolding big_later
big-later-numbers i n little big w =
    all-over Number n _ big
    (λ (v : ℕ) (l : v < n).
    cond-keeps Number (moves_big i little big v) (at big v - 2 ^ i) (at big v) (omega (arith, number_at big v w))
    (number_at big v w))
    w

-- ---- stages 8 and 9

pub parent-join_numbers : (n : ℕ) (parent nd pre low high joins : List ℕ) → All Number joins
    → All Number (parent_joins_round n parent nd pre low high joins)
unfolding parent_joins_round
parent-join_numbers n parent nd pre low high joins w = mark-numbers n (joins_parent parent nd pre low high) joins w

pub link-join_numbers : (m : ℕ) (ends parent nd pre joins : List ℕ) → All Number joins →
    All Number (link_joins_round m ends parent nd pre joins)
unfolding link_joins_round
link-join_numbers m ends parent nd pre joins w =
    mark-numbers m (λ (j : ℕ). joins_ends parent nd pre (end_a ends j) (end_b ends j)) joins w

pub aux-names : (n m made : ℕ) (ends parent linkJoins parentJoins color : List ℕ) → 0 < n → All (Names n) color
    → All (Names n) (aux_round n m made ends parent linkJoins parentJoins color)
unfolding aux_round least_joined
aux-names n m made ends parent linkJoins parentJoins color h w =
    all-over (Names n) n _ color (λ (v : ℕ) (l : v < n). entry v) w
  where
    said : All (Names n) (aux_said n made color)
    said = said-names n (eqb made 0) color w

    over-join : (mark a b v : ℕ) → Names n (heard_over parent (aux_said n made color) mark a b v)
    over-join mark a b v =
        cond-keeps (Names n) (joined parent mark a b) (heard (aux_said n made color) a b v)
        (at (aux_said n made color) v)
        (heard-names n (aux_said n made color) a b v h said) (names_at n (aux_said n made color) v h said)

    entry : (v : ℕ) → Names n (least_joined n m ends parent linkJoins parentJoins (aux_said n made color) v)
    entry v =
        cond-keeps (Names n) (is_root parent v) ABSENT _ (inr refl)
        (fold-picks (Names n) min min_picks n
        (λ (u : ℕ). heard_over parent (aux_said n made color) (at parentJoins u) u (at parent u) v) _
        (λ (u : ℕ) (l : u < n). over-join (at parentJoins u) u (at parent u) v)
        (fold-picks (Names n) min min_picks m
        (λ (j : ℕ). heard_over parent (aux_said n made color) (at linkJoins j) (end_a ends j) (end_b ends j) v) _
        (λ (j : ℕ) (l : j < m). over-join (at linkJoins j) (end_a ends j) (end_b ends j) v)
        (names_at n (aux_said n made color) v h said)))

-- ---- stage 10

pub class-names : (n m : ℕ) (ends parent pre color class : List ℕ) → 0 < n → All (Names n) color → All (Names n) class
    → All (Names n) (class_round m ends parent pre color class)
unfolding class_round
class-names n m ends parent pre color class h c w =
    all-over (Names n) m _ class (λ (j : ℕ) (l : j < m). names_at n color _ h c) w

pub label_names : (m : ℕ) (class label : List ℕ) → All (Names m) label → All (Names m) (label_round m class label)
unfolding label_round label_of
label_names m class label w =
    all-over (Names m) m (label_of m class) label
    (λ (j : ℕ) (l : j < m). least-names m (λ (k : ℕ). eqb (at class k) (at class j))) w
