-- The exact rules of stages 1 to 3 have the values of the rules, on a table whose ends are units and, from stage 3 on,
-- whose parents are.
use Rattle.std.specs.Prelude.{◌≡◌, Bool, true, false, ◌&&◌, ◌⊎◌, List, ℤ}
use Rattle.std.proofs.Math.Path.{refl, ap}
use Rattle.std.proofs.Math.Bool.{cond}
use Rattle.std.proofs.Common.{inl, inr, le_refl, arith, eqb-true, eq-eqb, lt-ltb}
use Rattle.std.proofs.Math.Option.{Option, some, map}
use Prim.Native.Nat.{ℕ, zero, suc, ◌+◌, ◌*◌, ◌-◌, ◌/◌, ◌%◌, ◌≤◌, ◌<◌, min}
use Rattle.std.proofs.Math.Dec.{eqb, ltb}
use Rattle.std.proofs.lemmas.Bool.{eqb-false, not-true}
use Rattle.base_lists.specs.Tests.{either, or_left, or_right}
use Rattle.table.specs.Table.{end_a, end_b}
use Rattle.spec_rules.specs.Basics.{ABSENT, at, is_root, off_tree, heard}
use Rattle.spec_rules.specs.Components.{least_heard, color_round}
use Rattle.spec_rules.specs.Tree.{visited_before, level_at, Neighbor, prefer, best_neighbor, chosen_parent, visits}
use Rattle.spec_rules.specs.Tree.{parent_round, dist_round, tree_ends}
use Rattle.spec_rules.specs.Tour.{arc_unit, is_into, is_arc, tree_neighbor, least_neighbor, greater_neighbor}
use Rattle.spec_rules.specs.Tour.{neighbor_after}
use Rattle.spec_rules.specs.Tour.{arc_after, follower, is_start, predecessor, next_round, pred_round, first_sums}
use Rattle.spec_rules.specs.Tour.{first_jumps}
use Rattle.spec_rules.specs.CyclicOrder.{after_next}
use Rattle.spec_rules.specs.BoundLaws.{Names}
use Rattle.theory_reach.specs.Partial
use Rattle.theory_reach.specs.Partial.{Value, Test, read, minus, half, both, nots, ands, ors, ifs, conds, folds}
use Rattle.theory_reach.specs.Partial.{anys, overs}
use Rattle.theory_reach.specs.ExactRules

-- ---- what the stages share

module _ (m : ℕ) (ends : List ℕ) {x : Value} {j : ℕ} (e : x ≡ some j) (l : j < m) where
  pub end-a : ExactRules.end_a? m ends x ≡ some (end_a ends j)
  unfolding ExactRules.end_a?
  end-a = read (2 * m) ends (both ◌*◌ refl e) (omega arith)

  pub end-b : ExactRules.end_b? m ends x ≡ some (end_b ends j)
  unfolding ExactRules.end_b?
  end-b = read (2 * m) ends (both ◌+◌ (both ◌*◌ refl e) refl) (omega arith)

pub root : (n : ℕ) (parent : List ℕ) {x : Value} {v : ℕ} → x ≡ some v → v < n →
    ExactRules.is_root? n parent x ≡ some (is_root parent v)
unfolding ExactRules.is_root?
root n parent e l = both eqb (read n parent e l) refl

pub marked : {t : Test} {b : Bool} → t ≡ some b → ExactRules.mark? t ≡ some (cond b 1 0)
unfolding ExactRules.mark?
marked e = ifs e (λ q. refl) (λ q. refl)

module _ (n : ℕ) {x y : Value} {a b : ℕ} (e : x ≡ some a) (f : y ≡ some b) (la : a < n) (lb : b < n) where
  pub off : (parent : List ℕ) → ExactRules.off_tree? n parent x y ≡ some (off_tree parent a b)
  unfolding ExactRules.off_tree?
  off parent = ands (nots (both eqb (read n parent e la) f)) (λ q. nots (both eqb (read n parent f lb) e))

  pub heards : (value : List ℕ) {z : Value} {v : ℕ} → z ≡ some v → v < n →
      ExactRules.heard? n value x y z ≡ some (heard value a b v)
  unfolding ExactRules.heard?
  heards value g lv =
      ifs (both eqb e g) (λ q. read n value f lb)
      (λ q. ifs (both eqb f g) (λ r. read n value e la) (λ r. read n value g lv))

-- ---- stages 1 and 2

-- a link offers a neighbour
prefers : {x : Option Neighbor} {y : Option ℤ} {t : Value} {best : Neighbor} {z : ℤ} {w : ℕ} → x ≡ some best →
    y ≡ some z → t ≡ some w
    → ExactRules.prefer? x y t ≡ some (prefer best z w)
unfolding ExactRules.prefer?
prefers e f g = both _ e (both _ f g)

module _ (n m : ℕ) (ends : List ℕ) (below_a : (j : ℕ) → j < m → end_a ends j < n) (below_b : (j : ℕ) → j < m →
    end_b ends j < n) where
  least-heard : (value : List ℕ) (v : ℕ) → v < n →
      ExactRules.least_heard? n m ends value (some v) ≡ some (least_heard m ends value v)
  unfolding ExactRules.least_heard? least_heard
  least-heard value v l =
      folds min m _ (λ (j : ℕ). heard value (end_a ends j) (end_b ends j) v)
      (λ j k. heards n (end-a m ends refl k) (end-b m ends refl k) (below_a j k) (below_b j k) value refl l)
      (read n value refl l)

  pub color_round_lem : (made : ℕ) (color : List ℕ) →
      ExactRules.color_round? n m made ends color ≡ some (color_round n m made ends color)
  unfolding ExactRules.color_round? color_round
  color_round_lem made color = overs n _ _ color (least-heard _)

  module _ (levels : List ℤ) (made : ℕ) (dist : List ℕ) where
    later : eqb made 0 ≡ false → 1 ≤ made
    later t = omega (arith, eqb-false made 0 t)

    level : (j : ℕ) → j < m → ExactRules.level_at? m levels (some j) ≡ some (level_at levels j)
    unfolding ExactRules.level_at?
    level j k = rw (lt-ltb j m k) refl

    best : 1 ≤ made → (v k : ℕ) → k ≤ m
        → ExactRules.best_neighbor? m (ExactRules.visited_before? n made dist) k ends levels (some v)
        ≡ some (best_neighbor (visited_before made dist) k ends levels v)
    unfolding ExactRules.best_neighbor? ExactRules.over_link? ExactRules.visited_before? best_neighbor
    best h v zero l = refl
    best h v (suc k) l =
        let before = best h v k (omega (arith, l)) in
        ifs (ands (both eqb (end-a m ends refl l) refl)
        (λ q. both eqb (read n dist (end-b m ends refl l) (below_b k l)) (minus refl refl h)))
        (λ q. prefers before (level k l) (end-b m ends refl l))
        (λ q.
        ifs (ands (both eqb (end-b m ends refl l) refl)
        (λ r. both eqb (read n dist (end-a m ends refl l) (below_a k l)) (minus refl refl h)))
        (λ r. prefers before (level k l) (end-a m ends refl l))
        (λ r. before))

    chosen : 1 ≤ made → (v : ℕ) → ExactRules.chosen_parent? n m made ends levels dist (some v)
        ≡ some (chosen_parent m made ends levels dist v)
    unfolding ExactRules.chosen_parent? chosen_parent
    chosen h v = ap (map (λ (b : Neighbor). b.unit)) (best h v m (le_refl m))

    -- a parent is chosen in later rounds only
    visit : (color : List ℕ) (v : ℕ) → v < n →
        ExactRules.visits? n m made ends levels color dist (some v) ≡ some (visits m made ends levels color dist v)
    unfolding ExactRules.visits? visits
    visit color v l =
        conds (eqb made 0) (λ t. both eqb (read n color refl l) refl)
        (λ t. ands (both eqb (read n dist refl l) refl) (λ q. nots (both eqb (chosen (later t) v) refl)))

    pub parent-round : (color parent : List ℕ)
        → ExactRules.parent_round? n m made ends levels color dist parent
        ≡ some (parent_round n m made ends levels color dist parent)
    unfolding ExactRules.parent_round? parent_round
    parent-round color parent =
        overs n _ (λ (v : ℕ). cond (visits m made ends levels color dist v)
        (cond (eqb made 0) ABSENT (chosen_parent m made ends levels dist v)) (at parent v)) parent
        (λ v l.
        ifs (visit color v l) (λ q. conds (eqb made 0) (λ t. refl) (λ t. chosen (later t) v))
        (λ q. read n parent refl l))

    pub dist_round_lem : (color : List ℕ) → ExactRules.dist_round? n m made ends levels color dist
        ≡ some (dist_round n m made ends levels color dist)
    unfolding ExactRules.dist_round? dist_round
    dist_round_lem color =
        overs n _ (λ (v : ℕ). cond (visits m made ends levels color dist v) made (at dist v)) dist
        (λ v l. ifs (visit color v l) (λ q. refl) (λ q. read n dist refl l))

    pub tree-ends : (color : List ℕ) → ExactRules.tree_ends? n m made ends levels color dist
        ≡ some (tree_ends n m made ends levels color dist)
    unfolding ExactRules.tree_ends? tree_ends
    tree-ends color = nots (anys n _ _ (visit color))

-- ---- stage 3

-- an arc's number is even or odd, and its unit exact either way
pub into : {x : Value} {a : ℕ} → x ≡ some a → ExactRules.is_into? x ≡ some (is_into a)
unfolding ExactRules.is_into?
into e = both eqb (both ◌%◌ e refl) refl

arc-unit : (a : ℕ) → ExactRules.arc_unit? (some a) ≡ some (arc_unit a)
unfolding ExactRules.arc_unit?
arc-unit a = half (a / 2) (ifs (into refl) (λ q. refl) (λ q. minus refl refl (some-odd q))) (exact (either (is_into a)))
  where
    some-odd : is_into a ≡ false → 1 ≤ a
    some-odd q = omega (arith, eqb-false (a % 2) 0 q)

    exact : (is_into a ≡ true) ⊎ (is_into a ≡ false) → cond (is_into a) a (a - 1) ≡ 2 * (a / 2)
    exact (inl t) = rw t (omega (arith, eqb-true (a % 2) 0 t))
    exact (inr t) = rw t (omega (arith, eqb-false (a % 2) 0 t))

-- a parent that is there is a unit
pub below_of : (n : ℕ) (parent : List ℕ) → ((v : ℕ) → v < n → Names n (at parent v)) → (v : ℕ) → v < n →
    is_root parent v ≡ false → at parent v < n
below_of n parent names v l q = go (names v l)
  where
    go : Names n (at parent v) → at parent v < n
    go (inl h) = h
    go (inr h) = absurd (eqb-false (at parent v) ABSENT q h)

module _ (n : ℕ) (parent : List ℕ) (few : n ≤ ABSENT) (names : (v : ℕ) → v < n → Names n (at parent v)) where
  pub arc : (a : ℕ) → a < 2 * n → ExactRules.is_arc? n parent (some a) ≡ some (is_arc parent a)
  unfolding ExactRules.is_arc?
  arc a l = nots (root n parent (arc-unit a) (omega arith))

  neighbor : {x y : Value} {v w : ℕ} → x ≡ some v → y ≡ some w → v < n → w < n →
      ExactRules.tree_neighbor? n parent x y ≡ some (tree_neighbor parent v w)
  unfolding ExactRules.tree_neighbor?
  neighbor e f l k = ors (both eqb (read n parent f k) e) (λ q. both eqb (read n parent e l) f)

  least-neighbor : {x : Value} {v : ℕ} → x ≡ some v → v < n →
      ExactRules.least_neighbor? n parent x ≡ some (least_neighbor n parent v)
  unfolding ExactRules.least_neighbor? least_neighbor
  least-neighbor {x} {v} e l =
      folds min n _ (λ (w : ℕ). cond (tree_neighbor parent v w) w ABSENT)
      (λ w k. ifs (neighbor e refl l k) (λ q. refl) (λ q. refl)) refl

  greater-neighbor : {x y : Value} {v u : ℕ} → x ≡ some v → y ≡ some u → v < n →
      ExactRules.greater_neighbor? n parent x y ≡ some (greater_neighbor n parent v u)
  unfolding ExactRules.greater_neighbor? greater_neighbor
  greater-neighbor {v = v} {u = u} e f l =
      folds min n _ (λ (w : ℕ). cond (tree_neighbor parent v w && ltb u w) w ABSENT)
      (λ w k. ifs (ands (neighbor e refl l k) (λ q. both ltb f refl)) (λ q. refl) (λ q. refl)) refl

  neighbor-after : {x y : Value} {v u : ℕ} → x ≡ some v → y ≡ some u → v < n →
      ExactRules.neighbor_after? n parent x y ≡ some (neighbor_after n parent v u)
  unfolding ExactRules.neighbor_after? neighbor_after
  neighbor-after e f l =
      ifs (both eqb (greater-neighbor e f l) refl) (λ q. least-neighbor e l) (λ q. greater-neighbor e f l)

  -- the neighbour after a tree neighbour is there
  arc-after : {x y : Value} {u v : ℕ} → x ≡ some u → y ≡ some v → u < n → v < n → tree_neighbor parent v u ≡ true
      → ExactRules.arc_after? n parent x y ≡ some (arc_after n parent u v)
  unfolding ExactRules.arc_after? ExactRules.arc_from?
  arc-after {u = u} {v = v} e f l k t =
      let w : neighbor_after n parent v u < n = (after_next n parent v u few l t).0 in
      ifs (both eqb (read n parent (neighbor-after f e k) w) f) (λ q. both ◌*◌ refl (neighbor-after f e k))
      (λ q. both ◌+◌ (both ◌*◌ refl f) refl)

  -- the arc's unit, and where it is an arc its parent
  module _ (a : ℕ) (l : a < 2 * n) where
    unit : arc_unit a < n
    unit = omega arith

    up : Partial.at? n parent (ExactRules.arc_unit? (some a)) ≡ some (at parent (arc_unit a))
    up = read n parent (arc-unit a) unit

    above : is_arc parent a ≡ true → at parent (arc_unit a) < n
    above q = below_of n parent names (arc_unit a) unit (not-true (is_root parent (arc_unit a)) q)

    same : eqb (at parent (arc_unit a)) (at parent (arc_unit a)) ≡ true
    same = eq-eqb (at parent (arc_unit a)) (at parent (arc_unit a)) refl

    follow : ExactRules.follower? n parent (some a) ≡ some (follower n parent a)
    unfolding ExactRules.follower? follower
    follow =
        ifs (arc a l)
        (λ q.
        ifs (into refl)
        (λ r. arc-after up (arc-unit a) (above q) unit
        (or_right (eqb (at parent (at parent (arc_unit a))) (arc_unit a)) _ same))
        (λ r. arc-after (arc-unit a) up unit (above q)
        (or_left (eqb (at parent (arc_unit a)) (at parent (arc_unit a))) _ same)))
        (λ q. refl)

    starts : is_arc parent a ≡ true → ExactRules.is_start? n parent (some a) ≡ some (is_start n parent a)
    unfolding ExactRules.is_start? is_start
    starts q = ands (ands (into refl) (λ r. root n parent up (above q)))
        (λ r. both eqb (least-neighbor up (above q)) (arc-unit a))

    precede : (next : List ℕ) → ExactRules.predecessor? n parent next (some a) ≡ some (predecessor n parent next a)
    unfolding ExactRules.predecessor? predecessor
    precede next =
        ifs (ands (arc a l) (λ q. nots (starts q)))
        (λ q.
        folds min (2 * n) _ (λ (b : ℕ). cond (eqb (at next b) a) b ABSENT)
        (λ b k. ifs (both eqb (read (2 * n) next refl k) refl) (λ r. refl) (λ r. refl)) refl)
        (λ q. refl)

  pub next-round : (next : List ℕ) → ExactRules.next_round? n parent next ≡ some (next_round n parent next)
  unfolding ExactRules.next_round? next_round
  next-round next = overs (2 * n) _ _ next follow

  pub pred_round_lem : (next pred : List ℕ) → ExactRules.pred_round? n parent next pred
      ≡ some (pred_round n parent next pred)
  unfolding ExactRules.pred_round? pred_round
  pred_round_lem next pred = overs (2 * n) _ _ pred (λ a l. precede a l next)

  pub first-jumps : (next jump : List ℕ) →
      ExactRules.first_jumps? n parent next jump ≡ some (first_jumps n parent next jump)
  unfolding ExactRules.first_jumps? first_jumps
  first-jumps next jump = overs (2 * n) _ _ jump (λ a l. precede a l next)

  pub first-sums : (sum : List ℕ) → ExactRules.first_sums? n parent sum ≡ some (first_sums n parent sum)
  unfolding ExactRules.first_sums? first_sums
  first-sums sum = overs (2 * n) _ _ sum (λ a l. marked (arc a l))
