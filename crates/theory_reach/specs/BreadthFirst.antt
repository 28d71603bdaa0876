-- Stage 2: after k rounds the units within k − 1 links of their component's color are visited, each with its distance
-- and a parent one nearer; the stage ends before its ceiling, and then the parents are a spanning forest in which a
-- link's ends differ by at most one in depth.
use Rattle.std.specs.Prelude.{◌≡◌, true, ◌↔◌, ◌⊎◌, ◌≢◌, List, [], ◌∷◌, eqb, ltb, ℤ, length}
use Rattle.std.proofs.Math.Path.{refl}
use Rattle.std.proofs.Common.{sym, ap, ◌∙◌, inl, inr, le_trans}
use Rattle.std.proofs.Math.Bool.{Bool, false, cond}
use Prim.Native.Nat.{ℕ, zero, suc, ◌≤◌, ◌<◌}
use Rattle.std.proofs.Math.Decide.{ℕ_discrete, dec_lt}
use native.Mathlib.Omega.{arith}
use borrow.Author.Tests.{eqb-true, eqb-false, eq-eqb, ne_eqb, lt-ltb, le-ltb, not-true, not-false}
use Rattle.base_lists.specs.Folds.{some}
use Rattle.base_lists.specs.Some.{some-exact, some-none}
use Rattle.base_lists.specs.Members.{Mem, Distinct}
use Rattle.base_lists.specs.Pigeonhole.{Picked, pigeonhole}
use Rattle.base_lists.specs.Counts.{count_le}
use Rattle.base_lists.specs.Tables.{over, length_over, get_d_over}
use Rattle.base_lists.specs.Tests.{either, not_both}
use Rattle.table.specs.Table.{end_a, end_b}
use Rattle.spec_rules.specs.Basics.{ABSENT, at}
use Rattle.spec_rules.specs.Tree.{chosen_parent, visits, parent_round, dist_round, tree_ends}
use Rattle.spec_rules.proofs.ParentChoice.{Choice, nearer, nobody, chosen, visits-later}
use Rattle.theory_graph.specs.Rings.{Walk, last, Connected}
use Rattle.theory_graph.specs.Routes.{connected_refl, connected-link, connected_sym}
use Rattle.theory_graph.specs.Forest.{Anc, OffTree}
use Rattle.theory_graph.specs.Ancestors.{anc_near}
use Rattle.theory_reach.specs.Site.{Site, Link, link-below, site-graph}
use Rattle.theory_reach.specs.Rooted.{Rooted, root_of}
use Rattle.theory_reach.specs.Colors.{Colored}

-- ---- how a unit stands after k rounds

pub record Root (color parent dist : List ℕ) (v : ℕ) : Type 0 where
  pub own : at color v ≡ v
  pub distance : at dist v ≡ 0
  pub orphan : at parent v ≡ ABSENT

pub record Child (n m : ℕ) (ends color parent dist : List ℕ) (k v : ℕ) : Type 0 where
  pub other : at color v ≢ v
  pub before : at dist v < k
  pub few : at dist v < n
  pub below : at parent v < n
  pub link : Link m ends v (at parent v)
  pub nearer : at dist v ≡ suc (at dist (at parent v))

pub record Unvisited (color parent dist : List ℕ) (v : ℕ) : Type 0 where
  pub other : at color v ≢ v
  pub distance : at dist v ≡ ABSENT
  pub orphan : at parent v ≡ ABSENT

pub data Standing (n m : ℕ) (ends color parent dist : List ℕ) (k v : ℕ) : Type 0 where
  root : Root color parent dist v → Standing n m ends color parent dist k v
  child : Child n m ends color parent dist k v → Standing n m ends color parent dist k v
  unvisited : Unvisited color parent dist v → Standing n m ends color parent dist k v

-- the tables of parents and distances after k rounds
pub record TreeAt (n m : ℕ) (ends color parent dist : List ℕ) (k : ℕ) : Type 0 where
  pub parent_room : n ≤ length parent
  pub dist_room : n ≤ length dist
  pub stands : (v : ℕ) → v < n → Standing n m ends color parent dist k v
  -- a neighbour of a unit visited before the last round is visited, at most one farther
  pub closed : (u v : ℕ) → Link m ends u v → suc (at dist u) < k → at dist v ≤ suc (at dist u)

-- the depth that a table of distances gives; a number that is no unit has 0
abbrev pub depth_of : ℕ → List ℕ → ℕ → ℕ
depth_of n dist v = cond (ltb v n) (at dist v) 0

-- the breadth-first law: a link's ends differ by at most one in depth
abbrev pub Leveled : ℕ → List ℕ → (ℕ → ℕ) → Type 0
Leveled m ends d = (u v : ℕ) → Link m ends u v → d v ≤ suc (d u)

-- ---- how the round after k rounds leaves a unit

-- visited now, from a neighbour visited in the round before
record Visited (m : ℕ) (ends : List ℕ) (levels : List ℤ) (color dist parent' dist' : List ℕ) (k v : ℕ) : Type 0 where
  goes : visits m k ends levels color dist v ≡ true
  unseen : at dist v ≡ ABSENT
  distance : at dist' v ≡ k
  link : Link m ends v (at parent' v)
  nearer : suc (at dist (at parent' v)) ≡ k

-- as it was, and with no such neighbour where unvisited
record Kept (m : ℕ) (ends : List ℕ) (levels : List ℤ) (color parent dist parent' dist' : List ℕ)
    (k v : ℕ) : Type 0 where
  stays : visits m k ends levels color dist v ≡ false
  same_dist : at dist' v ≡ at dist v
  same_parent : at parent' v ≡ at parent v
  apart : at dist v ≡ ABSENT → (w : ℕ) → Link m ends v w → suc (at dist w) ≡ k → ⊥

data Now (m : ℕ) (ends : List ℕ) (levels : List ℤ) (color parent dist parent' dist' : List ℕ) (k v : ℕ) : Type 0 where
  visited : Visited m ends levels color dist parent' dist' k v → Now m ends levels color parent dist parent' dist' k v
  kept : Kept m ends levels color parent dist parent' dist' k v → Now m ends levels color parent dist parent' dist' k v

record Round (n m : ℕ) (ends : List ℕ) (levels : List ℤ) (color parent dist parent' dist' : List ℕ)
    (k : ℕ) : Type 0 where
  parent_room : n ≤ length parent'
  dist_room : n ≤ length dist'
  each : (v : ℕ) → v < n → Now m ends levels color parent dist parent' dist' k v

-- e + 1 different units at distances up to e
record Chain (n : ℕ) (dist : List ℕ) (e : ℕ) : Type 0 where
  units : List ℕ
  long : length units ≡ suc e
  different : Distinct units
  within : (z : ℕ) → Mem z units → (z < n) × (at dist z ≤ e)

module _ {n m : ℕ} {ends : List ℕ} (site : Site n m ends) (levels : List ℤ) {color : List ℕ}
    (colored : Colored n m ends color) where
  few_units : n ≤ 256
  few_units = site.few_units

  -- ---- the first round

  pub first : (parent dist : List ℕ) → n ≤ length parent → n ≤ length dist
      → ((v : ℕ) → v < n → at parent v ≡ ABSENT) → ((v : ℕ) → v < n → at dist v ≡ ABSENT)
      → TreeAt n m ends color (parent_round n m 0 ends levels color dist parent)
      (dist_round n m 0 ends levels color dist) 1
  unfolding parent_round dist_round visits
  first parent dist roomP roomD noParent noDist =
      record {
        parent_room = rw (length_over n parents parent) roomP;
        dist_room = rw (length_over n dists dist) roomD;
        stands = λ v l. stands v l (either (eqb (at color v) v));
        closed = λ u v r h. absurd (omega arith);
      }
    where
      parents : ℕ → ℕ
      parents v = cond (eqb (at color v) v) ABSENT (at parent v)

      dists : ℕ → ℕ
      dists v = cond (eqb (at color v) v) 0 (at dist v)

      parents-at : (v : ℕ) → v < n → at (over n parents parent) v ≡ parents v
      parents-at v l = get_d_over n parents parent v 0 l (le_trans l roomP)

      dists-at : (v : ℕ) → v < n → at (over n dists dist) v ≡ dists v
      dists-at v l = get_d_over n dists dist v 0 l (le_trans l roomD)

      stands : (v : ℕ) → v < n → (eqb (at color v) v ≡ true) ⊎ (eqb (at color v) v ≡ false)
          → Standing n m ends color (over n parents parent) (over n dists dist) 1 v
      stands v l (inl e) =
          root (record {
            own = eqb-true (at color v) v e;
            distance = dists-at v l ∙ rw e refl;
            orphan = parents-at v l ∙ rw e refl;
          })
      stands v l (inr e) =
          unvisited (record {
            other = eqb-false (at color v) v e;
            distance = dists-at v l ∙ rw e (noDist v l);
            orphan = parents-at v l ∙ rw e (noParent v l);
          })

  -- unit 0 equals its color
  pub first-goes_on : (dist : List ℕ) → tree_ends n m 0 ends levels color dist ≡ false
  unfolding tree_ends visits
  first-goes_on dist =
      let lowest : at color 0 ≤ 0 = colored.lowest 0 0 site.some_unit (connected_refl (Link m ends) 0) in
      let own : at color 0 ≡ 0 = omega arith in
      rw ((some-exact n (visits m 0 ends levels color dist)).1 (0, site.some_unit, eq-eqb (at color 0) 0 own)) refl

  -- ---- what the units visited so far are

  module _ {parent dist : List ℕ} {k : ℕ} (tree : TreeAt n m ends color parent dist k) where
    visited-few : 1 ≤ k → (v : ℕ) → v < n → at dist v < ABSENT → (at dist v < n) × (at dist v < k)
    visited-few later v l h = go (tree.stands v l)
      where
        go : Standing n m ends color parent dist k v → (at dist v < n) × (at dist v < k)
        go (root s) = (omega arith, omega arith)
        go (child s) = (s.few, s.before)
        go (unvisited s) = absurd (omega arith)

    -- the way up from a visited unit: one unit for each distance down to 0
    chain : (e v : ℕ) → v < n → at dist v ≡ e → e < ABSENT → Chain n dist e
    chain zero v l h small = record { units = v ∷ []; long = refl; different = (λ x. x, tt); within = only }
      where
        only : (z : ℕ) → Mem z (v ∷ []) → (z < n) × (at dist z ≤ 0)
        only z (inl x) = rw x (l, omega arith)
        only z (inr x) = absurd x
    chain (suc e) v l h small = go (tree.stands v l) (chain e)
      where
        longer : Chain n dist e → Chain n dist (suc e)
        longer c =
            record {
              units = v ∷ c.units;
              long = ap suc c.long;
              different = (λ x. omega (arith, (c.within v x).1), c.different);
              within = within;
            }
          where
            within : (z : ℕ) → Mem z (v ∷ c.units) → (z < n) × (at dist z ≤ suc e)
            within z (inl x) = rw x (l, omega arith)
            within z (inr x) = let b = c.within z x in (b.0, omega arith)

        go : Standing n m ends color parent dist k v → ((w : ℕ) → w < n → at dist w ≡ e → e < ABSENT → Chain n dist e) →
            Chain n dist (suc e)
        go (root s) up = absurd (omega arith)
        go (child s) up = longer (up (at parent v) s.below (omega arith) (omega arith))
        go (unvisited s) up = absurd (omega arith)

    -- where links lead from visited units to visited ones, all are visited: each from the color of its component
    visited-all : ((u v : ℕ) → Link m ends u v → at dist u < ABSENT → at dist v < ABSENT) → (v : ℕ) → v < n →
        at dist v < ABSENT
    visited-all on v l = go (connected_sym (Link m ends) (site-graph site).flip v (at color v) (colored.reached v l))
      where
        start : Standing n m ends color parent dist k (at color v) → at dist (at color v) < ABSENT
        start (root s) = omega arith
        start (child s) = absurd (s.other (colored.own v l))
        start (unvisited s) = absurd (s.other (colored.own v l))

        along : (u : ℕ) (t : List ℕ) → at dist u < ABSENT → Walk (Link m ends) u t → at dist (last u t) < ABSENT
        along u [] h w = h
        along u (x ∷ t) h w = along x t (on u x w.0 h) w.1

        go : Connected (Link m ends) (at color v) v → at dist v < ABSENT
        go (t, r) = rw r.1 at (along (at color v) t (start (tree.stands (at color v) (colored.below v l))) r.0)

    -- an unvisited unit with a neighbour visited in the last round: it and the way up from the neighbour are k + 1
    -- units
    few-rounds : 1 ≤ k → (v w : ℕ) → at dist v ≡ ABSENT → Link m ends v w → suc (at dist w) ≡ k → suc k ≤ n
    few-rounds later v w unseen r e = go (dec_lt n k)
      where
        -- past n rounds all would be visited
        on : n < k → (x y : ℕ) → Link m ends x y → at dist x < ABSENT → at dist y < ABSENT
        on past x y q h =
            let b = visited-few later x (link-below site x y q).0 h in
            omega (arith, tree.closed x y q (omega arith), few_units)

        count : Chain n dist (at dist w) → k ≤ n → suc k ≤ n
        count c small =
            let fresh : Mem v c.units → ⊥ = λ x. omega (arith, (c.within v x).1, few_units) in
            omega (
              arith,
              c.long,
              pigeonhole (λ i. true) n (v ∷ c.units) (fresh, c.different) picked,
              count_le n (λ i. true),
            )
          where
            picked : (z : ℕ) → Mem z (v ∷ c.units) → Picked (λ i. true) n z
            picked z (inl x) = record { below = rw x (link-below site v w r).0; passes = refl }
            picked z (inr x) = record { below = (c.within z x).0; passes = refl }

        go : Dec (n < k) → suc k ≤ n
        go (yes past) = absurd (omega (arith, visited-all (on past) v (link-below site v w r).0))
        go (no h) = count (chain (at dist w) w (link-below site v w r).1 refl (omega (arith, few_units))) (omega arith)

    -- where all are visited, and a link's ends differ by at most one in distance
    rooted-all : ((v : ℕ) → v < n → at dist v < ABSENT) → ((u v : ℕ) → Link m ends u v → at dist v ≤ suc (at dist u))
        → Rooted n m ends color parent (depth_of n dist) × Leveled m ends (depth_of n dist)
    rooted-all all near = (
      record {
        forest = record { deeper = λ v h. (lower v h).2; link = λ v h. (lower v h).1; top = top; spans = spans };
        absent_root = λ v l. absent_root v l (tree.stands v l);
        parent_below = λ v l h. (lower v h).0;
        color_below = colored.below;
        outside = depth-outside;
      },
      leveled,
    )
      where
        d : ℕ → ℕ
        d v = depth_of n dist v

        depth : (v : ℕ) → v < n → d v ≡ at dist v
        depth v l = rw (lt-ltb v n l) refl

        depth-outside : (v : ℕ) → n ≤ v → d v ≡ 0
        depth-outside v h = rw (le-ltb v n h) refl

        leveled : Leveled m ends (depth_of n dist)
        leveled u v r =
            let (a, b) = link-below site u v r in
            rw (depth u a, depth v b) (near u v r)

        -- a unit that is no root
        lower : (v : ℕ) → 0 < d v → (at parent v < n) × Link m ends v (at parent v) × (d v ≡ suc (d (at parent v)))
        lower v h = go (dec_lt v n)
          where
            by : v < n → Standing n m ends color parent dist k v →
                (at parent v < n) × Link m ends v (at parent v) × (d v ≡ suc (d (at parent v)))
            by l (root s) = absurd (omega (arith, depth v l))
            by l (child s) = (s.below, s.link, omega (arith, depth v l, depth (at parent v) s.below))
            by l (unvisited s) = absurd (omega (arith, all v l))

            go : Dec (v < n) → (at parent v < n) × Link m ends v (at parent v) × (d v ≡ suc (d (at parent v)))
            go (yes l) = by l (tree.stands v l)
            go (no l) = absurd (omega (arith, depth-outside v (omega arith)))

        top : (v : ℕ) → d v ≡ 0 → root_of n color v ≡ v
        top v h = go (dec_lt v n)
          where
            by : v < n → Standing n m ends color parent dist k v → at color v ≡ v
            by l (root s) = s.own
            by l (child s) = absurd (omega (arith, depth v l))
            by l (unvisited s) = absurd (omega (arith, all v l))

            go : Dec (v < n) → root_of n color v ≡ v
            go (yes l) = rw (lt-ltb v n l) (by l (tree.stands v l))
            go (no l) = rw (le-ltb v n (omega arith)) refl

        spans : (u v : ℕ) → Link m ends u v → root_of n color u ≡ root_of n color v
        spans u v r =
            let (a, b) = link-below site u v r in
            rw (lt-ltb u n a, lt-ltb v n b) ((colored.same u v a b).1 (connected-link (Link m ends) u v r))

        absent_root : (v : ℕ) → v < n → Standing n m ends color parent dist k v → (at parent v ≡ ABSENT) ↔ (d v ≡ 0)
        absent_root v l (root s) = (λ h. depth v l ∙ s.distance, λ h. s.orphan)
        absent_root v l (child s) = (λ h. absurd (omega (arith, few_units)), λ h. absurd (omega (arith, depth v l)))
        absent_root v l (unvisited s) = absurd (omega (arith, all v l))

  -- ---- a later round

  made : {parent dist : List ℕ} {k : ℕ} → TreeAt n m ends color parent dist k → 1 ≤ k
      → Round n m ends levels color parent dist (parent_round n m k ends levels color dist parent)
      (dist_round n m k ends levels color dist) k
  unfolding parent_round dist_round
  made {parent} {dist} {k} tree later =
      record {
        parent_room = rw (length_over n parents parent) tree.parent_room;
        dist_room = rw (length_over n dists dist) tree.dist_room;
        each = λ v l. each v l (ℕ_discrete (at dist v) ABSENT) (chosen m k ends levels dist small_a small_b v);
      }
    where
      goes : ℕ → Bool
      goes v = visits m k ends levels color dist v

      choice : ℕ → ℕ
      choice v = chosen_parent m k ends levels dist v

      parents : ℕ → ℕ
      parents v = cond (goes v) (cond (eqb k 0) ABSENT (choice v)) (at parent v)

      dists : ℕ → ℕ
      dists v = cond (goes v) k (at dist v)

      parents-at : (v : ℕ) → v < n → at (over n parents parent) v ≡ parents v
      parents-at v l = get_d_over n parents parent v 0 l (le_trans l tree.parent_room)

      dists-at : (v : ℕ) → v < n → at (over n dists dist) v ≡ dists v
      dists-at v l = get_d_over n dists dist v 0 l (le_trans l tree.dist_room)

      small_a : (j : ℕ) → j < m → end_a ends j < ABSENT
      small_a j l = omega (arith, site.below_a j l, few_units)

      small_b : (j : ℕ) → j < m → end_b ends j < ABSENT
      small_b j l = omega (arith, site.below_b j l, few_units)

      not_first : eqb k 0 ≡ false
      not_first = ne_eqb k 0 (λ e. omega arith)

      same : (v : ℕ) → v < n → goes v ≡ false →
          (at dist v ≡ ABSENT → (w : ℕ) → Link m ends v w → suc (at dist w) ≡ k → ⊥)
          → Now m ends levels color parent dist (over n parents parent) (over n dists dist) k v
      same v l e apart =
          kept (record {
            stays = e;
            same_dist = dists-at v l ∙ rw e refl;
            same_parent = parents-at v l ∙ rw e refl;
            apart = apart;
          })

      each : (v : ℕ) → v < n → Dec (at dist v ≡ ABSENT) → Choice m k ends dist v (choice v)
          → Now m ends levels color parent dist (over n parents parent) (over n dists dist) k v
      each v l (yes d) (nearer small j h r e) =
          let on : goes v ≡ true = rw (
            visits-later m k ends levels color dist v later,
            eq-eqb (at dist v) ABSENT d,
            ne_eqb (choice v) ABSENT (λ x. omega arith),
          ) refl in
          let p : at (over n parents parent) v ≡ choice v = parents-at v l ∙ rw (on, not_first) refl in
          visited (record {
            goes = on;
            unseen = d;
            distance = dists-at v l ∙ rw on refl;
            link = rw p (j, h, r);
            nearer = rw p (omega arith);
          })
      each v l (yes d) (nobody e none) =
          same v l (rw (
            visits-later m k ends levels color dist v later,
            eq-eqb (at dist v) ABSENT d,
            eq-eqb (choice v) ABSENT e,
          ) refl)
          (λ x w r s. none r.0 w r.1 r.2 (omega arith))
      each v l (no d) c = same v l (rw (
        visits-later m k ends levels color dist v later,
        ne_eqb (at dist v) ABSENT d,
      ) refl) (λ x. absurd (d x))

  module _ {parent dist parent' dist' : List ℕ} {k : ℕ} (tree : TreeAt n m ends color parent dist k) (later : 1 ≤ k)
      (round : Round n m ends levels color parent dist parent' dist' k) where
    -- what was visited stays
    settled : (v : ℕ) → v < n → at dist v < ABSENT → at dist' v ≡ at dist v
    settled v l h = go (round.each v l)
      where
        go : Now m ends levels color parent dist parent' dist' k v → at dist' v ≡ at dist v
        go (visited now) = absurd (omega arith)
        go (kept now) = now.same_dist

    after : TreeAt n m ends color parent' dist' (suc k)
    after =
        record {
          parent_room = round.parent_room;
          dist_room = round.dist_room;
          stands = λ v l. stands v l (round.each v l) (tree.stands v l);
          closed = closed;
        }
      where
        stands : (v : ℕ) → v < n → Now m ends levels color parent dist parent' dist' k v →
            Standing n m ends color parent dist k v
            → Standing n m ends color parent' dist' (suc k) v
        stands v l (visited now) (root s) = absurd (omega arith)
        stands v l (visited now) (child s) = absurd (omega (arith, few_units))
        stands v l (visited now) (unvisited s) =
            let w = at parent' v in
            let b : w < n = (link-below site v w now.link).1 in
            let f : suc k ≤ n = few-rounds tree later v w now.unseen now.link now.nearer in
            let same : at dist' w ≡ at dist w = settled w b (omega (arith, few_units)) in
            child (record {
              other = s.other;
              before = omega arith;
              few = omega arith;
              below = b;
              link = now.link;
              nearer = omega arith;
            })
        stands v l (kept now) (root s) =
            root (record { own = s.own; distance = now.same_dist ∙ s.distance; orphan = now.same_parent ∙ s.orphan })
        stands v l (kept now) (child s) =
            let same : at dist' (at parent v) ≡ at dist (at parent v) =
            settled (at parent v) s.below (omega (arith, few_units)) in
            child (record {
              other = s.other;
              before = omega arith;
              few = omega arith;
              below = rw now.same_parent s.below;
              link = rw now.same_parent s.link;
              nearer = rw now.same_parent (omega arith);
            })
        stands v l (kept now) (unvisited s) =
            unvisited (record {
              other = s.other;
              distance = now.same_dist ∙ s.distance;
              orphan = now.same_parent ∙ s.orphan;
            })

        closed : (u v : ℕ) → Link m ends u v → suc (at dist' u) < suc k → at dist' v ≤ suc (at dist' u)
        closed u v r h = go (round.each u (link-below site u v r).0) (round.each v (link-below site u v r).1)
            (dec_lt (suc (at dist u)) k)
          where
            -- a neighbour of a unit visited in the round before is visited by now
            last-round : suc (at dist u) ≡ k → Kept m ends levels color parent dist parent' dist' k v →
                Standing n m ends color parent dist k v → at dist v ≤ k
            last-round e now (root s) = omega arith
            last-round e now (child s) = omega arith
            last-round e now (unvisited s) = absurd (now.apart s.distance u ((site-graph site).flip u v r) e)

            go : Now m ends levels color parent dist parent' dist' k u →
                Now m ends levels color parent dist parent' dist' k v → Dec (suc (at dist u) < k)
                → at dist' v ≤ suc (at dist' u)
            go (visited a) b c = absurd (omega arith)
            go (kept a) (visited b) (yes c) =
                let f : suc k ≤ n = few-rounds tree later v (at parent' v) b.unseen b.link b.nearer in
                absurd (omega (arith, tree.closed u v r c, few_units))
            go (kept a) (visited b) (no c) = omega arith
            go (kept a) (kept b) (yes c) = omega (arith, tree.closed u v r c)
            go (kept a) (kept b) (no c) =
                omega (arith, last-round (omega arith) b (tree.stands v (link-below site u v r).1))

  pub next : {parent dist : List ℕ} {k : ℕ} → TreeAt n m ends color parent dist k → 1 ≤ k
      → TreeAt n m ends color (parent_round n m k ends levels color dist parent)
      (dist_round n m k ends levels color dist)
      (suc k)
  next tree later = after tree later (made tree later)

  -- ---- the end of the stage

  module _ {parent dist : List ℕ} {k : ℕ} (tree : TreeAt n m ends color parent dist k) (later : 1 ≤ k) where
    -- while it goes on, the ceiling is not reached
    pub bound : tree_ends n m k ends levels color dist ≡ false → suc k ≤ n
    unfolding tree_ends
    bound e = go ((some-exact n (visits m k ends levels color dist)).0
        (not-false (some n (visits m k ends levels color dist)) e))
      where
        go : (v : ℕ) × (v < n) × (visits m k ends levels color dist v ≡ true) → suc k ≤ n
        go (v, l, h) = by ((made tree later).each v l)
          where
            by : Now m ends levels color parent dist (parent_round n m k ends levels color dist parent)
                (dist_round n m k ends levels color dist) k v → suc k ≤ n
            by (visited now) = few-rounds tree later v _ now.unseen now.link now.nearer
            by (kept now) = absurd (not_both (visits m k ends levels color dist v) h now.stays)

    -- the last round left every unit as it was, so none at distance k
    last-short : tree_ends n m k ends levels color dist ≡ true → (v : ℕ) → v < n →
        at (dist_round n m k ends levels color dist) v < ABSENT
        → (at (dist_round n m k ends levels color dist) v < n) × (at (dist_round n m k ends levels color dist) v < k)
    unfolding tree_ends
    last-short e v l h = by ((made tree later).each v l)
      where
        none : visits m k ends levels color dist v ≡ false
        none = some-none n (visits m k ends levels color dist)
            (not-true (some n (visits m k ends levels color dist)) e) v l

        by : Now m ends levels color parent dist (parent_round n m k ends levels color dist parent)
            (dist_round n m k ends levels color dist) k v
            → (at (dist_round n m k ends levels color dist) v < n)
            × (at (dist_round n m k ends levels color dist) v < k)
        by (visited now) = absurd (not_both (visits m k ends levels color dist v) now.goes none)
        by (kept now) = rw now.same_dist (visited-few tree later v l (omega arith))

    pub done : tree_ends n m k ends levels color dist ≡ true
        → Rooted n m ends color (parent_round n m k ends levels color dist parent)
        (depth_of n (dist_round n m k ends levels color dist))
        × Leveled m ends (depth_of n (dist_round n m k ends levels color dist))
    done e = rooted-all final all (λ u v r. near u v r (all u (link-below site u v r).0))
      where
        dist' : List ℕ
        dist' = dist_round n m k ends levels color dist

        final : TreeAt n m ends color (parent_round n m k ends levels color dist parent) dist' (suc k)
        final = next tree later

        near : (u v : ℕ) → Link m ends u v → at dist' u < ABSENT → at dist' v ≤ suc (at dist' u)
        near u v r h = let b = last-short e u (link-below site u v r).0 h in final.closed u v r (omega arith)

        all : (v : ℕ) → v < n → at dist' v < ABSENT
        all = visited-all final (λ u v r h. let b = last-short e u (link-below site u v r).0 h in omega (
          arith,
          near u v r h,
          few_units,
        ))

-- in a breadth-first forest neither end of a link off the tree is an ancestor of the other
pub off_unrelated : {n m : ℕ} {ends color parent : List ℕ} {d : ℕ → ℕ} {u v : ℕ} → Site n m ends → Leveled m ends d →
    Rooted n m ends color parent d
    → OffTree (Link m ends) (at parent) d u v → (Anc (at parent) d u v → ⊥) × (Anc (at parent) d v u → ⊥)
off_unrelated {d = d} {u} {v} site level rooted off = (
  λ a. off.off (inr (anc_near rooted.forest a apart (level u v off.link))),
  λ a. off.off (inl (anc_near rooted.forest a (λ e. apart (sym e))
      (level v u ((site-graph site).flip u v off.link)))),
)
  where
    apart : u ≢ v
    apart e = (site-graph site).loopless v (rw e at off.link)
