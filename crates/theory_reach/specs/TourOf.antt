-- Stage 3's rules meet the potentials: the follower of an arc has the next rank or starts a tour, the predecessor the
-- rank before; and how many arcs have a rank above a number.
use Rattle.std.specs.Prelude.{◌≡◌, true, false, cond, not, ◌&&◌, ◌↔◌, ◌⊎◌, List}
use Rattle.std.proofs.Math.Path.{refl}
use Rattle.std.proofs.Common.{sym, ap, subst, ◌∙◌, inl, inr}
use Rattle.std.proofs.Math.Bool.{Bool}
use Prim.Native.Nat.{ℕ, suc, ◌+◌, ◌*◌, ◌-◌, ◌≤◌, ◌<◌}
use Rattle.std.proofs.Math.Decide.{ℕ_discrete, dec_lt}
use native.Mathlib.Omega.{arith}
use Rattle.std.proofs.Math.Dec.{eqb}
use borrow.Author.Tests.{eqb-true, eq-eqb, ne_eqb, lt-ltb}
use Rattle.base_lists.specs.Folds.{count}
use Rattle.base_lists.specs.Counts.{count_less, count-fewer}
use Rattle.base_lists.specs.Tests.{either, and_left, and_right, or_cases, or_left, or_right, or_exact, cond_true}
use Rattle.base_lists.specs.Tests.{cond_false, not_both, refuted}
use Rattle.spec_rules.specs.Basics.{ABSENT, at, is_root}
use Rattle.spec_rules.specs.Tour.{arc_unit, is_into, is_arc, tree_neighbor, least_neighbor, neighbor_after, arc_from}
use Rattle.spec_rules.specs.Tour.{arc_after}
use Rattle.spec_rules.specs.Tour.{follower, is_start, predecessor}
use Rattle.spec_rules.specs.CyclicOrder.{least_passing, passing-least, passing-found, Next, greater, wrapped, next-onto}
use Rattle.spec_rules.specs.CyclicOrder.{after_next, after_is, turned-high, turned-first, turned-next}
use Rattle.theory_graph.specs.Ancestors.{root_anc}
use Rattle.theory_reach.specs.Site.{Site}
use Rattle.theory_reach.specs.Rooted.{Rooted, root_of, root-exact}
use Rattle.theory_reach.specs.SizeAndOrder.{pre, earlier, key, pivot, Child, inside, deeper, parent-unit}
use Rattle.theory_reach.specs.SizeAndOrder.{pivot-parent, pivot-root, earlier_gap, earlier-none, pre-root}
use Rattle.theory_reach.specs.Potentials.{rank_of, forward_sum, Arc, Step, into-even, out-odd, arc-cases, arc-exact}
use Rattle.theory_reach.specs.Potentials.{rank-into, forward-into, rank-none, rank-from, rank-to}

-- what precedes a: nothing where it is no arc or starts a tour, else an arc b that it comes one after
pub data Preceded (n : ℕ) (parent : List ℕ) (d : ℕ → ℕ) (a b : ℕ) : Type 0 where
  none : is_arc parent a ≡ false → b ≡ ABSENT → rank_of n parent d a ≡ 1 → forward_sum n parent d a ≡ 0 →
      Preceded n parent d a b
  start : is_arc parent a ≡ true → is_start n parent a ≡ true → b ≡ ABSENT → rank_of n parent d a ≡ 1 →
      forward_sum n parent d a ≡ 1 → Preceded n parent d a b
  after : is_arc parent a ≡ true → is_start n parent a ≡ false → b < 2 * n → is_arc parent b ≡ true
      → Step n parent d b a →
      Preceded n parent d a b

-- what is no arc has no follower
no_follower : (n : ℕ) (parent : List ℕ) (a : ℕ) → is_arc parent a ≡ false → follower n parent a ≡ ABSENT
unfolding follower
no_follower n parent a e = rw e refl

-- a start leads into a unit
pub start-into : (n : ℕ) (parent : List ℕ) (a : ℕ) → is_start n parent a ≡ true → is_into a ≡ true
unfolding is_start
start-into n parent a t =
    and_left (is_into a) (is_root parent (at parent (arc_unit a)))
    (and_left (is_into a && is_root parent (at parent (arc_unit a)))
    (eqb (least_neighbor n parent (at parent (arc_unit a))) (arc_unit a)) t)

module _ {n m : ℕ} {ends color parent : List ℕ} {d : ℕ →
    ℕ} (site : Site n m ends) (rooted : Rooted n m ends color parent d) where
  small : n ≤ ABSENT
  small = omega (arith, site.few_units)

  -- ---- tree neighbours and the arcs to them, in the rules' words

  child-exact : (v w : ℕ) → v < n → w < n → (eqb (at parent w) v ≡ true) ↔ Child parent d v w
  child-exact v w l k = (
    λ t. let e = eqb-true (at parent w) v t in (some e (dec_lt 0 (d w)), e),
    λ h. eq-eqb (at parent w) v h.1,
  )
    where
      some : at parent w ≡ v → Dec (0 < d w) → 0 < d w
      some e (yes h) = h
      some e (no h) = absurd (omega (arith, (rooted.absent_root w k).1 (omega arith), small))

  neighbor-exact : (v w : ℕ) → v < n → w < n →
      (tree_neighbor parent v w ≡ true) ↔ (Child parent d v w ⊎ Child parent d w v)
  neighbor-exact v w l k = or_exact (eqb (at parent w) v) (eqb (at parent v) w) (child-exact v w l k)
      (child-exact w v k l)

  -- the parent's parent is another
  no_turn : (v w : ℕ) → Child parent d w v → Child parent d v w → ⊥
  no_turn v w (h, e) (g, f) =
      let a : d v ≡ suc (d w) = deeper rooted v h ∙ ap (λ (x : ℕ). suc (d x)) e in
      let b : d w ≡ suc (d v) = deeper rooted w g ∙ ap (λ (x : ℕ). suc (d x)) f in
      omega arith

  arc-from : (b v w : ℕ) → Arc parent d b v w → arc_from parent v w ≡ b
  arc-from b v w (inl (c, s)) =
      let r = child-exact v w (inside rooted v c.0) (parent-unit rooted w v c) in
      cond_false (eqb (at parent w) v) (2 * w) (2 * v + 1) (refuted (eqb (at parent w) v) (λ t. no_turn v w c (r.0 t)))
      ∙ sym s
  arc-from b v w (inr (c, s)) = cond_true (eqb (at parent w) v) (2 * w) (2 * v + 1) (eq-eqb (at parent w) v c.1)
      ∙ sym s

  arc-to : (v w : ℕ) → v < n → w < n → tree_neighbor parent v w ≡ true → Arc parent d (arc_from parent v w) v w
  arc-to v w l k t = go ((neighbor-exact v w l k).0 t)
    where
      go : Child parent d v w ⊎ Child parent d w v → Arc parent d (arc_from parent v w) v w
      go (inl c) = inr (c, arc-from (2 * w) v w (inr (c, refl)))
      go (inr c) = inl (c, arc-from (2 * v + 1) v w (inl (c, refl)))

  -- an arc's two ends
  ends_of_lem : (a : ℕ) → 0 < d (arc_unit a) → (u : ℕ) × (v : ℕ) × Arc parent d a u v
  ends_of_lem a h = go (arc-cases a)
    where
      go : ((a ≡ 2 * arc_unit a) × (is_into a ≡ true)) ⊎ ((a ≡ 2 * arc_unit a + 1) × (is_into a ≡ false)) →
          (u : ℕ) × (v : ℕ) × Arc parent d a u v
      go (inl (e, t)) = (at parent (arc_unit a), arc_unit a, inr ((h, refl), e))
      go (inr (e, t)) = (arc_unit a, at parent (arc_unit a), inl ((h, refl), e))

  -- an arc and its ends exist
  record Real (a u v : ℕ) : Type 0 where
    tail : u < n
    head : v < n
    below : a < 2 * n
    stands : 0 < d (arc_unit a)
    joins : tree_neighbor parent v u ≡ true

  real : (a u v : ℕ) → Arc parent d a u v → Real a u v
  real a u v (inl (c, s)) =
      let l = inside rooted u c.0 in
      let k = parent-unit rooted v u c in
      let e : arc_unit a ≡ u = omega arith in
      record {
        tail = l;
        head = k;
        below = omega arith;
        stands = rw e c.0;
        joins = (neighbor-exact v u k l).1 (inl c);
      }
  real a u v (inr (c, s)) =
      let l = inside rooted v c.0 in
      let k = parent-unit rooted u v c in
      let e : arc_unit a ≡ v = omega arith in
      record {
        tail = k;
        head = l;
        below = omega arith;
        stands = rw e c.0;
        joins = (neighbor-exact v u l k).1 (inr c);
      }

  -- the rule: after the arc from u to v comes the arc from v to the neighbour after u
  follower-arc : (a u v : ℕ) → Arc parent d a u v → follower n parent a ≡ arc_after n parent u v
  unfolding follower
  follower-arc a u v (inl (c, s)) =
      let e : arc_unit (2 * u + 1) ≡ u = omega arith in
      let l = parent-unit rooted v u c in
      rw (s, out-odd u, e, c.1, ne_eqb v ABSENT (omega (arith, small))) refl
  follower-arc a u v (inr (c, s)) =
      let e : arc_unit (2 * v) ≡ v = omega arith in
      let l = parent-unit rooted u v c in
      rw (s, into-even v, e, c.1, ne_eqb u ABSENT (omega (arith, small))) refl

  -- ---- round v, from the arc a of u to the arc b of w, the neighbour after u

  root-key : (v w : ℕ) → d v ≡ 0 → key n parent d v w ≡ w
  root-key v w h = rw (pivot-root rooted v h) (turned-high n 0 w (omega arith))

  round : (a b v w k : ℕ) → Arc parent d b v w → k ≤ key n parent d v w
      → (rank_of n parent d a + d v ≡ 2 * pre n parent d v + 2 * earlier n parent d v k)
      × (forward_sum n parent d a ≡ pre n parent d v + earlier n parent d v k)
      → ((c : ℕ) → Child parent d v c → k ≤ key n parent d v c → key n parent d v w ≤ key n parent d v c) →
      Step n parent d a b
  round a b v w k t l r h =
      let g = earlier_gap rooted v k (key n parent d v w) l
      (λ (c : ℕ) (i : Child parent d v c) (j : k ≤ key n parent d v c)
      (o : key n parent d v c < key n parent d v w). absurd (omega (arith, h c i j))) in
      let q = rank-from rooted b v w t in
      record { rank = omega arith; forward = omega arith }

  child-neighbor : (v c : ℕ) → Child parent d v c → tree_neighbor parent v c ≡ true
  child-neighbor v c h = (neighbor-exact v c (parent-unit rooted v c h) (inside rooted c h.0)).1 (inl h)

  -- a root's least neighbour starts the tour
  start_true : (v w : ℕ) → Child parent d v w → d v ≡ 0 → ((x : ℕ) → x < n → tree_neighbor parent v x ≡ true → w ≤ x) →
      is_start n parent (2 * w) ≡ true
  unfolding is_start least_neighbor
  start_true v w c z f =
      let e : arc_unit (2 * w) ≡ w = omega arith in
      let l = inside rooted w c.0 in
      let nb : ℕ → Bool = tree_neighbor parent v in
      let g = passing-found n nb w small l (child-neighbor v w c) in
      let h = passing-least n nb w l (child-neighbor v w c) in
      let k = f (least_passing n nb) g.0 g.1 in
      rw (
        into-even w,
        e,
        c.1,
        (root-exact rooted v (parent-unit rooted v w c)).1 z,
        eq-eqb (least_passing n nb) w (omega arith),
      ) refl

  start-one : (a : ℕ) → 0 < d (arc_unit a) → is_start n parent a ≡ true →
      (rank_of n parent d a ≡ 1) × (forward_sum n parent d a ≡ 1)
  unfolding is_start least_neighbor
  start-one a h t = go (arc-cases a)
    where
      w : ℕ
      w = arc_unit a

      q : ℕ
      q = at parent w

      l : q < n
      l = parent-unit rooted q w (h, refl)

      flat : d q ≡ 0
      flat =
          (root-exact rooted q l).0
          (and_right (is_into a) (is_root parent q)
          (and_left (is_into a && is_root parent q) (eqb (least_passing n (tree_neighbor parent q)) w) t))

      first : (c : ℕ) → Child parent d q c → w ≤ c
      first c g =
          let e = eqb-true (least_passing n (tree_neighbor parent q)) w
          (and_right (is_into a && is_root parent q) (eqb (least_passing n (tree_neighbor parent q)) w) t) in
          omega (arith, passing-least n (tree_neighbor parent q) c (inside rooted c g.0) (child-neighbor q c g))

      none : earlier n parent d q (key n parent d q w) ≡ 0
      none =
          sym (earlier_gap rooted q 0 (key n parent d q w) (omega arith)
          (λ (c : ℕ) (g : Child parent d q c) (i : 0 ≤ key n parent d q c)
          (j : key n parent d q c < key n parent d q w).
          omega (arith, root-key q c flat, root-key q w flat, first c g)))
          ∙ earlier-none rooted q

      go : ((a ≡ 2 * arc_unit a) × (is_into a ≡ true)) ⊎ ((a ≡ 2 * arc_unit a + 1) × (is_into a ≡ false))
          → (rank_of n parent d a ≡ 1) × (forward_sum n parent d a ≡ 1)
      go (inl (e, i)) =
          let r = rank-from rooted a q w (inr ((h, refl), e)) in
          let z = pre-root rooted q flat in
          let o : ◌≡◌ {A = ℕ} (cond (is_into a) 1 0) 1 = cond_true (is_into a) 1 0 i in
          (omega (arith, none, flat), omega (arith, none))
      go (inr (e, i)) = absurd (not_both (is_into a) (start-into n parent a t) i)

  -- from the parent
  round-parent : (a b u v w : ℕ) → Child parent d u v → a ≡ 2 * v → w < n → tree_neighbor parent v w ≡ true →
      Arc parent d b v w
      → Next (tree_neighbor parent v) n u w → Step n parent d a b
  round-parent a b u v w c s l t x next =
      round a b v w 0 x (omega arith) start
      (λ (y : ℕ) (h : Child parent d v y) (j : 0 ≤ key n parent d v y).
      rw p (turned-first l t next y (inside rooted y h.0) (child-neighbor v y h)))
    where
      p : pivot parent d v ≡ suc u
      p = pivot-parent rooted v c.0 ∙ ap suc c.1

      start : (rank_of n parent d a + d v ≡ 2 * pre n parent d v + 2 * earlier n parent d v 0)
          × (forward_sum n parent d a ≡ pre n parent d v + earlier n parent d v 0)
      start =
          let e = rank-into rooted v c.0 in
          let f = forward-into rooted v c.0 in
          let z = earlier-none rooted v in
          rw s (omega arith, omega arith)

  -- from a child of a unit with a parent
  round-child : (a b u v w : ℕ) → 0 < d v → Child parent d v u → a ≡ 2 * u + 1 → w < n →
      tree_neighbor parent v w ≡ true → Arc parent d b v w
      → Next (tree_neighbor parent v) n u w → Step n parent d a b
  round-child a b u v w g c s l t x next =
      let q : ℕ = at parent v in
      let o : Child parent d q v = (g, refl) in
      let k = parent-unit rooted q v o in
      let i = inside rooted v g in
      let r = turned-next l t q k ((neighbor-exact v q i k).1 (inr o)) (λ (e : u ≡ q). no_turn v q o (child-at e))
      (inside rooted u c.0) next in
      round a b v w (suc (key n parent d v u)) x (rw (pivot-parent rooted v g) r.0) (rw s (rank-to rooted v u c))
      (λ (y : ℕ) (h : Child parent d v y) (j : suc (key n parent d v u) ≤ key n parent d v y).
      rw (pivot-parent rooted v g) (r.1 y (inside rooted y h.0) (child-neighbor v y h)
      (rw (pivot-parent rooted v g) at j)))
    where
      child-at : u ≡ at parent v → Child parent d v (at parent v)
      child-at e = subst (λ (y : ℕ). Child parent d v y) e c

  -- from a child of a root: on to the next, or all are done
  round-root : (a b u v w : ℕ) → d v ≡ 0 → Child parent d v u → a ≡ 2 * u + 1 → w < n → tree_neighbor parent v w ≡ true
      →
      Arc parent d b v w
      → Next (tree_neighbor parent v) n u w → (is_start n parent b ≡ true) ⊎ Step n parent d a b
  round-root a b u v w z c s l t x (greater o f) =
      let ku = root-key v u z in
      let kw = root-key v w z in
      inr (round a b v w (suc (key n parent d v u)) x (omega arith) (rw s (rank-to rooted v u c))
      (λ (y : ℕ) (h : Child parent d v y) (j : suc (key n parent d v u) ≤ key n parent d v y).
      let ky = root-key v y z in omega (arith, f y (inside rooted y h.0) (child-neighbor v y h) (omega arith))))
  round-root a b u v w z c s l t x (wrapped o f) = inl (go x)
    where
      go : Arc parent d b v w → is_start n parent b ≡ true
      go (inl ((h, e), i)) = absurd (omega arith)
      go (inr (h, i)) = rw i (start_true v w h z f)

  -- ---- followers

  follower-step : (a : ℕ) → a < 2 * n → is_arc parent a ≡ true
      → (follower n parent a < 2 * n) × (is_arc parent (follower n parent a) ≡ true)
      × ((is_start n parent (follower n parent a) ≡ true) ⊎ Step n parent d a (follower n parent a))
  follower-step a l t = go (ends_of_lem a ((arc-exact rooted a l).0 t))
    where
      by_case : (u v : ℕ) → Arc parent d a u v → (w b : ℕ) → w < n → tree_neighbor parent v w ≡ true
          → Arc parent d b v w
          → Next (tree_neighbor parent v) n u w → (is_start n parent b ≡ true) ⊎ Step n parent d a b
      by_case u v (inr (c, s)) w b k i x next = inr (round-parent a b u v w c s k i x next)
      by_case u v (inl (c, s)) w b k i x next = depth (ℕ_discrete (d v) 0)
        where
          depth : Dec (d v ≡ 0) → (is_start n parent b ≡ true) ⊎ Step n parent d a b
          depth (yes z) = round-root a b u v w z c s k i x next
          depth (no z) = inr (round-child a b u v w (omega arith) c s k i x next)

      go : (u : ℕ) × (v : ℕ) × Arc parent d a u v
          → (follower n parent a < 2 * n) × (is_arc parent (follower n parent a) ≡ true)
          × ((is_start n parent (follower n parent a) ≡ true) ⊎ Step n parent d a (follower n parent a))
      go (u, v, y) =
          let r = real a u v y in
          let k = after_next n parent v u small r.tail r.joins in
          let x = arc-to v (neighbor_after n parent v u) r.head k.0 k.1 in
          let q = real (arc_after n parent u v) v (neighbor_after n parent v u) x in
          rw (follower-arc a u v y) (
            q.below,
            (arc-exact rooted (arc_after n parent u v) q.below).1 q.stands,
            by_case u v y (neighbor_after n parent v u) (arc_after n parent u v) k.0 k.1 x k.2,
          )

  -- ---- predecessors

  neighbor-flip : (v w : ℕ) → tree_neighbor parent v w ≡ true → tree_neighbor parent w v ≡ true
  neighbor-flip v w t = go (or_cases (eqb (at parent w) v) (eqb (at parent v) w) t)
    where
      go : (eqb (at parent w) v ≡ true) ⊎ (eqb (at parent v) w ≡ true) → tree_neighbor parent w v ≡ true
      go (inl e) = or_right (eqb (at parent v) w) (eqb (at parent w) v) e
      go (inr e) = or_left (eqb (at parent v) w) (eqb (at parent w) v) e

  -- every arc follows one
  pub follows : (b : ℕ) → b < 2 * n → is_arc parent b ≡ true → (a : ℕ) × (a < 2 * n) × (follower n parent a ≡ b)
  follows b l t = go (ends_of_lem b ((arc-exact rooted b l).0 t))
    where
      go : (v : ℕ) × (w : ℕ) × Arc parent d b v w → (a : ℕ) × (a < 2 * n) × (follower n parent a ≡ b)
      go (v, w, x) =
          let r = real b v w x in
          let tw = neighbor-flip w v r.joins in
          let (u, lu, tu, next) = next-onto (tree_neighbor parent v) n w r.head tw in
          let y = arc-to u v lu r.tail (neighbor-flip v u tu) in
          let a = arc_from parent u v in
          let e : arc_after n parent u v ≡ b =
          ap (arc_from parent v) (after_is n parent v u w small lu tu r.head tw next) ∙ arc-from b v w x in
          (a, (real a u v y).below, follower-arc a u v y ∙ e)

  -- and comes one after it, or starts a tour
  comes-after : (a b : ℕ) → a < 2 * n → is_start n parent a ≡ false → b < 2 * n → follower n parent b ≡ a →
      (is_arc parent b ≡ true) × Step n parent d b a
  comes-after a b l s k e = go (either (is_arc parent b))
    where
      steps : (is_start n parent (follower n parent b) ≡ true) ⊎ Step n parent d b (follower n parent b) →
          Step n parent d b a
      steps (inl t) = absurd (not_both (is_start n parent a) (rw e at t) s)
      steps (inr t) = rw e at t

      go : (is_arc parent b ≡ true) ⊎ (is_arc parent b ≡ false) → (is_arc parent b ≡ true) × Step n parent d b a
      go (inl t) = (t, steps (follower-step b k t).2)
      go (inr t) = absurd (omega (arith, no_follower n parent b t, site.few_units))

  pub preceded : (next : List ℕ) → ((a : ℕ) → a < 2 * n → at next a ≡ follower n parent a) → (a : ℕ) → a < 2 * n
      → Preceded n parent d a (predecessor n parent next a)
  unfolding predecessor
  preceded next f a l = go (either (is_arc parent a)) (either (is_start n parent a))
    where
      gives : ℕ → Bool
      gives b = eqb (at next b) a

      found : ℕ
      found = least_passing (2 * n) (λ (b : ℕ). eqb (at next b) a)

      flat : is_arc parent a ≡ false → Dec (0 < d (arc_unit a)) → d (arc_unit a) ≡ 0
      flat e (yes h) = absurd (not_both (is_arc parent a) ((arc-exact rooted a l).1 h) e)
      flat e (no h) = omega arith

      go : (is_arc parent a ≡ true) ⊎ (is_arc parent a ≡ false) →
          (is_start n parent a ≡ true) ⊎ (is_start n parent a ≡ false)
          → Preceded n parent d a (predecessor n parent next a)
      go (inr t) s = let r = rank-none rooted a (flat t (dec_lt 0 (d (arc_unit a)))) in rw t (none t refl r.0 r.1)
      go (inl t) (inl s) = let r = start-one a ((arc-exact rooted a l).0 t) s in rw (t, s) (start t s refl r.0 r.1)
      go (inl t) (inr s) =
          let (b, k, e) = follows a l t in
          let q = passing-found (2 * n) gives b (omega (arith, site.few_units)) k (eq-eqb (at next b) a (f b k ∙ e)) in
          let r = comes-after a found l s q.0 (sym (f found q.0) ∙ eqb-true (at next found) a q.1) in
          rw (t, s) (after t s q.0 r.0 r.1)

  -- at most 2n − 2 arcs
  pub arcs_le : count (2 * n) (is_arc parent) ≤ 2 * n - 2
  arcs_le =
      let a = count_less (2 * n) (is_arc parent) other (2 * r + 1) (omega (arith, below))
      (no_arc (2 * r + 1) (omega arith)) (other_true (2 * r + 1) (omega arith))
      (λ (i : ℕ) (l : i < 2 * n) (t : is_arc parent i ≡ true).
      other_true i (λ (e : i ≡ 2 * r). not_both (is_arc parent i) t (no_arc i (omega arith)))) in
      omega (arith, count-fewer (2 * n) other (2 * r) (omega (arith, below)) (rw (eq-eqb (2 * r) (2 * r) refl) refl))
    where
      r : ℕ
      r = root_of n color 0

      below : r < n
      below = rw (lt-ltb 0 n site.some_unit) (rooted.color_below 0 site.some_unit)

      no_arc : (a : ℕ) → arc_unit a ≡ r → is_arc parent a ≡ false
      no_arc a e = rw (e, (root-exact rooted r below).1 (root_anc rooted.forest 0).1) refl

      other : ℕ → Bool
      other i = not (eqb i (2 * r))

      other_true : (i : ℕ) → (i ≡ 2 * r → ⊥) → other i ≡ true
      other_true i h = rw (ne_eqb i (2 * r) h) refl
