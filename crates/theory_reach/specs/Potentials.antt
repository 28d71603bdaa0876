-- The Euler tour by potentials, never as a list: the rank of an arc in its tour and its forward sum, as numbers that
-- the forest gives. Round a unit both are sums over the children passed so far.
use Rattle.std.specs.Prelude.{◌≡◌, refl, true, false, cond, ◌↔◌, ◌⊎◌, List, ℕ, suc, ◌+◌, ◌*◌, ◌-◌, ◌/◌, ◌%◌, ◌≤◌, ◌<◌}
use Rattle.std.specs.Prelude.{max, ltb}
use Rattle.std.proofs.Common.{ap, ◌∙◌, inl, inr}
use Rattle.std.proofs.Math.Path.{subst⁻¹}
use Rattle.std.proofs.Math.Decide.{ℕ_discrete, dec_lt}
use native.Mathlib.Omega.{arith}
use borrow.Author.Tests.{eq-eqb, ne_eqb, lt-ltb, le-ltb}
use Rattle.spec_rules.specs.Tour.{arc_unit, is_into, is_arc}
use Rattle.theory_graph.specs.Ancestors.{root_anc}
use Rattle.theory_reach.specs.Rooted.{Rooted, root_of, nonroot_exact}
use Rattle.theory_reach.specs.SizeAndOrder.{nd, pre, earlier, key, Child, inside, deeper, nd_le, nd-positive}
use Rattle.theory_reach.specs.SizeAndOrder.{pre-root, pre-child, pre-deep, earlier-child, earlier-parent}
use Rattle.theory_reach.specs.SizeAndOrder.{anc_within}

-- where an arc stands in its tour, from 1; what is no arc has rank 1 and forward sum 0
unfoldable pub rank_of : ℕ → List ℕ → (ℕ → ℕ) → ℕ → ℕ
rank_of n parent d a =
    cond (ltb 0 (d (arc_unit a)))
    (2 * pre n parent d (arc_unit a) - d (arc_unit a) + cond (is_into a) 0 (2 * nd n parent d (arc_unit a) - 1)) 1

-- how many arcs of its tour up to it, itself included, lead into a unit
unfoldable pub forward_sum : ℕ → List ℕ → (ℕ → ℕ) → ℕ → ℕ
forward_sum n parent d a = cond (ltb 0 (d (arc_unit a)))
    (pre n parent d (arc_unit a) + cond (is_into a) 0 (nd n parent d (arc_unit a) - 1)) 0

-- a is the arc from u to v
abbrev pub Arc : List ℕ → (ℕ → ℕ) → ℕ → ℕ → ℕ → Type 0
Arc parent d a u v = (Child parent d v u × (a ≡ 2 * u + 1)) ⊎ (Child parent d u v × (a ≡ 2 * v))

-- b comes one after a in its tour
pub record Step (n : ℕ) (parent : List ℕ) (d : ℕ → ℕ) (a b : ℕ) : Type 0 where
  pub rank : rank_of n parent d b ≡ rank_of n parent d a + 1
  pub forward : forward_sum n parent d b ≡ forward_sum n parent d a + cond (is_into b) 1 0

pub into-even : (v : ℕ) → is_into (2 * v) ≡ true
into-even v = eq-eqb ((2 * v) % 2) 0 (omega arith)

pub out-odd : (v : ℕ) → is_into (2 * v + 1) ≡ false
out-odd v = ne_eqb ((2 * v + 1) % 2) 0 (omega arith)

-- an arc is into its unit or out of it
pub arc-cases : (a : ℕ) → ((a ≡ 2 * arc_unit a) × (is_into a ≡ true)) ⊎ ((a ≡ 2 * arc_unit a + 1) × (is_into a ≡ false))
arc-cases a = go (ℕ_discrete (a % 2) 0)
  where
    go : Dec (a % 2 ≡ 0) → ((a ≡ 2 * arc_unit a) × (is_into a ≡ true))
        ⊎ ((a ≡ 2 * arc_unit a + 1) × (is_into a ≡ false))
    go (yes e) = inl (omega arith, eq-eqb (a % 2) 0 e)
    go (no e) = inr (omega arith, ne_eqb (a % 2) 0 e)

module _ {n m : ℕ} {ends color parent : List ℕ} {d : ℕ → ℕ} (rooted : Rooted n m ends color parent d) where
  pub arc-exact : (a : ℕ) → a < 2 * n → (is_arc parent a ≡ true) ↔ (0 < d (arc_unit a))
  arc-exact a l = nonroot_exact rooted (arc_unit a) (omega arith)

  -- ---- the potentials of the two arcs of a unit

  pub rank-into : (v : ℕ) → 0 < d v → rank_of n parent d (2 * v) + d v ≡ 2 * pre n parent d v
  unfolding rank_of
  rank-into v h =
      let u : arc_unit (2 * v) ≡ v = omega arith in
      rw (u, into-even v, lt-ltb 0 (d v) h) (omega (arith, pre-deep rooted v))

  pub rank-out : (v : ℕ) → 0 < d v → rank_of n parent d (2 * v + 1) + d v + 1
      ≡ 2 * pre n parent d v + 2 * nd n parent d v
  unfolding rank_of
  rank-out v h =
      let u : arc_unit (2 * v + 1) ≡ v = omega arith in
      rw (u, out-odd v, lt-ltb 0 (d v) h) (omega (arith, pre-deep rooted v, nd-positive rooted v (inside rooted v h)))

  pub forward-into : (v : ℕ) → 0 < d v → forward_sum n parent d (2 * v) ≡ pre n parent d v
  unfolding forward_sum
  forward-into v h =
      let u : arc_unit (2 * v) ≡ v = omega arith in
      rw (u, into-even v, lt-ltb 0 (d v) h) (omega arith)

  forward-out : (v : ℕ) → 0 < d v → forward_sum n parent d (2 * v + 1) + 1 ≡ pre n parent d v + nd n parent d v
  unfolding forward_sum
  forward-out v h =
      let u : arc_unit (2 * v + 1) ≡ v = omega arith in
      rw (u, out-odd v, lt-ltb 0 (d v) h) (omega (arith, nd-positive rooted v (inside rooted v h)))

  pub rank-none : (a : ℕ) → d (arc_unit a) ≡ 0 → (rank_of n parent d a ≡ 1) × (forward_sum n parent d a ≡ 0)
  unfolding rank_of forward_sum
  rank-none a h = rw (le-ltb 0 (d (arc_unit a)) (omega arith)) (refl, refl)

  -- ---- bounds

  pub pre-size : (v : ℕ) → pre n parent d v + nd n parent d v ≤ nd n parent d (root_of n color v)
  pre-size v =
      let r = root_anc rooted.forest v in
      let w = anc_within rooted r.0 in
      omega (arith, pre-root rooted (root_of n color v) r.1)

  pre-fits : (v : ℕ) → pre n parent d v + nd n parent d v ≤ n
  pre-fits v = omega (arith, pre-size v, nd_le rooted (root_of n color v))

  pub rank_less : (v : ℕ) → 0 < d v → rank_of n parent d (2 * v) < rank_of n parent d (2 * v + 1)
  rank_less v h = omega (arith, rank-into v h, rank-out v h, nd-positive rooted v (inside rooted v h))

  pub rank-size : (v : ℕ) → 0 < d v → (rank_of n parent d (2 * v + 1) + 1 - rank_of n parent d (2 * v)) / 2
      ≡ nd n parent d v
  rank-size v h = omega (arith, rank-into v h, rank-out v h, nd-positive rooted v (inside rooted v h))

  -- a law of the two arcs of each unit is a law of all arcs
  by_arcs : (P : ℕ → Type 0) → ((v : ℕ) → 0 < d v → P (2 * v) × P (2 * v + 1)) → (a : ℕ) → 0 < d (arc_unit a) → P a
  by_arcs P f a h = go (arc-cases a)
    where
      go : ((a ≡ 2 * arc_unit a) × (is_into a ≡ true)) ⊎ ((a ≡ 2 * arc_unit a + 1) × (is_into a ≡ false)) → P a
      go (inl (e, t)) = subst⁻¹ P e (f (arc_unit a) h).0
      go (inr (e, t)) = subst⁻¹ P e (f (arc_unit a) h).1

  bounds : (a : ℕ) → 0 < d (arc_unit a) →
      (1 ≤ rank_of n parent d a) × (rank_of n parent d a + 2 ≤ 2 * n) × (forward_sum n parent d a ≤ n)
  bounds =
      by_arcs (λ (a : ℕ). (1 ≤ rank_of n parent d a) × (rank_of n parent d a + 2 ≤ 2 * n)
      × (forward_sum n parent d a ≤ n))
      (λ (v : ℕ) (h : 0 < d v).
      let k = nd-positive rooted v (inside rooted v h) in
      let a = rank-into v h in
      let b = rank-out v h in
      let c = forward-into v h in
      let e = forward-out v h in
      let f = pre-fits v in
      let g = pre-deep rooted v in
      ((omega arith, omega arith, omega arith), (omega arith, omega arith, omega arith)))

  rank_le : (a : ℕ) → 0 < d (arc_unit a) → rank_of n parent d a ≤ 2 * n - 2
  rank_le a h = let b = (bounds a h).1 in omega arith

  -- of every place below 2n, arc or not
  pub rank_le-all : (a : ℕ) → rank_of n parent d a ≤ max 1 (2 * n - 2)
  rank_le-all a = go (dec_lt 0 (d (arc_unit a)))
    where
      go : Dec (0 < d (arc_unit a)) → rank_of n parent d a ≤ max 1 (2 * n - 2)
      go (yes h) = let b = rank_le a h in omega arith
      go (no h) = let z = (rank-none a (omega arith)).0 in omega arith

  pub rank-positive : (a : ℕ) → 1 ≤ rank_of n parent d a
  rank-positive a = go (dec_lt 0 (d (arc_unit a)))
    where
      go : Dec (0 < d (arc_unit a)) → 1 ≤ rank_of n parent d a
      go (yes h) = (bounds a h).0
      go (no h) = let z = (rank-none a (omega arith)).0 in omega arith

  pub forward_le : (a : ℕ) → forward_sum n parent d a ≤ n
  forward_le a = go (dec_lt 0 (d (arc_unit a)))
    where
      go : Dec (0 < d (arc_unit a)) → forward_sum n parent d a ≤ n
      go (yes h) = (bounds a h).2
      go (no h) = let z = (rank-none a (omega arith)).1 in omega arith

  -- ---- round a unit v

  -- out of v to w: as many as stand under the children before w
  pub rank-from : (b v w : ℕ) → Arc parent d b v w
      → (rank_of n parent d b + d v ≡ 2 * pre n parent d v + 2 * earlier n parent d v (key n parent d v w) + 1)
      × (forward_sum n parent d b ≡ pre n parent d v + earlier n parent d v (key n parent d v w) + cond (is_into b) 1 0)
  rank-from b v w (inl ((h, e), s)) =
      let a = rank-out v h in
      let c = forward-out v h in
      let k = earlier-parent rooted v h in
      rw (s, out-odd v, ← e) (omega arith, omega arith)
  rank-from b v w (inr ((h, e), s)) =
      let a = rank-into w h in
      let c = forward-into w h in
      let k = pre-child rooted v w (h, e) in
      let g : d w ≡ suc (d v) = deeper rooted w h ∙ ap (λ (x : ℕ). suc (d x)) e in
      rw (s, into-even w) (omega arith, omega arith)

  -- into v from its child u: as many as stand under the children up to u
  pub rank-to : (v u : ℕ) → Child parent d v u
      → (rank_of n parent d (2 * u + 1) + d v
      ≡ 2 * pre n parent d v + 2 * earlier n parent d v (suc (key n parent d v u)))
      × (forward_sum n parent d (2 * u + 1) ≡ pre n parent d v + earlier n parent d v (suc (key n parent d v u)))
  rank-to v u (h, e) =
      let a = rank-out u h in
      let c = forward-out u h in
      let k = pre-child rooted v u (h, e) in
      let i = earlier-child rooted v u (h, e) in
      let g : d u ≡ suc (d v) = deeper rooted u h ∙ ap (λ (x : ℕ). suc (d x)) e in
      (omega arith, omega arith)
