-- Stages 5 and 6 from the potentials: forward arcs, descendants and places; and what places are: a numbering of the
-- units from 0 in which the descendants of each unit are an interval.
use Rattle.std.specs.Prelude.{◌≡◌, refl, true, false, ◌↔◌, ◌⊎◌, List, ℕ, ◌+◌, ◌*◌, ◌-◌, ◌≤◌, ◌<◌, ltb}
use Rattle.std.proofs.Math.Path.{sym}
use Rattle.std.proofs.Common.{ap, ◌∙◌, inl, inr}
use Rattle.std.proofs.Math.Decide.{ℕ_discrete, dec_lt}
use native.Mathlib.Omega.{arith}
use Rattle.std.proofs.Math.Dec.{eqb}
use borrow.Author.Tests.{eqb-true, eq-eqb, ne_eqb, lt-ltb, le-ltb, ltb-true}
use Rattle.base_lists.specs.Folds.{count}
use Rattle.base_lists.specs.Counts.{count_cong, count-apart, count_true}
use Rattle.base_lists.proofs.Onto.{onto}
use Rattle.base_lists.specs.Tests.{either, cond_true, not_both, same_test}
use Rattle.spec_rules.specs.Basics.{at, is_root}
use Rattle.spec_rules.specs.Tour.{arc_unit, is_into, is_arc}
use Rattle.spec_rules.specs.Order.{reverse_arc, descendants, place_of}
use Rattle.table.specs.Table.{max_units}
use Rattle.theory_graph.specs.Forest.{Anc}
use Rattle.theory_graph.specs.Ancestors.{anc?, anc_depth, anc_level, root-along, root_anc, top_anc}
use Rattle.theory_reach.specs.Rooted.{Rooted, root_of, root-exact}
use Rattle.theory_reach.specs.SizeAndOrder.{nd, pre, is_above, above-exact, nd-positive, pre-root, anc_within}
use Rattle.theory_reach.specs.SizeAndOrder.{pre-apart}
use Rattle.theory_reach.specs.Potentials.{rank_of, forward_sum, arc-cases, arc-exact, forward-into, pre-size}
use Rattle.theory_reach.specs.Potentials.{rank_less, rank-size}

-- how many units have a smaller color, and how many this one
abbrev offset : ℕ → List ℕ → ℕ → ℕ
offset n color c = count n (λ (w : ℕ). ltb (at color w) c)

abbrev size : ℕ → List ℕ → ℕ → ℕ
size n color c = count n (λ (w : ℕ). eqb (at color w) c)

-- the preorder number of v, components in the order of their colors
unfoldable pub place : ℕ → List ℕ → List ℕ → (ℕ → ℕ) → ℕ → ℕ
place n color parent d v = pre n parent d v + offset n color (at color v)

offset-size : (n : ℕ) (color : List ℕ) (c : ℕ) → offset n color c + size n color c ≤ n
offset-size n color c =
    omega (
      arith,
      count_true n,
      count-apart n (λ (w : ℕ). ltb (at color w) c) (λ (w : ℕ). eqb (at color w) c) (λ (w : ℕ). true)
          (λ (w : ℕ) (l : w < n) (t : ltb (at color w) c ≡ true). let k = ltb-true (at color w) c t in (
            refl,
            ne_eqb (at color w) c (omega arith),
          ))
          (λ (w : ℕ) (l : w < n) (t : eqb (at color w) c ≡ true). refl),
    )

offset-next : (n : ℕ) (color : List ℕ) (c e : ℕ) → c < e → offset n color c + size n color c ≤ offset n color e
offset-next n color c e h =
    count-apart n (λ (w : ℕ). ltb (at color w) c) (λ (w : ℕ). eqb (at color w) c) (λ (w : ℕ). ltb (at color w) e)
    (λ (w : ℕ) (l : w < n) (t : ltb (at color w) c ≡ true).
    let k = ltb-true (at color w) c t in (lt-ltb (at color w) e (omega arith), ne_eqb (at color w) c (omega arith)))
    (λ (w : ℕ) (l : w < n) (t : eqb (at color w) c ≡ true). let k = eqb-true (at color w) c t in lt-ltb (at color w) e
    (omega arith))

module _ {n m : ℕ} {ends color parent : List ℕ} {d : ℕ → ℕ} (rooted : Rooted n m ends color parent d) where
  -- ---- components

  root_color : (v : ℕ) → v < n → root_of n color v ≡ at color v
  root_color v l = cond_true (ltb v n) (at color v) v (lt-ltb v n l)

  -- the descendants of a root are its component
  root-size : (v : ℕ) → v < n → d v ≡ 0 → size n color (at color v) ≡ nd n parent d v
  unfolding nd
  root-size v l z =
      count_cong n (λ (w : ℕ). eqb (at color w) (at color v)) (is_above parent d v)
      (λ (w : ℕ) (k : w < n).
      same_test (eqb (at color w) (at color v)) (is_above parent d v w)
      (λ t. (above-exact rooted v w).1 (top_anc rooted.forest (root_color v l
      ∙ sym (eqb-true (at color w) (at color v) t) ∙ sym (root_color w k)) z))
      (λ t.
      eq-eqb (at color w) (at color v)
      (sym (root_color w k) ∙ sym (root-along rooted.forest ((above-exact rooted v w).0 t)) ∙ root_color v l)))

  -- a unit's interval within its component
  pre_color : (v : ℕ) → v < n → pre n parent d v + nd n parent d v ≤ size n color (at color v)
  pre_color v l =
      let e = root_color v l in
      let k = rooted.color_below v l in
      let z : d (at color v) ≡ 0 = rw e at (root_anc rooted.forest v).1 in
      let c : at color (at color v) ≡ at color v =
      sym (root_color (at color v) k) ∙ rooted.forest.top (at color v) z in
      let s : size n color (at color v) ≡ nd n parent d (at color v) = rw c at (root-size (at color v) k z) in
      let b : pre n parent d v + nd n parent d v ≤ nd n parent d (at color v) = rw e at (pre-size rooted v) in
      omega arith

  -- ---- places

  pub place-fits : (v : ℕ) → v < n → place n color parent d v + nd n parent d v ≤ n
  unfolding place
  place-fits v l = omega (arith, pre_color v l, offset-size n color (at color v))

  pub place-below : (v : ℕ) → v < n → place n color parent d v < n
  place-below v l = omega (arith, place-fits v l, nd-positive rooted v l)

  -- components one after another
  place-next : (v w : ℕ) → v < n → at color v < at color w →
      place n color parent d v + nd n parent d v ≤ place n color parent d w
  unfolding place
  place-next v w l h = omega (arith, pre_color v l, offset-next n color (at color v) (at color w) h)

  -- the descendants of v are the units whose places are from v's on, as many as they are
  pub interval : (v w : ℕ) → v < n → w < n
      → Anc (at parent) d v w ↔ ((place n color parent d v ≤ place n color parent d w)
      × (place n color parent d w < place n color parent d v + nd n parent d v))
  unfolding place
  interval v w l k = (to, from)
    where
      Within : Type 0
      Within = (place n color parent d v ≤ place n color parent d w)
          × (place n color parent d w < place n color parent d v + nd n parent d v)

      to : Anc (at parent) d v w → Within
      to a =
          let r = anc_within rooted a in
          let e : at color v ≡ at color w = sym (root_color v l) ∙ root-along rooted.forest a ∙ root_color w k in
          let z = nd-positive rooted w k in
          rw e (omega arith, omega arith)

      other : at color v ≡ at color w → Within →
          (pre n parent d w < pre n parent d v) ⊎ (pre n parent d v + nd n parent d v ≤ pre n parent d w) → ⊥
      other e b (inl h) = let i = rw e at b.0 in omega arith
      other e b (inr h) = let i = rw e at b.1 in omega arith

      same : at color v ≡ at color w → Within → Dec (Anc (at parent) d v w) → Anc (at parent) d v w
      same e b (yes a) = a
      same e b (no a) = absurd (other e b (pre-apart rooted v w (root_color v l ∙ e ∙ sym (root_color w k)) a))

      colors : Within → Dec (at color v ≡ at color w) → Dec (at color v < at color w) → Anc (at parent) d v w
      colors b (yes e) q = same e b (anc? rooted.forest v w)
      colors b (no e) (yes q) = absurd (omega (arith, place-next v w l q, b.1))
      colors b (no e) (no q) = absurd (omega (arith, place-next w v k (omega arith), nd-positive rooted w k, b.0))

      from : Within → Anc (at parent) d v w
      from b = colors b (ℕ_discrete (at color v) (at color w)) (dec_lt (at color v) (at color w))

  pub place-one : (v w : ℕ) → v < n → w < n → place n color parent d v ≡ place n color parent d w → v ≡ w
  place-one v w l k e =
      let i = nd-positive rooted v l in
      let j = nd-positive rooted w k in
      let a = (interval v w l k).1 (omega arith, omega arith) in
      let b = (interval w v k l).1 (omega arith, omega arith) in
      anc_level rooted.forest a (anc_depth rooted.forest b)

  pub place-onto : (q : ℕ) → q < n → (v : ℕ) × (v < n) × (place n color parent d v ≡ q)
  place-onto q l = onto (place n color parent d) n place-below place-one q l

  -- ---- the rules of stages 5 and 6, on tables that hold the potentials

  -- a table holds the ranks of the arcs
  abbrev Held : List ℕ → Type 0
  Held rank = (a : ℕ) → a < 2 * n → is_arc parent a ≡ true → at rank a ≡ rank_of n parent d a

  -- forward arcs are those into a unit
  pub forward-exact : (rank : List ℕ) → Held rank → (a : ℕ) → a < 2 * n → is_arc parent a ≡ true
      → ltb (at rank a) (at rank (reverse_arc a)) ≡ is_into a
  forward-exact rank f a l t = go (arc-cases a)
    where
      v : ℕ
      v = arc_unit a

      h : 0 < d v
      h = (arc-exact rooted a l).0 t

      held : (b x : ℕ) → b < 2 * n → arc_unit b ≡ v → b ≡ x → at rank b ≡ rank_of n parent d x
      held b x k u e = f b k ((arc-exact rooted b k).1 (rw u h)) ∙ ap (rank_of n parent d) e

      go : ((a ≡ 2 * v) × (is_into a ≡ true)) ⊎ ((a ≡ 2 * v + 1) × (is_into a ≡ false)) →
          ltb (at rank a) (at rank (reverse_arc a)) ≡ is_into a
      go (inl (e, i)) =
          let x = held a (2 * v) l refl e in
          let y = held (a + 1) (2 * v + 1) (omega arith) (omega arith) (omega arith) in
          rw i (lt-ltb (at rank a) (at rank (a + 1)) (omega (arith, rank_less rooted v h)))
      go (inr (e, i)) =
          let x = held a (2 * v + 1) l refl e in
          let y = held (a - 1) (2 * v) (omega arith) (omega arith) (omega arith) in
          rw i (le-ltb (at rank a) (at rank (a - 1)) (omega (arith, rank_less rooted v h)))

  pub descendants-nd : (rank : List ℕ) → Held rank → (v : ℕ) → v < n
      → descendants n color parent rank v ≡ nd n parent d v
  unfolding descendants
  descendants-nd rank f v l = go (either (is_root parent v)) (ℕ_discrete (d v) 0)
    where
      go : (is_root parent v ≡ true) ⊎ (is_root parent v ≡ false) → Dec (d v ≡ 0) →
          descendants n color parent rank v ≡ nd n parent d v
      go (inl t) z = rw t (root-size v l ((root-exact rooted v l).0 t))
      go (inr t) (yes z) = absurd (not_both (is_root parent v) ((root-exact rooted v l).1 z) t)
      go (inr t) (no z) =
          let h : 0 < d v = omega arith in
          let even : arc_unit (2 * v) ≡ v = omega arith in
          let odd : arc_unit (2 * v + 1) ≡ v = omega arith in
          let x = f (2 * v) (omega arith) ((arc-exact rooted (2 * v) (omega arith)).1 (rw even h)) in
          let y = f (2 * v + 1) (omega arith) ((arc-exact rooted (2 * v + 1) (omega arith)).1 (rw odd h)) in
          rw (t, x, y) (rank-size rooted v h)

  pub place-exact : n ≤ max_units → (sum : List ℕ) → ((a : ℕ) → a < 2 * n → at sum a ≡ forward_sum n parent d a) →
      (v : ℕ) → v < n
      → place_of n color parent sum v ≡ place n color parent d v
  unfolding place_of place
  place-exact small sum f v l = go (either (is_root parent v)) (ℕ_discrete (d v) 0)
    where
      fits : pre n parent d v + offset n color (at color v) < n
      fits = place-below v l

      go : (is_root parent v ≡ true) ⊎ (is_root parent v ≡ false) → Dec (d v ≡ 0) →
          place_of n color parent sum v ≡ place n color parent d v
      go (inl t) z = let p = pre-root rooted v ((root-exact rooted v l).0 t) in rw t (omega (arith, fits))
      go (inr t) (yes z) = absurd (not_both (is_root parent v) ((root-exact rooted v l).1 z) t)
      go (inr t) (no z) = let p = forward-into rooted v (omega arith) in rw (
        t,
        f (2 * v) (omega arith),
      ) (omega (arith, fits))
