-- T-05: a planner's table of parents that passes 18 is a spanning forest rooted at the colour units, which is all that
-- stages 3 to 10 assume of stages 1 and 2.
use Rattle.std.specs.Prelude.{◌≡◌, Bool, ◌⊎◌, ◌↔◌, ◌≢◌, List, [], ◌∷◌, leb, ltb, length}
use Rattle.std.proofs.Math.Path.{refl, sym, ap}
use Rattle.std.proofs.Common.{subst, ◌∙◌, inl, inr}
use Rattle.std.proofs.Math.Bool.{true, false, cond}
use Prim.Native.Nat.{ℕ, zero, suc, ◌+◌, ◌≤◌, ◌<◌}
use Rattle.std.proofs.Math.Decide.{ℕ_discrete, dec_lt, dec_le}
use native.Mathlib.Omega.{arith}
use Rattle.std.proofs.Math.Dec.{eqb}
use borrow.Author.Tests.{eqb-true, eqb-false, eq-eqb, ne_eqb, lt-ltb, le-ltb}
use Rattle.base_lists.specs.Folds.{some}
use Rattle.base_lists.specs.Some.{some-exact}
use Rattle.base_lists.specs.Tables.{over, get_d_over}
use Rattle.base_lists.specs.Tests.{either, refuted, not_both, cond_true, cond_false}
use Rattle.table.specs.Table.{end_a, end_b}
use Rattle.spec_rules.specs.Basics.{ABSENT, at}
use Rattle.spec_rules.specs.BoundLaws.{Names}
use Rattle.spec_rules.specs.Planned.{onward, steps_to, planned_parents, planned_dists, top_of, parent_link, plan_unfit}
use Rattle.spec_rules.specs.PlannedLaws.{ParentLink, StrayParent, PlanUnfit, unfit_exact}
use Rattle.theory_graph.specs.Rings.{Walk, last, Connected}
use Rattle.theory_graph.specs.Routes.{connected_refl, connected-link, connected_trans}
use Rattle.theory_reach.specs.Site.{Site, Link, link-below}
use Rattle.theory_reach.specs.Rooted.{Rooted, root_of}
use Rattle.theory_reach.specs.Colors.{Colored}

-- what 18's test finds in a table that passes: every chain ends at a unit not above its own; a parent is a neighbour;
-- the ends of a link have one top
pub record Fits (n m : ℕ) (ends plan : List ℕ) : Type 0 where
  pub least : (v : ℕ) → v < n → top_of plan n v ≤ v
  pub linked : (v : ℕ) → v < n → at plan v ≢ ABSENT → Link m ends v (at plan v)
  pub together : (u v : ℕ) → Link m ends u v → top_of plan n u ≡ top_of plan n v

-- ---- chains of parents

pub depth_to : List ℕ → ℕ → ℕ → ℕ
depth_to plan zero v = 0
depth_to plan (suc k) v = let later = suc (depth_to plan k (at plan v)) in cond (eqb (at plan v) ABSENT) 0 later

-- the depth of a unit; a number that is no unit has 0
pub depth_in : ℕ → List ℕ → ℕ → ℕ
depth_in n plan v = cond (ltb v n) (depth_to plan n v) 0

module _ (plan : List ℕ) where
  -- a chain that ends within k units does so within one more, at the same top and depth
  pub top-more : (k v : ℕ) → top_of plan k v ≢ ABSENT → top_of plan (suc k) v ≡ top_of plan k v
  top-more zero v h = absurd (h refl)
  top-more (suc k) v h = go (eqb (at plan v) ABSENT) (top-more k (at plan v)) h
    where
      go : (b : Bool) → (top_of plan k (at plan v) ≢ ABSENT → top_of plan (suc k) (at plan v)
          ≡ top_of plan k (at plan v))
          → cond b v (top_of plan k (at plan v)) ≢ ABSENT →
          cond b v (top_of plan (suc k) (at plan v)) ≡ cond b v (top_of plan k (at plan v))
      go true ih h = refl
      go false ih h = ih h

  depth-more : (k v : ℕ) → top_of plan k v ≢ ABSENT → depth_to plan (suc k) v ≡ depth_to plan k v
  unfolding depth_to
  depth-more zero v h = absurd (h refl)
  depth-more (suc k) v h = go (eqb (at plan v) ABSENT) (depth-more k (at plan v)) h
    where
      go : (b : Bool) → (top_of plan k (at plan v) ≢ ABSENT →
          depth_to plan (suc k) (at plan v) ≡ depth_to plan k (at plan v))
          → cond b v (top_of plan k (at plan v)) ≢ ABSENT →
          cond b 0 (suc (depth_to plan (suc k) (at plan v))) ≡ cond b 0 (suc (depth_to plan k (at plan v)))
      go true ih h = refl
      go false ih h = ap suc (ih h)

  depth-few : (k v : ℕ) → depth_to plan k v ≤ k
  unfolding depth_to
  depth-few zero v = omega arith
  depth-few (suc k) v = go (eqb (at plan v) ABSENT) (depth-few k (at plan v))
    where
      go : (b : Bool) → depth_to plan k (at plan v) ≤ k → cond b 0 (suc (depth_to plan k (at plan v))) ≤ suc k
      go true h = omega arith
      go false h = omega arith

  -- the top has no parent
  pub top-orphan : (k v : ℕ) → top_of plan k v ≢ ABSENT → at plan (top_of plan k v) ≡ ABSENT
  top-orphan zero v h = absurd (h refl)
  top-orphan (suc k) v h = go (eqb (at plan v) ABSENT) refl (top-orphan k (at plan v)) h
    where
      go : (b : Bool) → eqb (at plan v) ABSENT ≡ b →
          (top_of plan k (at plan v) ≢ ABSENT → at plan (top_of plan k (at plan v)) ≡ ABSENT)
          → cond b v (top_of plan k (at plan v)) ≢ ABSENT → at plan (cond b v (top_of plan k (at plan v))) ≡ ABSENT
      go true e ih h = eqb-true (at plan v) ABSENT e
      go false e ih h = ih h

  -- up to the top, the steps are the depth
  steps-depth : (k v : ℕ) → k ≤ 256 → top_of plan k v ≢ ABSENT → steps_to plan (top_of plan k v) k v ≡ depth_to plan k v
  unfolding depth_to
  steps-depth zero v few h = absurd (h refl)
  steps-depth (suc k) v few h =
      go (eqb (at plan v) ABSENT) refl h (steps-depth k (at plan v) (omega arith))
      (ℕ_discrete v (top_of plan k (at plan v)))
    where
      go : (b : Bool) → eqb (at plan v) ABSENT ≡ b → cond b v (top_of plan k (at plan v)) ≢ ABSENT
          → (top_of plan k (at plan v) ≢ ABSENT →
          steps_to plan (top_of plan k (at plan v)) k (at plan v) ≡ depth_to plan k (at plan v))
          → Dec (v ≡ top_of plan k (at plan v))
          → cond (eqb v (cond b v (top_of plan k (at plan v)))) 0
          (cond b ABSENT (onward (steps_to plan (cond b v (top_of plan k (at plan v))) k (at plan v))))
          ≡ cond b 0 (suc (depth_to plan k (at plan v)))
      go true e h ih q = rw (eq-eqb v v refl) refl
      go false e h ih (yes q) = absurd (eqb-false (at plan v) ABSENT e (ap (at plan) q ∙ top-orphan k (at plan v) h))
      go false e h ih (no q) =
          rw (
            ne_eqb v (top_of plan k (at plan v)) q,
            ih h,
            ne_eqb (depth_to plan k (at plan v)) ABSENT (λ z. omega (arith, depth-few k (at plan v))),
          ) (omega arith)

module _ {n m : ℕ} {ends plan : List ℕ} (site : Site n m ends) (fits : Fits n m ends plan) where
  few : n ≤ 256
  few = site.few_units

  -- every chain ends
  pub ends-at : (v : ℕ) → v < n → top_of plan n v ≢ ABSENT
  ends-at v l e = omega (arith, few, fits.least v l)

  -- n as one more than a number
  before : (k : ℕ) × (n ≡ suc k)
  before = go n refl
    where
      go : (i : ℕ) → n ≡ i → (k : ℕ) × (n ≡ suc k)
      go zero e = absurd (omega (arith, site.some_unit))
      go (suc k) e = (k, e)

  parent-below : (v : ℕ) → v < n → at plan v ≢ ABSENT → at plan v < n
  parent-below v l h = (link-below site v (at plan v) (fits.linked v l h)).1

  -- a parent is a unit, or absent
  pub plan-names : (v : ℕ) → v < n → Names n (at plan v)
  plan-names v l = go (ℕ_discrete (at plan v) ABSENT)
    where
      go : Dec (at plan v ≡ ABSENT) → Names n (at plan v)
      go (yes e) = inr e
      go (no e) = inl (parent-below v l e)

  -- one step up
  pub top_up : (v : ℕ) → v < n → at plan v ≢ ABSENT →
      (top_of plan n (at plan v) ≡ top_of plan n v) × (depth_to plan n v ≡ suc (depth_to plan n (at plan v)))
  unfolding depth_to
  top_up v l h = go before.0 before.1
    where
      go : (k : ℕ) → n ≡ suc k → (top_of plan n (at plan v) ≡ top_of plan n v)
          × (depth_to plan n v ≡ suc (depth_to plan n (at plan v)))
      go k e =
          let ne : eqb (at plan v) ABSENT ≡ false = ne_eqb (at plan v) ABSENT h in
          let t : top_of plan (suc k) v ≡ top_of plan k (at plan v) =
          cond_false (eqb (at plan v) ABSENT) v (top_of plan k (at plan v)) ne in
          let d : depth_to plan (suc k) v ≡ suc (depth_to plan k (at plan v)) =
          cond_false (eqb (at plan v) ABSENT) 0 (suc (depth_to plan k (at plan v))) ne in
          let some : top_of plan k (at plan v) ≢ ABSENT = λ z. ends-at v l (ap (λ (i : ℕ). top_of plan i v) e ∙ t
          ∙ z) in
          rw e (top-more plan k (at plan v) some ∙ sym t, d ∙ ap suc (sym (depth-more plan k (at plan v) some)))

  pub orphan-top : (v : ℕ) → at plan v ≡ ABSENT → (top_of plan n v ≡ v) × (depth_to plan n v ≡ 0)
  unfolding depth_to
  orphan-top v h = go before.0 before.1
    where
      go : (k : ℕ) → n ≡ suc k → (top_of plan n v ≡ v) × (depth_to plan n v ≡ 0)
      go k e =
          let t = eq-eqb (at plan v) ABSENT h in
          rw e (
            cond_true (eqb (at plan v) ABSENT) v (top_of plan k (at plan v)) t,
            cond_true (eqb (at plan v) ABSENT) 0 (suc (depth_to plan k (at plan v))) t,
          )

  -- a chain is a route
  climbs : (k v : ℕ) → v < n → depth_to plan n v ≤ k → Connected (Link m ends) v (top_of plan n v)
  climbs zero v l h = go (ℕ_discrete (at plan v) ABSENT)
    where
      go : Dec (at plan v ≡ ABSENT) → Connected (Link m ends) v (top_of plan n v)
      go (yes e) = rw (orphan-top v e).0 (connected_refl (Link m ends) v)
      go (no e) = absurd (omega (arith, (top_up v l e).1))
  climbs (suc k) v l h = go (ℕ_discrete (at plan v) ABSENT) (climbs k (at plan v))
    where
      go : Dec (at plan v ≡ ABSENT) → (at plan v < n → depth_to plan n (at plan v) ≤ k →
          Connected (Link m ends) (at plan v) (top_of plan n (at plan v)))
          → Connected (Link m ends) v (top_of plan n v)
      go (yes e) ih = rw (orphan-top v e).0 (connected_refl (Link m ends) v)
      go (no e) ih =
          connected_trans (Link m ends) v (at plan v) (top_of plan n v)
          (connected-link (Link m ends) v (at plan v) (fits.linked v l e))
          (rw (top_up v l e).0 at (ih (parent-below v l e) (omega (arith, (top_up v l e).1))))

  -- a chain up to the top, for whatever is true of its end and kept by a step down
  pub climbs-up : (P : ℕ → ℕ → ℕ → Type 0) → ((z : ℕ) → P z zero z) →
      ((z : ℕ) → at plan z ≢ ABSENT → (k c : ℕ) → P c k (at plan z) → P c (suc k) z)
      → {c : ℕ} (v : ℕ) → v < n → top_of plan n v ≡ c → (k : ℕ) × P c k v
  climbs-up P base step {c} v l e = go (depth_to plan n v) v l (omega arith) e
    where
      go : (i w : ℕ) → w < n → depth_to plan n w ≤ i → top_of plan n w ≡ c → (k : ℕ) × P c k w
      go zero w lw h e = pick (ℕ_discrete (at plan w) ABSENT)
        where
          pick : Dec (at plan w ≡ ABSENT) → (k : ℕ) × P c k w
          pick (yes a) = (zero, subst (λ (z : ℕ). P z zero w) (sym (orphan-top w a).0 ∙ e) (base w))
          pick (no a) = absurd (omega (arith, (top_up w lw a).1))
      go (suc i) w lw h e = pick (ℕ_discrete (at plan w) ABSENT) (go i (at plan w))
        where
          pick : Dec (at plan w ≡ ABSENT) →
              (at plan w < n → depth_to plan n (at plan w) ≤ i → top_of plan n (at plan w) ≡ c →
              (k : ℕ) × P c k (at plan w)) → (k : ℕ) × P c k w
          pick (yes a) f = (zero, subst (λ (z : ℕ). P z zero w) (sym (orphan-top w a).0 ∙ e) (base w))
          pick (no a) f =
              let r = f (parent-below w lw a) (omega (arith, (top_up w lw a).1)) ((top_up w lw a).0 ∙ e) in
              (suc r.0, step w a r.0 c r.1)

  -- tops do not change along a route
  top-along : (u v : ℕ) → Connected (Link m ends) u v → top_of plan n u ≡ top_of plan n v
  top-along u v (l, w) = go u l w.0 w.1
    where
      go : (x : ℕ) (t : List ℕ) → Walk (Link m ends) x t → last x t ≡ v → top_of plan n x ≡ top_of plan n v
      go x [] s e = ap (top_of plan n) e
      go x (y ∷ t) s e = fits.together x y s.0 ∙ go y t s.1 e

  module _ {color : List ℕ} (colored : Colored n m ends color) where
    -- the top is the colour unit: it is linked up with v, and the least of those
    pub top_color : (v : ℕ) → v < n → top_of plan n v ≡ at color v
    top_color v l =
        let a : at color v ≤ top_of plan n v =
        colored.lowest v (top_of plan n v) l (climbs n v l (depth-few plan n v)) in
        let b : top_of plan n (at color v) ≤ at color v = fits.least (at color v) (colored.below v l) in
        let c : top_of plan n v ≡ top_of plan n (at color v) = top-along v (at color v) (colored.reached v l) in
        omega arith

    module _ (parent dist : List ℕ) (roomP : n ≤ length parent) (roomD : n ≤ length dist) where
      parent-at : (v : ℕ) → v < n → at (planned_parents n plan parent) v ≡ at plan v
      unfolding planned_parents
      parent-at v l = get_d_over n (at plan) parent v 0 l (omega arith)

      depth-at : (v : ℕ) → v < n → depth_in n plan v ≡ depth_to plan n v
      unfolding depth_in
      depth-at v l = cond_true (ltb v n) (depth_to plan n v) 0 (lt-ltb v n l)

      root-at : (v : ℕ) → v < n → root_of n color v ≡ at color v
      root-at v l = cond_true (ltb v n) (at color v) v (lt-ltb v n l)

      outside : (v : ℕ) → n ≤ v → depth_in n plan v ≡ 0
      unfolding depth_in
      outside v h = cond_false (ltb v n) (depth_to plan n v) 0 (le-ltb v n h)

      inside : (v : ℕ) → 0 < depth_in n plan v → (v < n) × (at plan v ≢ ABSENT)
      inside v h = go (dec_lt v n)
        where
          go : Dec (v < n) → (v < n) × (at plan v ≢ ABSENT)
          go (yes l) = (l, λ e. omega (arith, depth-at v l, (orphan-top v e).1))
          go (no l) = absurd (omega (arith, outside v (omega arith)))

      -- stages 3 to 10 have what they need
      pub planned-rooted : Rooted n m ends color (planned_parents n plan parent) (depth_in n plan)
      planned-rooted =
          record {
            forest = record {
              deeper = deeper;
              link = λ v h. let (l, e) = inside v h in rw (parent-at v l) (fits.linked v l e);
              top = top;
              spans = spans;
            };
            absent_root = λ v l. (
              λ e. depth-at v l ∙ (orphan-top v (sym (parent-at v l) ∙ e)).1,
              λ z. parent-at v l ∙ orphan v l z,
            );
            parent_below = λ v l h. rw (parent-at v l) (parent-below v l (inside v h).1);
            color_below = colored.below;
            outside = outside;
          }
        where
          orphan : (v : ℕ) → v < n → depth_in n plan v ≡ 0 → at plan v ≡ ABSENT
          orphan v l z = go (ℕ_discrete (at plan v) ABSENT)
            where
              go : Dec (at plan v ≡ ABSENT) → at plan v ≡ ABSENT
              go (yes e) = e
              go (no e) = absurd (omega (arith, depth-at v l, (top_up v l e).1))

          deeper : (v : ℕ) → 0 < depth_in n plan v →
              depth_in n plan v ≡ suc (depth_in n plan (at (planned_parents n plan parent) v))
          deeper v h =
              let l = (inside v h).0 in
              let e = (inside v h).1 in
              depth-at v l ∙ (top_up v l e).1
              ∙ ap suc (sym (ap (depth_in n plan) (parent-at v l) ∙ depth-at (at plan v) (parent-below v l e)))

          top : (v : ℕ) → depth_in n plan v ≡ 0 → root_of n color v ≡ v
          top v z = go (dec_lt v n)
            where
              go : Dec (v < n) → root_of n color v ≡ v
              go (yes l) = root-at v l ∙ sym (top_color v l) ∙ (orphan-top v (orphan v l z)).0
              go (no l) = cond_false (ltb v n) (at color v) v (le-ltb v n (omega arith))

          spans : (u v : ℕ) → Link m ends u v → root_of n color u ≡ root_of n color v
          spans u v l =
              let (hu, hv) = link-below site u v l in
              root-at u hu ∙ (colored.same u v hu hv).1 (connected-link (Link m ends) u v l) ∙ sym (root-at v hv)

      -- a distance is the depth: after an accepted load none is absent
      pub planned_dist : (v : ℕ) → v < n → at (planned_dists n plan color dist) v ≡ depth_in n plan v
      unfolding planned_dists
      planned_dist v l =
          get_d_over n (λ (w : ℕ). steps_to plan (at color w) n w) dist v 0 l (omega arith)
          ∙ ap (λ (c : ℕ). steps_to plan c n v) (sym (top_color v l)) ∙ steps-depth plan n v few (ends-at v l)
          ∙ sym (depth-at v l)
