-- 18's test finds what document 02 asks: the tops of chains that it compares are the colour units.
use Rattle.std.specs.Prelude.{◌≡◌, Bool, true, false, cond, ◌⊎◌, ◌↔◌, ◌≢◌, List, [], ◌∷◌, eqb, length, replicate}
use Rattle.std.proofs.Math.Path.{refl, ap}
use Rattle.std.proofs.Common.{sym, subst, ◌∙◌, inl, inr, eqb-true, eq-eqb, ne_eqb}
use Prim.Native.Nat.{ℕ, zero, suc, ◌+◌, ◌≤◌, ◌<◌}
use Rattle.std.proofs.Math.Decide.{ℕ_discrete, dec_le}
use native.Mathlib.Omega.{arith}
use Rattle.std.proofs.lemmas.List.{length-replicate}
use Rattle.std.proofs.lemmas.Bool.{eqb-false}
use Rattle.base_lists.specs.Counts.{count_le}
use Rattle.base_lists.specs.Folds.{some}
use Rattle.base_lists.specs.Members.{Mem, Distinct}
use Rattle.base_lists.specs.Pigeonhole.{Picked, pigeonhole}
use Rattle.base_lists.specs.Tests.{either, refuted, not_both, cond_true, cond_false}
use Rattle.table.specs.Table.{end_a, end_b}
use Rattle.spec_rules.specs.Basics.{ABSENT, at}
use Rattle.spec_rules.specs.Components.{color_round, color_ends}
use Rattle.spec_rules.specs.Planned.{top_of, parent_link, plan_unfit}
use Rattle.spec_rules.specs.PlannedLaws.{ParentLink, StrayParent, PlanUnfit, parent-linked, unfit_exact}
use Rattle.theory_graph.specs.Rings.{Connected}
use Rattle.theory_graph.specs.Routes.{connected_refl, connected-link}
use Rattle.theory_reach.specs.Site.{Site, Link, link-below}
use Rattle.theory_reach.specs.Colors
use Rattle.theory_reach.specs.Colors.{ColorsAt, Colored}
use Rattle.theory_reach.specs.Planned.{Fits, ends-at, top-orphan, orphan-top, top_color, climbs-up}
use Rattle.theory_reach.specs.PlanCause.{Climbs, here, up, Drawn, PlanCause}

-- ---- the test and `Fits`

module _ (n m : ℕ) (ends plan : List ℕ) where
  parent-link : (v : ℕ) → (j : ℕ) × (j < m) × ParentLink ends plan v j → Link m ends v (at plan v)
  parent-link v (j, l, inl e) = (j, l, inl e)
  parent-link v (j, l, inr e) = (j, l, inr (e.1, e.0))

  link-parent : (v : ℕ) → Link m ends v (at plan v) → (j : ℕ) × (j < m) × ParentLink ends plan v j
  link-parent v (j, l, inl e) = (j, l, inl e)
  link-parent v (j, l, inr e) = (j, l, inr (e.1, e.0))

  pub test_fits : plan_unfit n m ends plan ≡ false → Fits n m ends plan
  test_fits e = record { least = least; linked = linked; together = together }
    where
      none : PlanUnfit n m ends plan → ⊥
      none h = not_both (plan_unfit n m ends plan) ((unfit_exact n m ends plan).1 h) e

      least : (v : ℕ) → v < n → top_of plan n v ≤ v
      least v l = go (dec_le (top_of plan n v) v)
        where
          go : Dec (top_of plan n v ≤ v) → top_of plan n v ≤ v
          go (yes h) = h
          go (no h) = absurd (none (inr (inl (v, l, omega arith))))

      linked : (v : ℕ) → v < n → at plan v ≢ ABSENT → Link m ends v (at plan v)
      linked v l h = go (either (some m (parent_link ends plan v)))
        where
          go : (some m (parent_link ends plan v) ≡ true) ⊎ (some m (parent_link ends plan v) ≡ false) →
              Link m ends v (at plan v)
          go (inl t) = parent-link v ((parent-linked m ends plan v).0 t)
          go (inr f) = absurd (none (inl (v, l, (h, λ w. not_both _ ((parent-linked m ends plan v).1 w) f))))

      same : (j : ℕ) → j < m → top_of plan n (end_a ends j) ≡ top_of plan n (end_b ends j)
      same j l = go (ℕ_discrete (top_of plan n (end_a ends j)) (top_of plan n (end_b ends j)))
        where
          go : Dec (top_of plan n (end_a ends j) ≡ top_of plan n (end_b ends j)) →
              top_of plan n (end_a ends j) ≡ top_of plan n (end_b ends j)
          go (yes h) = h
          go (no h) = absurd (none (inr (inr (j, l, h))))

      together : (u v : ℕ) → Link m ends u v → top_of plan n u ≡ top_of plan n v
      together u v (j, l, inl q) = ap (top_of plan n) (sym q.0) ∙ same j l ∙ ap (top_of plan n) q.1
      together u v (j, l, inr q) = ap (top_of plan n) (sym q.1) ∙ sym (same j l) ∙ ap (top_of plan n) q.0

  fits-test : Fits n m ends plan → plan_unfit n m ends plan ≡ false
  fits-test F = refuted (plan_unfit n m ends plan) (λ t. none ((unfit_exact n m ends plan).0 t))
    where
      none : PlanUnfit n m ends plan → ⊥
      none (inl (v, l, h)) = h.1 (link-parent v (F.linked v l h.0))
      none (inr (inl (v, l, h))) = omega (arith, F.least v l)
      none (inr (inr (j, l, h))) = h (F.together (end_a ends j) (end_b ends j) (j, l, inl (refl, refl)))

-- ---- `Fits` and document 02's words

unit-present : {n m : ℕ} {ends : List ℕ} → Site n m ends → (v : ℕ) → v < n → v ≢ ABSENT
unit-present site v l e = omega (arith, site.few_units)

module _ {n m : ℕ} {ends color plan : List ℕ} (site : Site n m ends) (colored : Colored n m ends color) where
  pub fits-drawn : Fits n m ends plan → Drawn n m ends color plan
  fits-drawn F =
      record {
        colourless = λ v l e. orphan v l (ℕ_discrete (at plan v) ABSENT) e;
        neighbour = λ v l e. F.linked v l (parented v l e);
        arrives = λ v l e. subst (λ (c : ℕ). (k : ℕ) × Climbs plan c k v) (top_color site F colored v l)
            (climbs_up' v l);
      }
    where
      parented : (v : ℕ) → v < n → at color v ≢ v → at plan v ≢ ABSENT
      parented v l e a = e (sym (top_color site F colored v l) ∙ (orphan-top site F v a).0)

      -- a colour unit that had a parent would not be the top of its own chain
      orphan : (v : ℕ) → v < n → Dec (at plan v ≡ ABSENT) → at color v ≡ v → at plan v ≡ ABSENT
      orphan v l (yes a) e = a
      orphan v l (no a) e = rw (top_color site F colored v l ∙ e) at (top-orphan plan n v (ends-at site F v l))

      climbs_up' : (v : ℕ) → v < n → (k : ℕ) × Climbs plan (top_of plan n v) k v
      climbs_up' v l = climbs-up site F (λ (c k z : ℕ). Climbs plan c k z) (λ z. here refl)
          (λ z p k c q. up p q) v l refl

  -- ---- back

  module _ (D : Drawn n m ends color plan) where
    -- a colour unit is its own colour, and has no parent
    colour_orphan : (v : ℕ) → v < n → at plan (at color v) ≡ ABSENT
    colour_orphan v l = D.colourless (at color v) (colored.below v l) (colored.own v l)

    -- each unit's chain, the colour unit's own too
    reaches : (v : ℕ) → v < n → (k : ℕ) × Climbs plan (at color v) k v
    reaches v l = go (ℕ_discrete (at color v) v)
      where
        go : Dec (at color v ≡ v) → (k : ℕ) × Climbs plan (at color v) k v
        go (yes e) = (zero, here (sym e))
        go (no e) = D.arrives v l e

    -- a unit with a parent is no colour unit, and its parent is a unit of the same colour
    parent-unit : (v : ℕ) → v < n → at plan v ≢ ABSENT →
        Link m ends v (at plan v) × (at plan v < n) × (at color (at plan v) ≡ at color v)
    parent-unit v l h =
        let lk = D.neighbour v l (λ e. h (D.colourless v l e)) in
        let b = (link-below site v (at plan v) lk).1 in
        (lk, b, sym ((colored.same v (at plan v) l b).1 (connected-link (Link m ends) v (at plan v) lk)))

    -- chains to an orphan have one length
    one-length : (c : ℕ) → at plan c ≡ ABSENT → {k j v : ℕ} → Climbs plan c k v → Climbs plan c j v → k ≡ j
    one-length c o (here e) (here f) = refl
    one-length c o (here e) (up h q) = absurd (h (ap (at plan) e ∙ o))
    one-length c o (up h q) (here f) = absurd (h (ap (at plan) f ∙ o))
    one-length c o (up h q) (up g r) = ap suc (one-length c o q r)

    -- the units of a chain
    trail : ℕ → ℕ → List ℕ
    trail zero v = v ∷ []
    trail (suc k) v = v ∷ trail k (at plan v)

    trail-length : (k v : ℕ) → length (trail k v) ≡ suc k
    unfolding trail
    trail-length zero v = refl
    trail-length (suc k) v = ap suc (trail-length k (at plan v))

    -- each of them has a chain no longer to c, and is a unit
    trail-members : (c : ℕ) {k v : ℕ} → v < n → Climbs plan c k v → (z : ℕ) → Mem z (trail k v) →
        (z < n) × ((j : ℕ) × (j ≤ k) × Climbs plan c j z)
    unfolding trail
    trail-members c {v = v} l (here e) z (inl f) = rw f (l, (zero, omega arith, here e))
    trail-members c l (here e) z (inr f) = absurd f
    trail-members c {k = suc k} {v} l (up h q) z (inl f) = rw f (l, (suc k, omega arith, up h q))
    trail-members c {k = suc k} {v} l (up h q) z (inr f) =
        let r = trail-members c (parent-unit v l h).1 q z f in
        (r.0, (r.1.0, let i : r.1.0 ≤ k = r.1.1 in omega arith, r.1.2))

    trail-different : (c : ℕ) → at plan c ≡ ABSENT → {k v : ℕ} → v < n → Climbs plan c k v → Distinct (trail k v)
    unfolding trail
    trail-different c o l (here e) = (λ m. m, tt)
    trail-different c o {k = suc k} {v} l (up h q) = (
      λ m. let r = (trail-members c (parent-unit v l h).1 q v m).1 in let i : r.0 ≤ k =
          r.1 in omega (arith, one-length c o (up h q) r.2),
      trail-different c o (parent-unit v l h).1 q,
    )

    -- so a chain has at most n units
    short : (c : ℕ) → at plan c ≡ ABSENT → {k v : ℕ} → v < n → Climbs plan c k v → suc k ≤ n
    short c o {k} {v} l q =
        omega (
          arith,
          pigeonhole (λ i. true) n (trail k v) (trail-different c o l q)
              (λ z m. record { below = (trail-members c l q z m).0; passes = refl }),
          count_le n (λ i. true),
          trail-length k v,
        )

    -- and the top that is looked for within n units is the colour unit
    top-climbs : (c : ℕ) → c ≢ ABSENT → at plan c ≡ ABSENT → {k v : ℕ} → Climbs plan c k v → (i : ℕ) → suc k ≤ i →
        top_of plan i v ≡ c
    top-climbs c p o (here e) zero h = absurd (omega arith)
    top-climbs c p o {v = v} (here e) (suc i) h =
        cond_true (eqb (at plan v) ABSENT) v (top_of plan i (at plan v)) (eq-eqb (at plan v) ABSENT (ap (at plan) e
        ∙ o))
        ∙ e
    top-climbs c p o (up g q) zero h = absurd (omega arith)
    top-climbs c p o {v = v} (up g q) (suc i) h =
        cond_false (eqb (at plan v) ABSENT) v (top_of plan i (at plan v)) (ne_eqb (at plan v) ABSENT g)
        ∙ top-climbs c p o q i (omega arith)

    top-is : (v : ℕ) → v < n → top_of plan n v ≡ at color v
    top-is v l =
        let r = reaches v l in
        let o = colour_orphan v l in
        top-climbs (at color v) (unit-present site (at color v) (colored.below v l)) o r.1 n
        (short (at color v) o l r.1)

    pub drawn-fits : Fits n m ends plan
    drawn-fits =
        record {
          least = λ v l. rw (top-is v l) (colored.lowest v v l (connected_refl (Link m ends) v));
          linked = λ v l h. (parent-unit v l h).0;
          together =
              λ u v lk.
              let (hu, hv) = link-below site u v lk in
              top-is u hu ∙ (colored.same u v hu hv).1 (connected-link (Link m ends) u v lk) ∙ sym (top-is v hv);
        }

-- ---- there are colours

module _ {n m : ℕ} {ends : List ℕ} (site : Site n m ends) where
  pub coloring : (color : List ℕ) × Colored n m ends color
  coloring = go n 1 (color_round n m 0 ends (replicate n 0))
      (Colors.first site (replicate n 0) (omega (arith, length-replicate {A = ℕ} n 0))) (omega arith) (omega arith)
    where
      -- rounds go on until one changes nothing, and the ceiling comes after it
      go : (fuel k : ℕ) (color : List ℕ) → ColorsAt n m ends color k → 1 ≤ k → n ≤ k + fuel →
          (color : List ℕ) × Colored n m ends color
      go zero k color c l h = on (either (color_ends n k color (color_round n m k ends color)))
        where
          on : (color_ends n k color (color_round n m k ends color) ≡ true)
              ⊎ (color_ends n k color (color_round n m k ends color) ≡ false) → (color : List ℕ)
              × Colored n m ends color
          on (inl e) = (color_round n m k ends color, Colors.done site c l e)
          on (inr e) = absurd (omega (arith, Colors.bound site c l e))
      go (suc fuel) k color c l h = on (either (color_ends n k color (color_round n m k ends color)))
          (go fuel (suc k) (color_round n m k ends color) (Colors.next site c l))
        where
          on : (color_ends n k color (color_round n m k ends color) ≡ true)
              ⊎ (color_ends n k color (color_round n m k ends color) ≡ false)
              → (1 ≤ suc k → n ≤ suc k + fuel → (color : List ℕ) × Colored n m ends color) →
              (color : List ℕ) × Colored n m ends color
          on (inl e) later = (color_round n m k ends color, Colors.done site c l e)
          on (inr e) later = later (omega arith) (omega arith)

  pub plan-cause : (plan : List ℕ) → PlanCause n m ends plan
  plan-cause plan =
      record {
        colors = coloring;
        exact = λ color colored. (
          λ e. fits-drawn site colored (test_fits n m ends plan e),
          λ d. fits-test n m ends plan (drawn-fits site colored d),
        );
      }
