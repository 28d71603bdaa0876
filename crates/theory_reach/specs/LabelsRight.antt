-- Stage 10, and what the labels say of the graph: equal labels are a common ring, a lone link is on none, and a single
-- point is an articulation point.
use Rattle.std.specs.Prelude.{◌≡◌, refl, false, ◌&&◌, ◌⊎◌, ◌↔◌, List, ltb}
use Rattle.std.proofs.Math.Path.{sym, ap}
use Rattle.std.proofs.Common.{◌∙◌, inl, inr, arith, eqb-true, eq-eqb, ltb-true, ltb-false}
use Rattle.std.proofs.Math.Bool.{Bool, true, cond, not}
use Prim.Native.Nat.{ℕ, suc, ◌≤◌, ◌<◌}
use Rattle.std.proofs.Math.Decide.{ℕ_discrete}
use Rattle.std.proofs.Math.Dec.{eqb}
use Rattle.base_lists.specs.Tests.{either, or_exact, not_exact, and_left, and_right, and-true, cond_true, cond_false}
use Rattle.base_lists.specs.Folds.{least, count, some}
use Rattle.base_lists.specs.LeastLaws.{least_le, least-is}
use Rattle.base_lists.specs.Some.{some-exact}
use Rattle.base_lists.specs.Counts.{count-one}
use Rattle.table.specs.Table.{end_a, end_b}
use Rattle.spec_rules.specs.Basics.{ABSENT, at}
use Rattle.spec_rules.specs.BoundLaws.{eq_exact}
use Rattle.spec_rules.specs.Labels.{naming_unit, label_of, lone, touches, single}
use Rattle.theory_graph.specs.Rings.{Ring, Holds, OnRing, SameLink, Articulation}
use Rattle.theory_graph.specs.Forest.{OffTree, Classes, ClassOf, lower, upper, first, second}
use Rattle.theory_graph.proofs.Sides.{class-link, class_same, class-flip}
use Rattle.theory_graph.proofs.Blocks.{Alone, blocks-other, bridge}
use Rattle.theory_graph.proofs.Cuts.{Meet, articulation}
use Rattle.theory_reach.specs.Site.{Site, Link, link-below, site-graph}
use Rattle.theory_reach.specs.Rooted.{Rooted}
use Rattle.theory_reach.specs.Ordered.{Ordered}
use Rattle.theory_reach.specs.OffTheTree.{has_parent, off-exact}

-- what the labels say, over links j and k and units u
pub record Right (n m : ℕ) (ends label : List ℕ) : Type 0 where
  -- two different links have one label exactly when a ring holds both
  pub together : (j k : ℕ) → j < m → k < m → (j ≡ k → ⊥)
      → (at label j ≡ at label k) ↔ OnRing (Link m ends) (end_a ends j) (end_b ends j) (end_a ends k) (end_b ends k)
  -- a label is the least position that has it
  pub firsts : (j : ℕ) → j < m → (at label j < m) × (at label (at label j) ≡ at label j)
      × ((k : ℕ) → k < m → at label k ≡ at label j → at label j ≤ k)
  -- a link is lone exactly when no ring holds it
  pub bridges : (j : ℕ) → j < m
      → (lone m label j ≡ true) ↔ ((r : List ℕ) → Ring (Link m ends) r → Holds r (end_a ends j) (end_b ends j) → ⊥)
  -- a unit is a single point exactly when two other connected units have no route that avoids it
  pub cuts : (u : ℕ) → u < n → (single m ends label u ≡ true) ↔ Articulation (Link m ends) u

module _
    {n m : ℕ} {ends color parent nd pre : List ℕ} {d : ℕ → ℕ}
    (site : Site n m ends) (rooted : Rooted n m ends color parent d) (ordered : Ordered n parent nd pre d)
    {cl : ℕ → ℕ} (classes : Classes (Link m ends) (at parent) d cl)
  where
    -- the unit that names a link gives it its class
    naming-class : (a b : ℕ) → Link m ends a b →
        ClassOf (Link m ends) (at parent) d cl a b (cl (naming_unit parent pre a b))
    unfolding naming_unit
    naming-class a b l = go (either (eqb (at parent a) b)) (either (eqb (at parent b) a))
      where
        ha : a < n
        ha = (link-below site a b l).0

        hb : b < n
        hb = (link-below site a b l).1

        off : eqb (at parent a) b ≡ false → eqb (at parent b) a ≡ false → OffTree (Link m ends) (at parent) d a b
        off e f = (off-exact site rooted a b l).0 (rw (e, f) refl)

        by_place : eqb (at parent a) b ≡ false → eqb (at parent b) a ≡ false →
            (ltb (at pre b) (at pre a) ≡ true) ⊎ (ltb (at pre b) (at pre a) ≡ false)
            → ClassOf (Link m ends) (at parent) d cl a b (cl (naming_unit parent pre a b))
        by_place e f (inl q) =
            rw (e, f, q)
            (first (off e f) (λ x. omega (
              arith,
              (ordered.interval a b ha hb).0 x,
              ltb-true (at pre b) (at pre a) q,
            )) refl)
        by_place e f (inr q) =
            rw (e, f, q)
            (second (off e f) (λ x. (site-graph site).loopless a
            (rw (ordered.place_once b a hb ha
            (omega (arith, (ordered.interval b a hb ha).0 x, ltb-false (at pre b) (at pre a) q))) at l)) refl)

        go : (eqb (at parent a) b ≡ true) ⊎ (eqb (at parent a) b ≡ false) →
            (eqb (at parent b) a ≡ true) ⊎ (eqb (at parent b) a ≡ false)
            → ClassOf (Link m ends) (at parent) d cl a b (cl (naming_unit parent pre a b))
        go (inl e) (inl f) =
            let p : at parent a ≡ b = eqb-true (at parent a) b e in
            let q : at parent b ≡ a = eqb-true (at parent b) a f in
            let x : d a ≡ suc (d b) = rw p at (rooted.forest.deeper a (has_parent site rooted a b ha hb p)) in
            let y : d b ≡ suc (d a) = rw q at (rooted.forest.deeper b (has_parent site rooted b a hb ha q)) in
            absurd (omega arith)
        go (inl e) (inr f) = let p : at parent a ≡ b =
            eqb-true (at parent a) b e in rw (e, f) (lower (has_parent site rooted a b ha hb p) p refl)
        go (inr e) (inl f) = let q : at parent b ≡ a =
            eqb-true (at parent b) a f in rw (e, f) (upper (has_parent site rooted b a hb ha q) q refl)
        go (inr e) (inr f) = by_place e f (either (ltb (at pre b) (at pre a)))

    module _
        (class label : List ℕ)
        (class-is : (j : ℕ) → j < m → at class j ≡ cl (naming_unit parent pre (end_a ends j) (end_b ends j)))
        (Label-is : (j : ℕ) → j < m → at label j ≡ label_of m class j)
      where
        link_at : (j : ℕ) → j < m → Link m ends (end_a ends j) (end_b ends j)
        link_at j l = (j, l, inl (refl, refl))

        pub class_of : (j : ℕ) → j < m
            → ClassOf (Link m ends) (at parent) d cl (end_a ends j) (end_b ends j) (at class j)
        class_of j l = rw (class-is j l) (naming-class (end_a ends j) (end_b ends j) (link_at j l))

        -- ---- labels are classes

        -- the label is a position of the class
        pub label_class : (j : ℕ) → j < m → (label_of m class j < m) × (at class (label_of m class j) ≡ at class j)
        unfolding label_of
        label_class j l = go (least-is m f ABSENT)
          where
            f : ℕ → ℕ
            f k = cond (eqb (at class k) (at class j)) k ABSENT

            own : f j ≡ j
            own = rw (eq-eqb (at class j) (at class j) refl) refl

            small : label_of m class j ≤ j
            small = rw own at (least_le m f ABSENT j l)

            go : (label_of m class j ≡ ABSENT) ⊎ ((k : ℕ) × (k < m) × (label_of m class j ≡ f k)) →
                (label_of m class j < m) × (at class (label_of m class j) ≡ at class j)
            go (inl e) = absurd (omega (arith, site.few_links, small))
            go (inr (k, h, e)) = by (either (eqb (at class k) (at class j)))
              where
                by : (eqb (at class k) (at class j) ≡ true) ⊎ (eqb (at class k) (at class j) ≡ false) →
                    (label_of m class j < m) × (at class (label_of m class j) ≡ at class j)
                by (inl q) = let g : label_of m class j ≡ k =
                    e ∙ cond_true (eqb (at class k) (at class j)) k ABSENT q in (
                      omega arith,
                      rw g (eqb-true (at class k) (at class j) q),
                    )
                by (inr q) = let g : label_of m class j ≡ ABSENT =
                    e ∙ cond_false (eqb (at class k) (at class j)) k ABSENT q in absurd
                    (omega (arith, site.few_links, small))

        pub labels_as_classes : (j k : ℕ) → j < m → k < m → (at label j ≡ at label k) ↔ (at class j ≡ at class k)
        unfolding label_of
        labels_as_classes j k hj hk = (there, back)
          where
            there : at label j ≡ at label k → at class j ≡ at class k
            there e =
                let f : label_of m class j ≡ label_of m class k = sym (Label-is j hj) ∙ e ∙ Label-is k hk in
                sym (label_class j hj).1 ∙ ap (at class) f ∙ (label_class k hk).1

            back : at class j ≡ at class k → at label j ≡ at label k
            back e = Label-is j hj ∙ ap (λ (c : ℕ). least m (λ (i : ℕ). cond (eqb (at class i) c) i ABSENT) ABSENT) e
                ∙ sym (Label-is k hk)

        label_first : (j : ℕ) → j < m
            → (at label j < m) × (at label (at label j) ≡ at label j)
            × ((k : ℕ) → k < m → at label k ≡ at label j → at label j ≤ k)
        unfolding label_of
        label_first j l =
            let below : at label j < m = rw (Label-is j l) (label_class j l).0 in
            let same : at class (at label j) ≡ at class j = rw (Label-is j l) (label_class j l).1 in
            (below, (labels_as_classes (at label j) j below l).1 same, least-of)
          where
            f : ℕ → ℕ
            f k = cond (eqb (at class k) (at class j)) k ABSENT

            least-of : (k : ℕ) → k < m → at label k ≡ at label j → at label j ≤ k
            least-of k h e =
                let own : f k ≡ k = cond_true (eqb (at class k) (at class j)) k ABSENT
                (eq-eqb (at class k) (at class j) ((labels_as_classes k j h l).0 e)) in
                rw (Label-is j l) (rw own at (least_le m f ABSENT k h))

        -- ---- the three sentences

        different : (j k : ℕ) → j < m → k < m → (j ≡ k → ⊥) →
            SameLink (end_a ends j) (end_b ends j) (end_a ends k) (end_b ends k) → ⊥
        different j k hj hk n s = site.once j k n hj hk s

        together : (j k : ℕ) → j < m → k < m → (j ≡ k → ⊥)
            → (at label j ≡ at label k) ↔ OnRing (Link m ends) (end_a ends j) (end_b ends j) (end_a ends k)
            (end_b ends k)
        together j k hj hk n = (
          λ e. b.0 ((labels_as_classes j k hj hk).0 e),
          λ r. (labels_as_classes j k hj hk).1 (b.1 r),
        )
          where
            b : (at class j ≡ at class k) ↔ OnRing (Link m ends) (end_a ends j) (end_b ends j) (end_a ends k)
                (end_b ends k)
            b = blocks-other (site-graph site) rooted.forest classes (different j k hj hk n) (class_of j hj)
                (class_of k hk)

        -- a link has the class of its position
        pub class-at-link : (x y c : ℕ) → Link m ends x y → ClassOf (Link m ends) (at parent) d cl x y c
            → (k : ℕ) × (k < m) × SameLink (end_a ends k) (end_b ends k) x y × (at class k ≡ c)
        class-at-link x y c (k, l, s) h = (
          k,
          l,
          s,
          class_same (site-graph site) rooted.forest classes.along-aux (link_at k l) s
              (class_of k l) h,
        )

        alone-exact : (j : ℕ) → j < m → (lone m label j ≡ true)
            ↔ Alone (Link m ends) (at parent) d cl (end_a ends j) (end_b ends j) (at class j)
        unfolding lone
        alone-exact j hj = (there, back)
          where
            only : (count m (λ (k : ℕ). eqb (at label k) (at label j)) ≡ 1)
                ↔ ((k : ℕ) → k < m → eqb (at label k) (at label j) ≡ true → k ≡ j)
            only = count-one m (λ (k : ℕ). eqb (at label k) (at label j)) j hj (eq-eqb (at label j) (at label j) refl)

            there : lone m label j ≡ true →
                Alone (Link m ends) (at parent) d cl (end_a ends j) (end_b ends j) (at class j)
            there e x y c l h q =
                let w = class-at-link x y c l h in
                let k : ℕ = w.0 in
                let same : at label k ≡ at label j = (labels_as_classes k j w.1 hj).1 (w.3 ∙ sym q) in
                let i : k ≡ j = only.0 (eqb-true _ 1 e) k w.1 (eq-eqb (at label k) (at label j) same) in
                rw i at w.2

            back : Alone (Link m ends) (at parent) d cl (end_a ends j) (end_b ends j) (at class j) → lone m label j
                ≡ true
            back a = eq-eqb (count m (λ (k : ℕ). eqb (at label k) (at label j))) 1
                (only.1 (λ k hk e. find k hk e (ℕ_discrete k j)))
              where
                find : (k : ℕ) → k < m → eqb (at label k) (at label j) ≡ true → Dec (k ≡ j) → k ≡ j
                find k hk e (yes i) = i
                find k hk e (no i) =
                    absurd (different j k hj hk (λ q. i (sym q))
                    (a (end_a ends k) (end_b ends k) (at class k) (link_at k hk) (class_of k hk)
                    (sym ((labels_as_classes k j hk hj).0 (eqb-true (at label k) (at label j) e)))))

        bridges : (j : ℕ) → j < m → (lone m label j ≡ true)
            ↔ ((r : List ℕ) → Ring (Link m ends) r → Holds r (end_a ends j) (end_b ends j) → ⊥)
        bridges j hj = (λ e. b.0 ((alone-exact j hj).0 e), λ h. (alone-exact j hj).1 (b.1 h))
          where
            b : Alone (Link m ends) (at parent) d cl (end_a ends j) (end_b ends j) (at class j)
                ↔ ((r : List ℕ) → Ring (Link m ends) r → Holds r (end_a ends j) (end_b ends j) → ⊥)
            b = bridge (site-graph site) rooted.forest classes (class_of j hj)

        -- a link that ends at u, with its other end and its class
        pub at_unit : (u j : ℕ) → j < m → touches ends u j ≡ true →
            (a : ℕ) × ClassOf (Link m ends) (at parent) d cl u a (at class j)
        at_unit u j l e = go ((or_exact (eqb (end_a ends j) u) (eqb (end_b ends j) u) (eq_exact (end_a ends j) u)
            (eq_exact (end_b ends j) u)).0 e)
          where
            go : (end_a ends j ≡ u) ⊎ (end_b ends j ≡ u) →
                (a : ℕ) × ClassOf (Link m ends) (at parent) d cl u a (at class j)
            go (inl q) = (end_b ends j, rw q at (class_of j l))
            go (inr q) = (
              end_a ends j,
              rw q at
                  (class-flip (site-graph site) rooted.forest classes.along-aux (class_of j l)),
            )

        pub link-touches : (u a j : ℕ) → SameLink (end_a ends j) (end_b ends j) u a → touches ends u j ≡ true
        link-touches u a j (inl s) = (or_exact (eqb (end_a ends j) u) (eqb (end_b ends j) u) (eq_exact (end_a ends j) u)
            (eq_exact (end_b ends j) u)).1 (inl s.0)
        link-touches u a j (inr s) = (or_exact (eqb (end_a ends j) u) (eqb (end_b ends j) u) (eq_exact (end_a ends j) u)
            (eq_exact (end_b ends j) u)).1 (inr s.1)

        meet-exact : (u : ℕ) → (single m ends label u ≡ true) ↔ Meet (Link m ends) (at parent) d cl u
        unfolding single
        meet-exact u = (λ e. there ((some-exact m outer).0 e), back)
          where
            inner : ℕ → ℕ → Bool
            inner j k = touches ends u k && not (eqb (at label k) (at label j))

            outer : ℕ → Bool
            outer j = touches ends u j && some m (inner j)

            there : (j : ℕ) × (j < m) × (outer j ≡ true) → Meet (Link m ends) (at parent) d cl u
            there (j, hj, e) = second-link
                ((some-exact m (inner j)).0 (and_right (touches ends u j) (some m (inner j)) e))
              where
                second-link : (k : ℕ) × (k < m) × (inner j k ≡ true) → Meet (Link m ends) (at parent) d cl u
                second-link (k, hk, f) =
                    let a = at_unit u j hj (and_left (touches ends u j) (some m (inner j)) e) in
                    let b = at_unit u k hk (and_left (touches ends u k) _ f) in
                    let x : at label k ≡ at label j →
                    ⊥ = (not_exact (eqb (at label k) (at label j)) (eq_exact (at label k) (at label j))).0
                    (and_right (touches ends u k) (not (eqb (at label k) (at label j))) f) in
                    record {
                      a = a.0;
                      b = b.0;
                      class-a = at class j;
                      class-b = at class k;
                      first = a.1;
                      second = b.1;
                      differ = λ q. x ((labels_as_classes k j hk hj).1 (sym q));
                    }

            back : Meet (Link m ends) (at parent) d cl u → single m ends label u ≡ true
            back w =
                let a = class-at-link u w.a w.class-a (class-link (site-graph site) rooted.forest w.first)
                w.first in
                let b = class-at-link u w.b w.class-b (class-link (site-graph site) rooted.forest w.second)
                w.second in
                let x : at label b.0 ≡ at label a.0 →
                ⊥ = λ q. w.differ (sym a.3 ∙ sym ((labels_as_classes b.0 a.0 b.1 a.1).0 q) ∙ b.3) in
                (some-exact m outer).1 (
                  a.0,
                  a.1,
                  and-true (touches ends u a.0) (some m (inner a.0)) (link-touches u w.a a.0 a.2)
                      ((some-exact m (inner a.0)).1 (
                        b.0,
                        b.1,
                        and-true (touches ends u b.0) (not (eqb (at label b.0) (at label a.0)))
                            (link-touches u w.b b.0 b.2)
                            ((not_exact (eqb (at label b.0) (at label a.0))
                            (eq_exact (at label b.0) (at label a.0))).1 x),
                      )),
                )

        pub labels_right : Right n m ends label
        labels_right =
            record {
              together = together;
              firsts = label_first;
              bridges = bridges;
              cuts = λ u h. (
                λ e. (articulation (site-graph site) rooted.forest classes).0 ((meet-exact u).0 e),
                λ a. (meet-exact u).1 ((articulation (site-graph site) rooted.forest classes).1 a),
              );
            }
