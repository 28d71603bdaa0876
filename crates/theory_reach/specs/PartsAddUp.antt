-- T-14: over all labels, the units that a label's links touch, less one, and the groups add up to the units. A tree
-- link is counted by the label of its class, once; a label's links touch one unit more than its class has tree links;
-- the units without a tree link are the groups' colour units.
use Rattle.std.proofs.Math.Path.{◌≡◌, sym, ap}
use Rattle.std.specs.Prelude.{refl, Bool, true, ◌&&◌, ◌||◌, ◌⊎◌, ◌↔◌, ◌≢◌, List, ℕ, zero, suc, ◌+◌, ◌-◌, ◌≤◌, ◌<◌, ltb}
use Rattle.std.proofs.Common.{◌∙◌, inl, inr, eqb-true, eq-eqb, ne_eqb, lt-ltb}
use Rattle.std.proofs.Math.Bool.{false, cond, not}
use Rattle.std.proofs.Math.Decide.{ℕ_discrete, dec_lt}
use native.Mathlib.Omega.{arith}
use Rattle.std.proofs.Math.Dec.{eqb}
use Rattle.std.proofs.lemmas.Bool.{eqb-false}
use Rattle.base_lists.specs.Tests.{either, and_exact, and_left, and_right, and-true, not_both, refuted, same_test}
use Rattle.base_lists.specs.Tests.{cond_true, cond_false}
use Rattle.base_lists.specs.Folds.{sum, count, some}
use Rattle.base_lists.specs.Some.{some-exact}
use Rattle.base_lists.specs.Sums.{sum_cong, sum_swap, sum_one, sum_zero}
use Rattle.base_lists.specs.Counts.{count_cong}
use Rattle.table.specs.Table.{end_a, end_b}
use Rattle.spec_rules.specs.Basics.{ABSENT, at, is_root}
use Rattle.spec_rules.specs.BoundLaws.{eq_exact}
use Rattle.spec_rules.specs.Labels.{naming_unit, label_of, touches}
use Rattle.spec_machine.specs.Parts.{touched_by, touched, is_label, parts, groups}
use Rattle.theory_graph.specs.Rings.{SameLink}
use Rattle.theory_graph.specs.Forest.{Classes, ClassOf, lower, upper, first, second}
use Rattle.theory_graph.specs.Ancestors.{root_anc}
use Rattle.theory_graph.proofs.Sides.{class-link}
use Rattle.theory_graph.proofs.Blocks.{not_top}
use Rattle.theory_graph.proofs.Touches.{Touches, Names, touched-count}
use Rattle.theory_reach.specs.Site.{Site, Link, link-below, site-graph}
use Rattle.theory_reach.specs.Rooted.{Rooted, root_of, root-exact, nonroot_exact}
use Rattle.theory_reach.specs.Ordered.{Ordered}
use Rattle.theory_reach.specs.LabelsRight.{class_of, label_class, labels_as_classes, class-at-link, at_unit}
use Rattle.theory_reach.specs.LabelsRight.{link-touches}

-- ---- counts

count-split : (n : ℕ) (p q : ℕ → Bool) → ((i : ℕ) → i < n → q i ≡ not (p i)) → count n p + count n q ≡ n
count-split zero p q h = refl
count-split (suc n) p q h = go (p n) (q n) (h n (omega arith)) (count-split n p q (λ i l. h i (omega arith)))
  where
    go : (a b : Bool) → b ≡ not a → count n p + count n q ≡ n →
        (count n p + cond a 1 0) + (count n q + cond b 1 0) ≡ suc n
    go true b e k = rw e (omega arith)
    go false b e k = rw e (omega arith)

module _
    {n m : ℕ} {ends color parent nd pre : List ℕ} {d : ℕ → ℕ}
    (site : Site n m ends) (rooted : Rooted n m ends color parent d) (ordered : Ordered n parent nd pre d)
    {cl : ℕ → ℕ} (classes : Classes (Link m ends) (at parent) d cl)
    (class label : List ℕ)
    (class-is : (j : ℕ) → j < m → at class j ≡ cl (naming_unit parent pre (end_a ends j) (end_b ends j)))
    (Label-is : (j : ℕ) → j < m → at label j ≡ label_of m class j)
  where
    -- v names a tree link of the class of link j
    named : ℕ → ℕ → Bool
    named j v = not (is_root parent v) && eqb (cl v) (at class j)

    named-exact : (j v : ℕ) → v < n → (named j v ≡ true) ↔ Names d cl (at class j) v
    unfolding named
    named-exact j v l = and_exact (not (is_root parent v)) (eqb (cl v) (at class j)) (nonroot_exact rooted v l)
        (eq_exact (cl v) (at class j))

    -- what a class touches, by its label
    touched-exact : (j : ℕ) → j < m → at label j ≡ j → (x : ℕ) →
        (touched_by m ends label j x ≡ true) ↔ Touches (Link m ends) (at parent) d cl (at class j) x
    touched-exact j hj own x = (λ e. there ((some-exact m test).0 e), back)
      where
        test : ℕ → Bool
        test k = eqb (at label k) j && touches ends x k

        there : (k : ℕ) × (k < m) × (test k ≡ true) → Touches (Link m ends) (at parent) d cl (at class j) x
        there (k, hk, e) =
            let same : at class k ≡ at class j =
            (labels_as_classes site rooted ordered classes class label class-is Label-is k j hk hj).0
            (eqb-true (at label k) j (and_left (eqb (at label k) j) (touches ends x k) e) ∙ sym own) in
            rw same at (at_unit site rooted ordered classes class label class-is Label-is x k hk
            (and_right (eqb (at label k) j) (touches ends x k) e))

        back : Touches (Link m ends) (at parent) d cl (at class j) x → touched_by m ends label j x ≡ true
        back (y, c) =
            let w = class-at-link site rooted ordered classes class label class-is Label-is x y (at class j)
            (class-link (site-graph site) rooted.forest c) c in
            let k : ℕ = w.0 in
            let e : at label k ≡ j = (labels_as_classes site rooted ordered classes class label class-is Label-is k j
            w.1 hj).1 w.3 ∙ own in
            (some-exact m test).1 (
              k,
              w.1,
              and-true (eqb (at label k) j) (touches ends x k) (eq-eqb (at label k) j e)
                  (link-touches site rooted ordered classes class label class-is Label-is x y k w.2),
            )

    -- a link's class is that of a tree link
    tree_of : {u v c : ℕ} → ClassOf (Link m ends) (at parent) d cl u v c → (w : ℕ) × Names d cl c w
    tree_of {u} (lower h e f) = (u, (h, sym f))
    tree_of {v = v} (upper h e f) = (v, (h, sym f))
    tree_of {u} {v} (first o k f) = (u, (not_top (site-graph site) rooted.forest u v o.link k, sym f))
    tree_of {u} {v} (second o k f) = (
      v,
      (not_top (site-graph site) rooted.forest v u ((site-graph site).flip u v o.link) k, sym f),
    )

    -- units touched less one: the tree links of the class
    part : (j : ℕ) → j < m → at label j ≡ j → touched n m ends label j - 1 ≡ count n (named j)
    part j hj own =
        let w = tree_of (class_of site rooted ordered classes class label class-is Label-is j hj) in
        omega (
          arith,
          touched-count (site-graph site) rooted.forest classes n (at class j) w.0 (touched_by m ends label j)
              (named j) w.1
              (λ u v l. (link-below site u v l).0) (λ x l. touched-exact j hj own x) (λ x l. named-exact j x l),
        )

    -- a label j counts v: it is the label of v's tree link
    counts : ℕ → ℕ → Bool
    counts j v = is_label label j && named j v

    row : (j : ℕ) → j < m → cond (is_label label j) (touched n m ends label j - 1) 0
        ≡ sum n (λ (v : ℕ). cond (counts j v) 1 0)
    unfolding counts
    row j hj = go (either (is_label label j))
      where
        go : (is_label label j ≡ true) ⊎ (is_label label j ≡ false) →
            cond (is_label label j) (touched n m ends label j - 1) 0 ≡ count n (counts j)
        go (inl e) =
            cond_true (is_label label j) (touched n m ends label j - 1) 0 e ∙ part j hj (eqb-true (at label j) j e)
            ∙ count_cong n (named j) (counts j)
            (λ i l. same_test (named j i) (counts j i) (λ t. and-true (is_label label j) (named j i) e t)
            (λ t. and_right (is_label label j) (named j i) t))
        go (inr e) =
            cond_false (is_label label j) (touched n m ends label j - 1) 0 e
            ∙ sym (sum_zero n (λ (v : ℕ). cond (counts j v) 1 0)
            (λ i l. cond_false (counts j i) 1 0
            (refuted (counts j i) (λ t. not_both (is_label label j) (and_left (is_label label j) (named j i) t) e))))

    -- each unit below a root is counted by one label, a root by none
    column : (v : ℕ) → v < n → sum m (λ (j : ℕ). cond (counts j v) 1 0) ≡ cond (not (is_root parent v)) 1 0
    unfolding counts named
    column v hv = go (either (not (is_root parent v)))
      where
        none : not (is_root parent v) ≡ false → (j : ℕ) → j < m → ◌≡◌ {A = ℕ} (cond (counts j v) 1 0) 0
        none e j l = cond_false (counts j v) 1 0
            (refuted (counts j v) (λ t. not_both (not (is_root parent v))
            (and_left (not (is_root parent v)) (eqb (cl v) (at class j)) (and_right (is_label label j) (named j v) t))
            e))

        go : (not (is_root parent v) ≡ true) ⊎ (not (is_root parent v) ≡ false) →
            sum m (λ (j : ℕ). cond (counts j v) 1 0) ≡ cond (not (is_root parent v)) 1 0
        go (inr e) = sum_zero m (λ (j : ℕ). cond (counts j v) 1 0) (none e)
            ∙ sym (cond_false (not (is_root parent v)) 1 0 e)
        go (inl e) =
            sum_one m (λ (j : ℕ). cond (counts j v) 1 0) j hj only
            ∙ cond_true (counts j v) 1 0
            (and-true (is_label label j) (named j v) (eq-eqb (at label j) j own)
            (and-true (not (is_root parent v)) (eqb (cl v) (at class j)) e (eq-eqb (cl v) (at class j) same)))
            ∙ sym (cond_true (not (is_root parent v)) 1 0 e)
          where
            h : 0 < d v
            h = (nonroot_exact rooted v hv).0 e

            -- the link from v to its parent
            link : (k : ℕ) × (k < m) × SameLink (end_a ends k) (end_b ends k) v (at parent v) × (at class k ≡ cl v)
            link = class-at-link site rooted ordered classes class label class-is Label-is v (at parent v) (cl v)
                (rooted.forest.link v h) (lower h refl refl)

            k : ℕ
            k = link.0

            j : ℕ
            j = label_of m class k

            hj : j < m
            hj = (label_class site rooted ordered classes class label class-is Label-is k link.1).0

            class-j : at class j ≡ at class k
            class-j = (label_class site rooted ordered classes class label class-is Label-is k link.1).1

            own : at label j ≡ j
            own = (labels_as_classes site rooted ordered classes class label class-is Label-is j k hj
                link.1).1 class-j ∙ Label-is k link.1

            same : cl v ≡ at class j
            same = sym link.3 ∙ sym class-j

            only : (i : ℕ) → i < m → i ≢ j → ◌≡◌ {A = ℕ} (cond (counts i v) 1 0) 0
            only i hi ne = cond_false (counts i v) 1 0 (refuted (counts i v) (λ t. ne (equal t)))
              where
                equal : counts i v ≡ true → i ≡ j
                equal t =
                    let q : at label i ≡ i = eqb-true (at label i) i (and_left (is_label label i) (named i v) t) in
                    let c : cl v ≡ at class i =
                    eqb-true (cl v) (at class i)
                    (and_right (not (is_root parent v)) (eqb (cl v) (at class i))
                    (and_right (is_label label i) (named i v) t)) in
                    sym q ∙ (labels_as_classes site rooted ordered classes class label class-is Label-is i j hi hj).1
                    (sym c ∙ same) ∙ own

    -- roots are the units that equal their colour
    root_color : (v : ℕ) → v < n → eqb (at color v) v ≡ is_root parent v
    root_color v l = same_test (eqb (at color v) v) (is_root parent v) to from
      where
        e : root_of n color v ≡ at color v
        e = cond_true (ltb v n) (at color v) v (lt-ltb v n l)

        to : eqb (at color v) v ≡ true → is_root parent v ≡ true
        to t = (root-exact rooted v l).1 (ap d (sym (e ∙ eqb-true (at color v) v t)) ∙ (root_anc rooted.forest v).1)

        from : is_root parent v ≡ true → eqb (at color v) v ≡ true
        from t = eq-eqb (at color v) v (sym e ∙ rooted.forest.top v ((root-exact rooted v l).0 t))

    pub parts-add_up : parts n m ends label + groups n color ≡ n
    unfolding parts groups
    parts-add_up =
        let f : parts n m ends label ≡ sum m (λ (j : ℕ). sum n (λ (v : ℕ). cond (counts j v) 1 0)) =
        sum_cong m _ _ row in
        let g : sum n (λ (v : ℕ). sum m (λ (j : ℕ). cond (counts j v) 1 0))
        ≡ count n (λ (v : ℕ). not (is_root parent v)) = sum_cong n _ _ column in
        let s = sum_swap m n (λ (j v : ℕ). cond (counts j v) 1 0) in
        omega (
          arith,
          f,
          g,
          s,
          count-split n (λ (v : ℕ). eqb (at color v) v) (λ (v : ℕ). not (is_root parent v))
              (λ i l. ap not (sym (root_color i l))),
        )
