-- The neighbour after, from the tables of the scan: a tree neighbour is a child or the parent, and the least of both
-- kinds is the lesser of two.
use Rattle.std.specs.Prelude.{◌≡◌, Bool, true, false, cond, ◌&&◌, ◌||◌, ◌⊎◌, List, leb, length}
use Rattle.std.proofs.Math.Path.{refl, ap₂}
use Rattle.std.proofs.Common.{sym, ◌∙◌, inl, inr, le_antisymm, add-one, arith, ltb-true, le-leb, eqb-true, eq-eqb}
use Rattle.std.proofs.Common.{ne_eqb}
use Prim.Native.Nat.{ℕ, zero, suc, ◌+◌, ◌*◌, ◌≤◌, ◌<◌, min}
use Rattle.std.proofs.Math.Decide.{ℕ_discrete}
use Rattle.std.proofs.Math.Dec.{eqb, ltb}
use Rattle.base_lists.specs.Folds.{every}
use Rattle.base_lists.specs.All.{every-at}
use Rattle.base_lists.specs.LeastLaws.{least_start, least_le, least-greatest}
use Rattle.base_lists.specs.Tests.{or_cases}
use Rattle.spec_rules.specs.Basics.{ABSENT, at}
use Rattle.spec_rules.specs.Bounds.{name_ok}
use Rattle.spec_rules.specs.Tour
use Rattle.spec_rules.specs.TourLaws.{stored_next, next_in_root, next-out-root, next_in_arc, next-out-arc}
use Rattle.stage03_tour.specs.Firsts.{first, first_from, from_start, first-same}
use Rattle.stage03_tour.specs.Siblings.{is_child, is_past, Eldest, Past, Later}

-- what the code of a round relies on: each parent of the table is one of n units or absent
abbrev pub Parents : ℕ → List ℕ → Type 0
Parents n parent = (n ≤ 256) × ((length parent ≡ 256) × (every (name_ok n) parent ≡ true))

module _ (n : ℕ) (parent : List ℕ) (fit : Parents n parent) (v : ℕ) (below : v < n) where
  kept : name_ok n (at parent v) ≡ true
  kept = every-at (name_ok n) parent v 0 fit.1.1 (omega (arith, below, fit.0, fit.1.0))

  pub unit-of : (at parent v ≡ ABSENT → ⊥) → at parent v < n
  unit-of e = go (or_cases (ltb (at parent v) n) (eqb (at parent v) ABSENT) kept)
    where
      go : (ltb (at parent v) n ≡ true) ⊎ (eqb (at parent v) ABSENT ≡ true) → at parent v < n
      go (inl h) = ltb-true (at parent v) n h
      go (inr h) = absurd (e (eqb-true (at parent v) ABSENT h))

-- ---- the first of two kinds

-- the lesser where one is at hand, with what came before
two_kinds : (a b : Bool) (x y k : ℕ) → x ≤ ABSENT → y ≤ ABSENT
    → min (min x y) (cond (a || b) k ABSENT) ≡ min (min x (cond a k ABSENT)) (min y (cond b k ABSENT))
two_kinds true true x y k h l = omega arith
two_kinds true false x y k h l = omega arith
two_kinds false true x y k h l = omega arith
two_kinds false false x y k h l = omega arith

first_or : (n : ℕ) (p q : ℕ → Bool) → first n (λ (w : ℕ). p w || q w) ≡ min (first n p) (first n q)
first_or zero p q = omega arith
first_or (suc n) p q =
    rw (first_or n p q)
    (two_kinds (p n) (q n) (first n p) (first n q) n (least_start n (λ (w : ℕ). cond (p w) w ABSENT) ABSENT)
    (least_start n (λ (w : ℕ). cond (q w) w ABSENT) ABSENT))

-- ---- the parent alone

chosen_le : (b : Bool) (x : ℕ) → x ≤ ABSENT → cond b x ABSENT ≤ ABSENT
chosen_le true x h = h
chosen_le false x h = omega arith

absent-either : (b : Bool) (x : ℕ) → x ≡ ABSENT → cond b x ABSENT ≡ ABSENT
absent-either true x e = e
absent-either false x e = refl

-- g itself, if it passes; absent where it is absent
module _ (n g : ℕ) (p : ℕ → Bool) (small : n ≤ ABSENT) where
  abbrev one : ℕ → ℕ
  one w = cond (eqb g w && p w) w ABSENT

  lower : g ≤ ABSENT → (w : ℕ) → Dec (g ≡ w) → cond (p g) g ABSENT ≤ one w
  lower h w (yes e) = rw (eq-eqb g w e, e) (omega arith)
  lower h w (no e) = rw (ne_eqb g w e) (chosen_le (p g) g h)

  kept-go : (ltb g n ≡ true) ⊎ (eqb g ABSENT ≡ true) → first n (λ (w : ℕ). eqb g w && p w) ≡ cond (p g) g ABSENT
  kept-go (inl e) =
      let h : g < n = ltb-true g n e in
      le_antisymm (rw (eq-eqb g g refl) at (least_le n one ABSENT g h))
      (least-greatest n one ABSENT (cond (p g) g ABSENT) (chosen_le (p g) g (omega arith))
      (λ (w : ℕ) (l : w < n). lower (omega arith) w (ℕ_discrete g w)))
  kept-go (inr e) =
      let a : g ≡ ABSENT = eqb-true g ABSENT e in
      let same : cond (p g) g ABSENT ≡ ABSENT = absent-either (p g) g a in
      le_antisymm (rw same (least_start n one ABSENT))
      (least-greatest n one ABSENT (cond (p g) g ABSENT) (chosen_le (p g) g (omega (arith, a)))
      (λ (w : ℕ) (l : w < n). lower (omega (arith, a)) w (ℕ_discrete g w)))

  first-own : name_ok n g ≡ true → first n (λ (w : ℕ). eqb g w && p w) ≡ cond (p g) g ABSENT
  first-own kept = kept-go (or_cases (ltb g n) (eqb g ABSENT) kept)

-- ---- the neighbours of v

spread : (a b c : Bool) → ((a || b) && c) ≡ ((c && a) || (b && c))
spread true b true = refl
spread true true false = refl
spread true false false = refl
spread false true true = refl
spread false true false = refl
spread false false true = refl
spread false false false = refl

or_own : (a b : Bool) → (a || b) ≡ (a || (b && true))
or_own true b = refl
or_own false true = refl
or_own false false = refl

and_swap : (a c : Bool) → (a && c) ≡ (c && a)
and_swap true true = refl
and_swap true false = refl
and_swap false true = refl
and_swap false false = refl

-- the neighbour after u, from the first child past u, the first child, and the parent
abbrev pub turn_to : ℕ → ℕ → ℕ → ℕ → ℕ
turn_to later eldest own u =
    cond (eqb (min later (cond (ltb u own) own ABSENT)) ABSENT) (min eldest own)
    (min later (cond (ltb u own) own ABSENT))

module _ (n : ℕ) (parent : List ℕ) (v : ℕ) (small : n ≤ ABSENT) (kept : name_ok n (at parent v) ≡ true) where
  greater-by : (u : ℕ) → Tour.greater_neighbor n parent v u
      ≡ min (first_from n (u + 1) (is_child parent v)) (cond (ltb u (at parent v)) (at parent v) ABSENT)
  unfolding Tour.greater_neighbor first_from
  greater-by u =
      rw (add-one u)
      (first-same n (λ (w : ℕ). Tour.tree_neighbor parent v w && ltb u w)
      (λ (w : ℕ). (ltb u w && is_child parent v w) || (eqb (at parent v) w && ltb u w))
      (λ (w : ℕ) (l : w < n). spread (eqb (at parent w) v) (eqb (at parent v) w) (ltb u w))
      ∙ first_or n (λ (w : ℕ). ltb u w && is_child parent v w) (λ (w : ℕ). eqb (at parent v) w && ltb u w)
      ∙ ap₂ min refl (first-own n (at parent v) (λ (w : ℕ). ltb u w) small kept))

  least_by : Tour.least_neighbor n parent v ≡ min (first_from n 0 (is_child parent v)) (at parent v)
  unfolding Tour.least_neighbor
  least_by =
      first-same n (Tour.tree_neighbor parent v) (λ (w : ℕ). is_child parent v w || (eqb (at parent v) w && true))
      (λ (w : ℕ) (l : w < n). or_own (eqb (at parent w) v) (eqb (at parent v) w))
      ∙ first_or n (is_child parent v) (λ (w : ℕ). eqb (at parent v) w && true)
      ∙ ap₂ min (sym (from_start n (is_child parent v))) (first-own n (at parent v) (λ (w : ℕ). true) small kept)

  turn-right : (u later eldest : ℕ) → later ≡ first_from n (u + 1) (is_child parent v) →
      eldest ≡ first_from n 0 (is_child parent v)
      → turn_to later eldest (at parent v) u ≡ Tour.neighbor_after n parent v u
  unfolding Tour.neighbor_after
  turn-right u later eldest e f = rw (greater-by u, least_by, e, f)

-- the first child past the parent
past-from : (n : ℕ) (parent : List ℕ) (v : ℕ) →
    first_from n 0 (is_past parent v) ≡ first_from n (at parent v + 1) (is_child parent v)
unfolding first_from
past-from n parent v =
    rw (add-one (at parent v))
    (first-same n (λ (w : ℕ). leb 0 w && is_past parent v w) (λ (w : ℕ). ltb (at parent v) w && is_child parent v w)
    (λ (w : ℕ) (l : w < n). rw (le-leb 0 w (omega arith)) (and_swap (eqb (at parent w) v) (ltb (at parent v) w))))

-- ---- the followers, as a word holds them

-- of the arc into v
abbrev pub in_by : List ℕ → List ℕ → List ℕ → ℕ → ℕ
in_by parent eldest past v =
    cond (eqb (at parent v) ABSENT) ABSENT
    (min (Tour.arc_from parent v (turn_to (at past v) (at eldest v) (at parent v) (at parent v))) ABSENT)

-- of the arc out of v
abbrev pub out_by : List ℕ → List ℕ → List ℕ → ℕ → ℕ
out_by parent eldest later v =
    cond (eqb (at parent v) ABSENT) ABSENT
    (min (Tour.arc_from parent (at parent v) (turn_to (at later v) (at eldest (at parent v)) (at parent (at parent v))
    v))
    ABSENT)

module _ (n : ℕ) (parent eldest later past : List ℕ) (fit : Parents n parent) (eldests : Eldest 256 n 0 parent eldest)
    (laters : Later n 0 parent later) (pasts : Past n 0 parent past) (v : ℕ) (below : v < n) where
  pub in_right : in_by parent eldest past v ≡ stored_next n parent (2 * v)
  in_right = go (ℕ_discrete (at parent v) ABSENT)
    where
      go : Dec (at parent v ≡ ABSENT) → in_by parent eldest past v ≡ stored_next n parent (2 * v)
      go (yes e) = rw (eq-eqb (at parent v) ABSENT e) (next_in_root n parent v e)
      go (no e) =
          let turn = turn-right n parent v (omega (arith, fit.0)) (kept n parent fit v below) (at parent v) (at past v)
          (at eldest v)
          (pasts v (omega (arith, fit.0)) ∙ past-from n parent v) (eldests v (omega (arith, fit.0))) in
          rw (ne_eqb (at parent v) ABSENT e, turn) (next_in_arc n parent v e _ refl)

  pub out-right : out_by parent eldest later v ≡ stored_next n parent (2 * v + 1)
  out-right = go (ℕ_discrete (at parent v) ABSENT)
    where
      go : Dec (at parent v ≡ ABSENT) → out_by parent eldest later v ≡ stored_next n parent (2 * v + 1)
      go (yes e) = rw (eq-eqb (at parent v) ABSENT e) (next-out-root n parent v e)
      go (no e) =
          let h : at parent v < n = unit-of n parent fit v below e in
          let turn = turn-right n parent (at parent v) (omega (arith, fit.0)) (kept n parent fit (at parent v) h) v
          (at later v) (at eldest (at parent v))
          (laters v (omega arith) below (omega (arith, fit.0)) (omega (arith, fit.0)))
          (eldests (at parent v) (omega (arith, fit.0))) in
          rw (ne_eqb (at parent v) ABSENT e, turn) (next-out-arc n parent v e _ refl)
