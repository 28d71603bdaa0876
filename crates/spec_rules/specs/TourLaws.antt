-- Stage 3 as code makes it: both arcs of a unit in one turn, predecessors and starts by buckets.
use Rattle.std.specs.Prelude.{◌≡◌, refl, Bool, true, false, not, ◌&&◌, List, ℕ, ◌+◌, ◌*◌, ◌/◌, ◌%◌, ◌≤◌, ◌<◌, min, eqb}
use Rattle.std.specs.Prelude.{get_or}
use Rattle.std.proofs.Common.{sym, ap, ◌∙◌, arith}
use Rattle.std.proofs.Math.Bool.{cond, and-true, or-false}
use borrow.Author.Tests.{eqb-true, eq-eqb, ne_eqb}
use Rattle.base_lists.specs.Tables.{over}
use Rattle.base_lists.specs.Folds.{least}
use Rattle.base_lists.specs.FoldLaws.{fold_cong}
use Rattle.spec_rules.specs.Basics.{ABSENT, at, is_root}
use Rattle.spec_rules.specs.Buckets.{BUCKETS, lookup, lookup-right}
use Rattle.spec_rules.specs.FirstLaws.{first_at, first_clamp}
use Rattle.spec_rules.specs.Tour

-- ---- the two arcs of v

pub unit-into : (v : ℕ) → 2 * v / 2 ≡ v
unit-into v = omega arith

pub unit-out : (v : ℕ) → (2 * v + 1) / 2 ≡ v
unit-out v = omega arith

pub even-into : (v : ℕ) → 2 * v % 2 ≡ 0
even-into v = omega arith

pub odd-out : (v : ℕ) → (2 * v + 1) % 2 ≡ 1
odd-out v = omega arith

-- ---- followers, as a word holds them

abbrev pub stored_next : ℕ → List ℕ → ℕ → ℕ
stored_next n parent a = min (Tour.follower n parent a) ABSENT

-- round one; a follower that no word holds, which no state has, is stored as absent
unfoldable pub next_stored : ℕ → List ℕ → List ℕ → List ℕ
next_stored n parent next = over (2 * n) (stored_next n parent) next

module _ (n : ℕ) (parent : List ℕ) (v : ℕ) where
  pub next_in_root : at parent v ≡ ABSENT → ABSENT ≡ stored_next n parent (2 * v)
  unfolding Tour.follower
  next_in_root e = rw (unit-into v, eq-eqb (at parent v) ABSENT e) (omega arith)

  pub next-out-root : at parent v ≡ ABSENT → ABSENT ≡ stored_next n parent (2 * v + 1)
  unfolding Tour.follower
  next-out-root e = rw (unit-out v, eq-eqb (at parent v) ABSENT e) (omega arith)

  pub next_in_arc : (at parent v ≡ ABSENT → ⊥) → (x : ℕ) → x ≡ min (Tour.arc_after n parent (at parent v) v) ABSENT →
      x ≡ stored_next n parent (2 * v)
  unfolding Tour.follower
  next_in_arc e x is = rw (unit-into v, ne_eqb (at parent v) ABSENT e, even-into v) is

  pub next-out-arc : (at parent v ≡ ABSENT → ⊥) → (x : ℕ) → x ≡ min (Tour.arc_after n parent v (at parent v)) ABSENT
      → x ≡ stored_next n parent (2 * v + 1)
  unfolding Tour.follower
  next-out-arc e x is = rw (unit-out v, ne_eqb (at parent v) ABSENT e, odd-out v) is

-- ---- starts and predecessors by buckets

-- a root's tree neighbours are its children
root-one : (n : ℕ) (parent : List ℕ) (p w : ℕ) → n ≤ ABSENT → at parent p ≡ ABSENT → w < n
    → cond (Tour.tree_neighbor parent p w) w ABSENT ≡ cond (eqb (at parent w) p) w ABSENT
root-one n parent p w small root h =
    let ne : at parent p ≡ w → ⊥ = λ q. omega (arith, q, root) in
    rw (ne_eqb (at parent p) w ne, or-false (eqb (at parent w) p))

root-least : (n : ℕ) (parent : List ℕ) (p : ℕ) → n ≤ ABSENT → at parent p ≡ ABSENT →
    Tour.least_neighbor n parent p ≡ first_at n parent p
unfolding Tour.least_neighbor first_at
root-least n parent p small root =
    fold_cong min n (λ (w : ℕ). cond (Tour.tree_neighbor parent p w) w ABSENT)
    (λ (w : ℕ). cond (eqb (at parent w) p) w ABSENT) ABSENT
    (λ (w : ℕ) (h : w < n). root-one n parent p w small root h)

-- v is its parent's first child, and the parent a root
abbrev pub start_by : ℕ → List ℕ → List ℕ → ℕ → ℕ → Bool
start_by n parent child lost v =
    is_root parent (at parent v) && eqb (lookup (first_at n parent) child lost (at parent v)) v

abbrev pub pred_in : ℕ → List ℕ → List ℕ → ℕ → List ℕ → ℕ → ℕ
pred_in n parent child lost first v = cond (not (is_root parent v) && not (start_by n parent child lost v))
    (at first (2 * v)) ABSENT

abbrev pub pred_out : List ℕ → List ℕ → ℕ → ℕ
pred_out parent first v = cond (not (is_root parent v)) (at first (2 * v + 1)) ABSENT

module _ (n : ℕ) (parent next child first : List ℕ) (lost : ℕ) (small : n ≤ ABSENT)
    (children : (q : ℕ) → q < BUCKETS → get_or child q 0 ≡ first_at n parent q) (orphans : lost
    ≡ first_at n parent ABSENT)
    (firsts : (q : ℕ) → q < BUCKETS → get_or first q 0 ≡ first_at (min (2 * n) ABSENT) next q) where
  start-go : (v : ℕ) (b : Bool) → is_root parent (at parent v) ≡ b
      → (b && eqb (lookup (first_at n parent) child lost (at parent v)) v)
      ≡ (b && eqb (Tour.least_neighbor n parent (at parent v)) v)
  start-go v true e =
      rw (
        lookup-right (first_at n parent) child lost children orphans (at parent v),
        root-least n parent (at parent v) small (eqb-true (at parent (at parent v)) ABSENT e),
      )
  start-go v false e = refl

  start-same : (v : ℕ) → start_by n parent child lost v ≡ Tour.is_start n parent (2 * v)
  unfolding Tour.is_start
  start-same v = rw (unit-into v, even-into v) (start-go v (is_root parent (at parent v)) refl)

  first-same : (q : ℕ) → q < BUCKETS → get_or first q 0
      ≡ least (2 * n) (λ (b : ℕ). cond (eqb (at next b) q) b ABSENT) ABSENT
  unfolding first_at
  first-same q h = firsts q h ∙ first_clamp (2 * n) next q

  pub pred_in_lem : (v : ℕ) → 2 * v < BUCKETS → pred_in n parent child lost first v
      ≡ Tour.predecessor n parent next (2 * v)
  unfolding Tour.predecessor
  pred_in_lem v h = rw (start-same v, first-same (2 * v) h, unit-into v)

  pub pred_out_lem : (v : ℕ) → 2 * v + 1 < BUCKETS → pred_out parent first v
      ≡ Tour.predecessor n parent next (2 * v + 1)
  unfolding Tour.predecessor Tour.is_start
  pred_out_lem v h = rw (
    unit-out v,
    odd-out v,
    first-same (2 * v + 1) h,
  ) (ap (λ (b : Bool). cond b
      (least (2 * n) (λ (b : ℕ). cond (eqb (at next b) (2 * v + 1)) b ABSENT) ABSENT) ABSENT)
      (sym (and-true (not (is_root parent v)))))
