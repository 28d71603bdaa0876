-- The predecessors, as code makes them: the first item with a key is the last that a scan down stores, and where a root
-- has no arc its start does not count.
use Rattle.std.specs.Prelude.{◌≡◌, refl, cond, not, ◌&&◌, List, ℕ, ◌+◌, ◌*◌, ◌≤◌, ◌<◌, min, eqb, get_or}
use Rattle.std.proofs.Common.{◌∙◌, arith, lt-ltb, eq-eqb, ne_eqb}
use Rattle.std.proofs.Math.Decide.{ℕ_discrete}
use Rattle.spec_rules.specs.Basics.{ABSENT, at, is_root}
use Rattle.spec_rules.specs.Buckets.{BUCKETS, lookup}
use Rattle.spec_rules.specs.FirstLaws.{first_at}
use Rattle.spec_rules.specs.Tour
use Rattle.spec_rules.specs.TourLaws.{pred_in, pred_out, unit-into, unit-out, pred_in_lem, pred_out_lem}
use Rattle.stage03_tour.specs.Firsts.{from_start}
use Rattle.stage03_tour.specs.Siblings.{Eldest, is_child}
use Rattle.stage03_tour.specs.Neighbors.{Parents, unit-of}

-- a scan's end
pub first_by : (n : ℕ) (key t : List ℕ) → Eldest BUCKETS n 0 key t → (q : ℕ) → q < BUCKETS →
    get_or t q 0 ≡ first_at n key q
unfolding first_at
first_by n key t known q h = known q h ∙ from_start n (is_child key q)

-- of the arc into v: it starts its list as the first child of a root
abbrev pub into_by : List ℕ → List ℕ → List ℕ → ℕ → ℕ
into_by parent child first v =
    cond (not (is_root parent v) && not (is_root parent (at parent v) && eqb (at child (at parent v)) v))
    (at first (2 * v)) ABSENT

into-same : (n : ℕ) (parent child first : List ℕ) (lost v : ℕ) → Parents n parent → v < n → Dec (at parent v ≡ ABSENT)
    → into_by parent child first v ≡ pred_in n parent child lost first v
unfolding lookup
into-same n parent child first lost v fit h (yes e) = rw (eq-eqb (at parent v) ABSENT e)
into-same n parent child first lost v fit h (no e) =
    rw (ne_eqb (at parent v) ABSENT e, lt-ltb (at parent v) BUCKETS (omega (arith, unit-of n parent fit v h e, fit.0)))

module _ (n : ℕ) (parent next child first : List ℕ) (fit : Parents n parent)
    (children : (q : ℕ) → q < BUCKETS → get_or child q 0 ≡ first_at n parent q)
    (firsts : (q : ℕ) → q < BUCKETS → get_or first q 0 ≡ first_at (2 * n) next q) (v : ℕ) (below : v < n) where
  small : n ≤ ABSENT
  small = omega (arith, fit.0)

  -- so many arcs are counted by a word
  known : (q : ℕ) → q < BUCKETS → get_or first q 0 ≡ first_at (min (2 * n) ABSENT) next q
  known q h = let e : min (2 * n) ABSENT ≡ 2 * n = omega (arith, fit.0) in rw e (firsts q h)

  pub into-right : into_by parent child first v ≡ Tour.predecessor n parent next (2 * v)
  into-right =
      into-same n parent child first (first_at n parent ABSENT) v fit below (ℕ_discrete (at parent v) ABSENT)
      ∙ pred_in_lem n parent next child first (first_at n parent ABSENT) small children refl known v
      (omega (arith, fit.0))

  pub out-right : pred_out parent first v ≡ Tour.predecessor n parent next (2 * v + 1)
  out-right = pred_out_lem n parent next child first (first_at n parent ABSENT) small children refl known v
      (omega (arith, fit.0))

-- both arcs of a unit begin alike
pub sum-into : (parent : List ℕ) (v : ℕ) → cond (not (is_root parent v)) 1 0 ≡ Tour.first_sum parent (2 * v)
sum-into parent v = rw (unit-into v)

pub sum-out : (parent : List ℕ) (v : ℕ) → cond (not (is_root parent v)) 1 0 ≡ Tour.first_sum parent (2 * v + 1)
sum-out parent v = rw (unit-out v)
