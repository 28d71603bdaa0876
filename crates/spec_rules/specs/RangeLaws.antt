-- Stage 7 as code makes it: local values by one pass over the links, places by buckets, and a round's moves by the
-- segments' length.
use Rattle.std.specs.Prelude.{◌≡◌, refl, Bool, true, false, cond, ◌&&◌, ◌⊎◌, List, ℕ, ◌+◌, ◌-◌, ◌≤◌, ◌<◌, min, length}
use Rattle.std.specs.Prelude.{get_or}
use Rattle.std.proofs.Common.{sym, subst, inl, inr, arith, leb-true, eq-eqb}
use Rattle.std.proofs.Math.Nat.{le_antisymm}
use Rattle.std.proofs.Math.Numerals.{add-one}
use Rattle.std.proofs.Math.Dec.{eqb, leb}
use Rattle.base_lists.specs.Tests.{and_right}
use Rattle.base_lists.specs.Tables.{over, over_cong, get_d_over}
use Rattle.base_lists.specs.LeastLaws.{least-found}
use Rattle.base_lists.specs.Rounds.{over-same}
use Rattle.base_lists.specs.Scatter.{op_of, fold_again}
use Rattle.table.specs.Table.{max_units, end_a, end_b}
use Rattle.spec_rules.specs.Basics.{ABSENT, at, off_tree}
use Rattle.spec_rules.specs.Buckets.{BUCKETS}
use Rattle.spec_rules.specs.FirstLaws.{first_at}
use Rattle.spec_rules.specs.HeardLaws.{hears, hears-over_if}
use Rattle.spec_rules.specs.Range

-- ---- local values by unit

-- after the first j links
unfoldable pub local_table : Bool → ℕ → List ℕ → List ℕ → List ℕ → List ℕ
local_table g j ends parent pre = over max_units (Range.local_of (op_of g) j ends parent pre) pre

module _ (g : Bool) (ends parent pre : List ℕ) where
  pub local-none : pre ≡ local_table g 0 ends parent pre
  unfolding local_table Range.local_of
  local-none = over-same 0 max_units _ pre (λ (v : ℕ) (l : v < max_units). refl)

  pub local-more : (j : ℕ) (t new : List ℕ) → t ≡ local_table g j ends parent pre
      → new ≡ cond (off_tree parent (end_a ends j) (end_b ends j))
      (hears g max_units pre (end_a ends j) (end_b ends j) t) t
      → new ≡ local_table g (j + 1) ends parent pre
  unfolding local_table Range.local_of
  local-more j t new was put =
      subst (λ (z : ℕ). new ≡ local_table g z ends parent pre) (sym (add-one j)) (rw (put, was)
      (hears-over_if (off_tree parent (end_a ends j) (end_b ends j)) g max_units pre (end_a ends j) (end_b ends j)
      (Range.local_of (op_of g) j ends parent pre) pre
      (λ (v : ℕ). fold_again g j (Range.place_heard ends parent pre v) (at pre v))))

  pub local-all : (j m : ℕ) (t : List ℕ) → length pre ≡ max_units → t ≡ local_table g j ends parent pre → j ≤ m → m ≤ j
      → (v : ℕ) → v < max_units → get_or t v 0 ≡ Range.local_of (op_of g) m ends parent pre v
  unfolding local_table
  local-all j m t full was l h v b =
      rw (
        was,
        get_d_over max_units (Range.local_of (op_of g) j ends parent pre) pre v 0 b (omega arith),
        le_antisymm l h,
      )

-- ---- local values by place

abbrev pub local_by : List ℕ → List ℕ → ℕ → ℕ
local_by first local q = cond (eqb (at first q) ABSENT) 0 (at local (at first q))

abbrev pub begin_by : ℕ → List ℕ → List ℕ → List ℕ → List ℕ → ℕ → ℕ
begin_by n first local nd pre v =
    cond (leb 1 (Range.end_place nd pre v) && leb (Range.end_place nd pre v) n)
    (local_by first local (min (Range.end_place nd pre v - 1) ABSENT)) 0

module _ (op : ℕ → ℕ → ℕ) (n m : ℕ) (ends parent pre first local : List ℕ) (small : n ≤ max_units)
    (units : (q : ℕ) → q < BUCKETS → get_or first q 0 ≡ first_at n pre q)
    (values : (v : ℕ) → v < max_units → get_or local v 0 ≡ Range.local_of op m ends parent pre v) where
  by-go : (u : ℕ) → (u < n) ⊎ (u ≡ ABSENT) →
      cond (eqb u ABSENT) 0 (at local u) ≡ cond (eqb u ABSENT) 0 (Range.local_of op m ends parent pre u)
  by-go u (inl l) = rw (values u (omega arith))
  by-go u (inr e) = rw (eq-eqb u ABSENT e)

  unit-found : (q : ℕ) → (first_at n pre q < n) ⊎ (first_at n pre q ≡ ABSENT)
  unfolding first_at
  unit-found q = least-found n (λ (v : ℕ). eqb (at pre v) q) ABSENT

  local_by_lem : (q : ℕ) → q < BUCKETS → local_by first local q ≡ Range.local_at op n m ends parent pre q
  unfolding Range.local_at Range.unit_at first_at
  local_by_lem q h = rw (units q h) (by-go (first_at n pre q) (unit-found q))

  pub global-first : (global : List ℕ) →
      over n (local_by first local) global ≡ Range.global_first op n m ends parent pre global
  unfolding Range.global_first
  global-first global =
      over_cong n (local_by first local) (Range.local_at op n m ends parent pre) global
      (λ (q : ℕ) (h : q < n). local_by_lem q (omega arith))

  begin-go : (e : ℕ) (b : Bool) → (leb 1 e && leb e n) ≡ b
      → cond b (local_by first local (min (e - 1) ABSENT)) 0 ≡ cond b (Range.local_at op n m ends parent pre (e - 1)) 0
  begin-go e true t =
      let l : e ≤ n = leb-true e n (and_right (leb 1 e) (leb e n) t) in
      let q : min (e - 1) ABSENT ≡ e - 1 = omega arith in
      rw q (local_by_lem (e - 1) (omega arith))
  begin-go e false t = refl

  pub range-first : (nd range : List ℕ) →
      over n (begin_by n first local nd pre) range ≡ Range.range_first op n m ends parent nd pre range
  unfolding Range.range_first
  range-first nd range =
      over_cong n (begin_by n first local nd pre) (Range.range_begin op n m ends parent nd pre) range
      (λ (v : ℕ) (h : v < n).
      begin-go (Range.end_place nd pre v) (leb 1 (Range.end_place nd pre v) && leb (Range.end_place nd pre v) n) refl)
