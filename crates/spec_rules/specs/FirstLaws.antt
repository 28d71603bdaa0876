-- The first item with a key, by buckets: stages 3 (the arc that an arc follows), 7 (the unit at a place) and 10 (a
-- class's least position).
use Rattle.std.specs.Prelude.{◌≡◌, true, ◌⊎◌, List, ℕ, zero, suc, ◌+◌, ◌≤◌, ◌<◌, min, eqb, length, get_or}
use Rattle.std.proofs.Math.Bool.{false, cond}
use Rattle.std.proofs.Common.{sym, subst, inl, inr, le_antisymm, arith}
use Rattle.std.proofs.Math.Decide.{dec_lt}
use Rattle.std.proofs.Math.Numerals.{add-one}
use Rattle.base_lists.specs.Tests.{either}
use Rattle.base_lists.specs.Folds.{least}
use Rattle.base_lists.specs.LeastLaws.{least_start}
use Rattle.base_lists.specs.Rounds.{over-same}
use Rattle.base_lists.specs.Scatter.{takes_in, single-over, fold_again}
use Rattle.spec_rules.specs.Basics.{ABSENT, at}
use Rattle.spec_rules.specs.Buckets.{BUCKETS, bucket_table, bucket_at}

-- the least k below m with that key, absent where there is none
unfoldable pub first_at : ℕ → List ℕ → ℕ → ℕ
first_at m key q = least m (λ (k : ℕ). cond (eqb (at key k) q) k ABSENT) ABSENT

-- ---- the buckets

module _ (key : List ℕ) where
  pub first-none : (old : List ℕ) → ((i : ℕ) → i < BUCKETS → get_or old i 0 ≡ ABSENT) →
      old ≡ bucket_table (first_at 0 key) old
  unfolding bucket_table first_at
  first-none old blank =
      over-same 0 BUCKETS (first_at 0 key) old blank

  pub first_more : (k : ℕ) (old t new : List ℕ) → t ≡ bucket_table (first_at k key) old →
      new ≡ takes_in min BUCKETS t (at key k) k
      → new ≡ bucket_table (first_at (k + 1) key) old
  unfolding bucket_table first_at
  first_more k old t new was put =
      subst (λ (z : ℕ). new ≡ bucket_table (first_at z key) old) (sym (add-one k)) (rw (put, was)
      (single-over false BUCKETS (first_at k key) (λ (q : ℕ). ABSENT) old (at key k) k
      (λ (q : ℕ). fold_again false k (λ (i : ℕ). cond (eqb (at key i) q) i ABSENT) ABSENT)))

  pub first-all : (m k : ℕ) (old t : List ℕ) → length old ≡ BUCKETS → t ≡ bucket_table (first_at k key) old → k ≤ m →
      m ≤ k
      → (q : ℕ) → q < BUCKETS → get_or t q 0 ≡ first_at m key q
  first-all m k old t full was l g q h = rw (was, bucket_at (first_at k key) old full q h, le_antisymm l g)

  -- one key alone
  pub scan_more : (k q x new : ℕ) → x ≡ first_at k key q → new ≡ min x (cond (eqb (at key k) q) k ABSENT) →
      new ≡ first_at (k + 1) key q
  unfolding first_at
  scan_more k q x new was put = rw (put, was, add-one k)

  pub scan_all : (k m q : ℕ) → k ≤ m → m ≤ k → first_at k key q ≡ first_at m key q
  scan_all k m q l g = rw (le_antisymm l g)

-- items past the greatest word cannot be first
first_small : (m : ℕ) (key : List ℕ) (q : ℕ) → first_at m key q ≤ ABSENT
unfolding first_at
first_small m key q = least_start m (λ (k : ℕ). cond (eqb (at key k) q) k ABSENT) ABSENT

first_past : (k : ℕ) (key : List ℕ) (q : ℕ) → ABSENT ≤ k → first_at (suc k) key q ≡ first_at k key q
unfolding first_at
first_past k key q h = go (either (eqb (at key k) q))
  where
    go : (eqb (at key k) q ≡ true) ⊎ (eqb (at key k) q ≡ false)
        → min (least k (λ (i : ℕ). cond (eqb (at key i) q) i ABSENT) ABSENT) (cond (eqb (at key k) q) k ABSENT)
        ≡ least k (λ (i : ℕ). cond (eqb (at key i) q) i ABSENT) ABSENT
    go (inl e) = rw e (omega (arith, first_small k key q))
    go (inr e) = rw e (omega (arith, first_small k key q))

pub first_clamp : (m : ℕ) (key : List ℕ) (q : ℕ) → first_at (min m ABSENT) key q ≡ first_at m key q
first_clamp zero key q = let e : min 0 ABSENT ≡ 0 = omega arith in rw e
first_clamp (suc k) key q = go (dec_lt k ABSENT) (first_clamp k key q)
  where
    go : Dec (k < ABSENT) → first_at (min k ABSENT) key q ≡ first_at k key q →
        first_at (min (suc k) ABSENT) key q ≡ first_at (suc k) key q
    go (yes h) ih = let e : min (suc k) ABSENT ≡ suc k = omega arith in rw e
    go (no h) ih = let e : min (suc k) ABSENT ≡ min k ABSENT =
        omega arith in rw (e, first_past k key q (omega arith)) ih
