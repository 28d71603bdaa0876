-- How many links share a label, one label alone or by a bucket for each.
use Rattle.std.specs.Prelude.{◌≡◌, ℕ, ◌+◌, ◌%◌, ◌<◌, ◌≤◌, cond, List, length, replicate, ◌==◌, ◌≢◌, nat_eq, nat_lt}
use Rattle.std.specs.Prelude.{slice_index, slice_set, refl}
use Rattle.std.proofs.Common.{sym, ◌∙◌, add-one, arith, length-set, get_or-set_same, get_or-set_other}
use Rattle.std.proofs.Math.Decide.{dec_lt, ℕ_discrete}
use Rattle.std.proofs.lemmas.List.{length-replicate, get_or-replicate}
use borrow.Author.Tests.{eq-eqb, ne_eqb, lt-ltb, le-ltb}
use Rattle.base_lists.specs.Folds.{count}
use Rattle.base_lists.specs.Counts.{count_le}
use Rattle.spec_rules.specs.Basics.{ABSENT, at}
use Rattle.spec_rules.specs.Labels.{lone}

-- the links among the first m with this label
unfoldable pub sharing : ℕ → List ℕ → ℕ → ℕ
sharing m label x = count m (λ (k : ℕ). nat_eq (at label k) x)

pub lone-sharing : (m : ℕ) (label : List ℕ) (j : ℕ) → (sharing m label (at label j) == 1) ≡ lone m label j
unfolding sharing lone
lone-sharing m label j = refl

sharing_le : (m : ℕ) (label : List ℕ) (x : ℕ) → sharing m label x ≤ m
unfolding sharing
sharing_le m label x = count_le m (λ (k : ℕ). nat_eq (at label k) x)

pub sharing-none : (label : List ℕ) (x : ℕ) → sharing 0 label x ≡ 0
unfolding sharing
sharing-none label x = refl

pub sharing-more : (k : ℕ) (label : List ℕ) (x : ℕ) →
    sharing k label x + cond (at label k == x) 1 0 ≡ sharing (k + 1) label x
unfolding sharing
sharing-more k label x = rw (add-one k)

pub sharing-other : (k : ℕ) (label : List ℕ) (x : ℕ) → (at label k ≢ x) →
    sharing k label x ≡ sharing (k + 1) label x
sharing-other k label x d = rw (← sharing-more k label x, ne_eqb (at label k) x d) (omega arith)

-- ---- buckets: a label below 1,024 is the number of its bucket

abbrev pub BUCKETS : ℕ
BUCKETS = 1024

-- a table's bucket says how many of the first m links have its label
pub record Shared (m : ℕ) (label bucket : List ℕ) : Type 0 where
  pub long : length bucket ≡ BUCKETS
  pub known : (q : ℕ) → q < BUCKETS → slice_index bucket q ≡ sharing m label q

pub shared_none : (label : List ℕ) → Shared 0 label (replicate BUCKETS 0)
shared_none label = record {
  long = length-replicate {A = ℕ} BUCKETS 0;
  known = λ q h. get_or-replicate BUCKETS q 0 0 h ∙ sym (sharing-none label q);
}

-- one more in bucket q, as a word
abbrev pub counted : List ℕ → ℕ → List ℕ
counted bucket q = slice_set bucket q ((slice_index bucket q + 1) % 65536)

module _ (k : ℕ) (label bucket : List ℕ) (was : Shared k label bucket) (fits : k < ABSENT) where
  one_more : (q : ℕ) → q < BUCKETS → Dec (q ≡ at label k) →
      slice_index (counted bucket (at label k)) q ≡ sharing (k + 1) label q
  one_more q h (yes e) =
      rw (
        ← e,
        get_or-set_same bucket q ((slice_index bucket q + 1) % 65536) 0 (omega (arith, was.long)),
        was.known q h,
        ← sharing-more k label q,
        eq-eqb (at label k) q (sym e),
      ) (omega (arith, sharing_le k label q))
  one_more q h (no e) =
      rw (
        get_or-set_other bucket (at label k) q ((slice_index bucket (at label k) + 1) % 65536) 0 e,
        was.known q h,
        ← sharing-more k label q,
        ne_eqb (at label k) q (λ d. e (sym d)),
      ) (omega arith)

  -- link k is counted
  pub shared_more : Shared (k + 1) label (counted bucket (at label k))
  shared_more = record {
    long = length-set bucket (at label k) ((slice_index bucket (at label k) + 1) % 65536) ∙ was.long;
    known = λ q h. one_more q h (ℕ_discrete q (at label k));
  }

-- a link whose label has no bucket
pub shared_other : (k : ℕ) (label bucket : List ℕ) → Shared k label bucket → BUCKETS ≤ at label k →
    Shared (k + 1) label bucket
shared_other k label bucket was h = record {
  long = was.long;
  known = λ q l. was.known q l ∙ sharing-other k label q (λ e. omega (arith, e));
}

-- a label is the number of a bucket, or absent; one that no state holds is counted anew
unfoldable pub lookup : ℕ → List ℕ → List ℕ → ℕ → ℕ → ℕ
lookup m label bucket absent x = cond (nat_lt x BUCKETS) (at bucket x) (cond (x == ABSENT) absent (sharing m label x))

module _ (m : ℕ) (label bucket : List ℕ) (all : Shared m label bucket) (absent : ℕ)
    (lost : absent ≡ sharing m label ABSENT) where
  by_place : (x : ℕ) → Dec (x < BUCKETS) → Dec (x ≡ ABSENT) → lookup m label bucket absent x ≡ sharing m label x
  unfolding lookup
  by_place x (yes h) d = rw (lt-ltb x BUCKETS h, all.known x h)
  by_place x (no h) (yes e) = rw (le-ltb x BUCKETS (omega arith), eq-eqb x ABSENT e, lost, e)
  by_place x (no h) (no e) = rw (le-ltb x BUCKETS (omega arith), ne_eqb x ABSENT e)

  lookup-right : (x : ℕ) → lookup m label bucket absent x ≡ sharing m label x
  lookup-right x = by_place x (dec_lt x BUCKETS) (ℕ_discrete x ABSENT)

  pub lookup-lone : (j : ℕ) → (lookup m label bucket absent (at label j) == 1) ≡ lone m label j
  lookup-lone j = rw (lookup-right (at label j)) (lone-sharing m label j)
