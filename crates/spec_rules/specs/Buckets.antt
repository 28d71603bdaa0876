-- A number for each key, kept in buckets: what a key's bucket says, and what is asked of the others.
use Rattle.std.specs.Prelude.{◌≡◌, cond, List, ℕ, ◌<◌, eqb, ltb, length, get_or}
use Rattle.std.proofs.Math.Decide.{dec_lt, ℕ_discrete}
use Rattle.std.proofs.Common.{arith}
use borrow.Author.Tests.{lt-ltb, le-ltb, eq-eqb, ne_eqb}
use Rattle.base_lists.specs.Tables.{over, get_d_over}
use Rattle.spec_rules.specs.Basics.{ABSENT, at}

-- a bucket for each unit, place and arc
abbrev pub BUCKETS : ℕ
BUCKETS = 512

-- buckets whose entry at q is f q
unfoldable pub bucket_table : (ℕ → ℕ) → List ℕ → List ℕ
bucket_table f old = over BUCKETS f old

pub bucket_at : (f : ℕ → ℕ) (old : List ℕ) → length old ≡ BUCKETS → (q : ℕ) → q < BUCKETS →
    get_or (bucket_table f old) q 0 ≡ f q
unfolding bucket_table
bucket_at f old full q h = get_d_over BUCKETS f old q 0 h (omega arith)

-- a key past the buckets is absent, or no state holds it
unfoldable pub lookup : (ℕ → ℕ) → List ℕ → ℕ → ℕ → ℕ
lookup f bucket absent q = cond (ltb q BUCKETS) (at bucket q) (cond (eqb q ABSENT) absent (f q))

module _ (f : ℕ → ℕ) (bucket : List ℕ) (absent : ℕ) (known : (q : ℕ) → q < BUCKETS →
    get_or bucket q 0 ≡ f q) (lost : absent ≡ f ABSENT) where
  go : (q : ℕ) → Dec (q < BUCKETS) → Dec (q ≡ ABSENT) → lookup f bucket absent q ≡ f q
  unfolding lookup
  go q (yes h) d = rw (lt-ltb q BUCKETS h, known q h)
  go q (no h) (yes e) = rw (le-ltb q BUCKETS (omega arith), eq-eqb q ABSENT e, lost, e)
  go q (no h) (no e) = rw (le-ltb q BUCKETS (omega arith), ne_eqb q ABSENT e)

  pub lookup-right : (q : ℕ) → lookup f bucket absent q ≡ f q
  lookup-right q = go q (dec_lt q BUCKETS) (ℕ_discrete q ABSENT)
