-- Digits laid down one after the other.
use Rattle.std.specs.Prelude.{◌≡◌, Bool, true, false, cond, ◌⊎◌, List, [], ◌∷◌, leb, set}
use Rattle.std.proofs.Math.Path.{refl}
use Rattle.std.proofs.Common.{inl, inr}
use Prim.Native.Nat.{ℕ, zero, suc, ◌+◌, ◌/◌, ◌%◌, ◌-◌, ◌≤◌, ◌<◌}
use native.Mathlib.Omega.{arith}
use Rattle.std.proofs.Math.Numerals.{add-one}
use Rattle.std.proofs.Math.ListN.{length}
use Rattle.std.proofs.Math.Seq.{sets, set_out}
use Rattle.base_lists.specs.Tests.{either}
use Rattle.base_streams.specs.Text.{tens, shown}

pub tens-positive : (k : ℕ) → 0 < tens k
unfolding tens
tens-positive zero = omega arith
tens-positive (suc k) = omega (arith, tens-positive k)

pub tens-next : (k p : ℕ) → (k ≡ 0 → ⊥) → p ≡ tens k → p / 10 ≡ tens (k - 1)
unfolding tens
tens-next zero p z e = absurd (z refl)
tens-next (suc k) p z e = let q : suc k - 1 ≡ k = omega arith in rw q (omega (arith, e))

-- nothing is laid down past the slice
pub sets_past : (vs l : List ℕ) (i : ℕ) → length l ≤ i → sets l i vs ≡ l
sets_past [] l i h = refl
sets_past (x ∷ vs) l i h = rw (set_out l i x h) (sets_past vs l (suc i) (omega arith))

-- a place more
module _ (k v at' : ℕ) (out new : List ℕ) (end p : ℕ) (z : k ≡ 0 → ⊥) (ep : p ≡ tens k)
    (ea : at' ≡ cond (leb p v) (end + 1) end) (en : new ≡ cond (leb p v) (set out end (v / p % 10 + 48)) out) where
  pub shown-bytes : sets out end (shown k v) ≡ sets new at' (shown (k - 1) v)
  unfolding shown
  shown-bytes = go k z ep (either (leb p v))
    where
      go : (j : ℕ) → (j ≡ 0 → ⊥) → p ≡ tens j → (leb p v ≡ true) ⊎ (leb p v ≡ false) →
          sets out end (shown j v) ≡ sets new at' (shown (j - 1) v)
      go zero n e d = absurd (n refl)
      go (suc j) n e (inl d) =
          let q : suc j - 1 ≡ j = omega arith in
          rw (← e, ea, en, d, q, add-one end) refl
      go (suc j) n e (inr d) =
          let q : suc j - 1 ≡ j = omega arith in
          rw (← e, ea, en, d, q) refl

  pub shown-length : end + length (shown k v) ≡ at' + length (shown (k - 1) v)
  unfolding shown
  shown-length = go k z ep (either (leb p v))
    where
      go : (j : ℕ) → (j ≡ 0 → ⊥) → p ≡ tens j → (leb p v ≡ true) ⊎ (leb p v ≡ false) →
          end + length (shown j v) ≡ at' + length (shown (j - 1) v)
      go zero n e d = absurd (n refl)
      go (suc j) n e (inl d) =
          let q : suc j - 1 ≡ j = omega arith in
          rw (← e, ea, d, q) (omega arith)
      go (suc j) n e (inr d) =
          let q : suc j - 1 ≡ j = omega arith in
          rw (← e, ea, d, q) refl

-- the last digit
pub shown-last : (k v : ℕ) → k ≡ 0 → shown k v ≡ (v % 10 + 48) ∷ []
unfolding shown
shown-last k v e = rw e refl

-- a digit moves the place by at most one
pub place_le : (b : Bool) (end : ℕ) → cond b (end + 1) end ≤ end + 1
place_le true end = omega arith
place_le false end = omega arith

pub tens-nine : 1000000000 ≡ tens 9
unfolding tens
tens-nine = refl
