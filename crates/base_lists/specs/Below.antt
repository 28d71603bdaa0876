-- A fact of all numbers below a count and of the count is one of all below the next.
use Rattle.std.specs.Prelude.{◌≡◌, ℕ, suc, ◌+◌, ◌<◌}
use Rattle.std.proofs.Common.{add-one, arith}
use Rattle.std.proofs.Math.Decide.{dec_lt}

pub below_suc : (P : ℕ → Type 0) (k : ℕ) → ((i : ℕ) → i < k → P i) → P k → (i : ℕ) → i < suc k → P i
below_suc P k before here i l = go (dec_lt i k)
  where
    go : Dec (i < k) → P i
    go (yes h) = before i h
    go (no h) = let e : i ≡ k = omega arith in rw e here

-- as a loop counts
pub below_more : (P : ℕ → Type 0) (k : ℕ) → ((i : ℕ) → i < k → P i) → P k → (i : ℕ) → i < k + 1 → P i
below_more P k before here i l = below_suc P k before here i (rw add-one at l)
