-- lg is the least k with x ≤ 2 ^ k: the power reaches x, and no lesser one does.
use Rattle.std.specs.Prelude.{◌≡◌, refl, Bool, true, false, cond, ℕ, zero, suc, ◌+◌, ◌-◌, ◌≤◌, ◌<◌, ◌^◌, leb}
use Rattle.std.proofs.Common.{◌∙◌, le_antisymm, add-zero, zero-add, suc-add, add-suc, arith, pow_pos, pow_mono}
use Rattle.std.proofs.Common.{leb-true, leb-false}
use Rattle.std.proofs.Math.Decide.{dec_lt}
use Rattle.std.specs.Int.Count.{count_leading_zeros}
use Rattle.std.proofs.lemmas.Nat.{leading_top}
use Rattle.base_log2.specs.Lg.{lg, lg_from}

-- ---- the search from k on

from-step_reaches : (b : Bool) (k further x : ℕ) → leb x (2 ^ k) ≡ b → (x ≤ 2 ^ further) → x ≤ 2 ^ cond b k further
from-step_reaches true k further x e later = leb-true x (2 ^ k) e
from-step_reaches false k further x e later = later

from-reaches : (fuel k x : ℕ) → x ≤ 2 ^ (k + fuel) → x ≤ 2 ^ lg_from fuel k x
unfolding lg_from
from-reaches zero k x h = rw add-zero at h
from-reaches (suc fuel) k x h =
    from-step_reaches (leb x (2 ^ k)) k (lg_from fuel (suc k) x) x refl
    (from-reaches fuel (suc k) x (rw (suc-add, ← add-suc) h))

from-step_least : (b : Bool) (k further x j : ℕ) → leb x (2 ^ k) ≡ b → k ≤ j → x ≤ 2 ^ j → (suc k ≤ j → further ≤ j) →
    cond b k further ≤ j
from-step_least true k further x j e l h later = l
from-step_least false k further x j e l h later = later (omega (arith, unequal))
  where
    unequal : k ≡ j → ⊥
    unequal q = let h' : x ≤ 2 ^ k = rw q h in omega (arith, leb-false x (2 ^ k) e)

from-least : (fuel k x j : ℕ) → k ≤ j → x ≤ 2 ^ j → lg_from fuel k x ≤ j
unfolding lg_from
from-least zero k x j l h = l
from-least (suc fuel) k x j l h =
    from-step_least (leb x (2 ^ k)) k (lg_from fuel (suc k) x) x j refl l h
    (λ (l' : suc k ≤ j). from-least fuel (suc k) x j l' h)

-- ---- the two laws of lg

below_power : (x : ℕ) → x ≤ 2 ^ x
below_power zero = omega arith
below_power (suc x) = omega (arith, below_power x, pow_pos x)

pub lg-reaches : (x : ℕ) → x ≤ 2 ^ lg x
unfolding lg
lg-reaches x = from-reaches x zero x (rw zero-add (below_power x))

pub lg-least : (x k : ℕ) → x ≤ 2 ^ k → lg x ≤ k
unfolding lg
lg-least x k h = from-least x zero x k (omega arith) h

-- and nothing else is
lg_unique : (x k : ℕ) → x ≤ 2 ^ k → ((j : ℕ) → x ≤ 2 ^ j → k ≤ j) → k ≡ lg x
lg_unique x k reaches least = le_antisymm (least (lg x) (lg-reaches x)) (lg-least x k reaches)

-- ---- as code computes it

lt_of_pow : (j k : ℕ) → 2 ^ j < 2 ^ k → j < k
lt_of_pow j k h = go (dec_lt j k)
  where
    go : Dec (j < k) → j < k
    go (yes l) = l
    go (no n) = let other : 2 ^ k ≤ 2 ^ j = pow_mono (omega arith) in omega arith

-- the two numbers apart
pub lg-small : (x : ℕ) → x ≤ 1 → 0 ≡ lg x
lg-small x h = lg_unique x 0 (omega arith) (λ (j : ℕ) (r : x ≤ 2 ^ j). omega arith)

-- any other number: the digits of x − 1 that are left of a width of w
pub lg-by_zeros : (w x : ℕ) → 1 < x → x - 1 < 2 ^ w → w - count_leading_zeros w (x - 1) ≡ lg x
lg-by_zeros w x h fits = from (leading_top w (x - 1) (omega arith) fits)
  where
    from : (j : ℕ) × (count_leading_zeros w (x - 1) + suc j ≡ w) × (2 ^ j ≤ x - 1) × (x - 1 < 2 ^ suc j) →
        w - count_leading_zeros w (x - 1) ≡ lg x
    from t =
        let j : ℕ = t.0 in
        let least : (k : ℕ) → x ≤ 2 ^ k → suc j ≤ k = λ (k : ℕ) (r : x ≤ 2 ^ k). lt_of_pow j k (omega (arith, t.2)) in
        let width : w - count_leading_zeros w (x - 1) ≡ suc j = omega (arith, t.1) in
        width ∙ lg_unique x (suc j) (omega (arith, t.3)) least
