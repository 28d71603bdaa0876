-- The first number that passes a test, from some number on: what a scan from the greatest down has met.
use Rattle.std.specs.Prelude.{◌≡◌, Bool, true, false, ◌&&◌, ◌⊎◌, ℕ, ◌+◌, ◌≤◌, ◌<◌, min}
use Rattle.std.proofs.Common.{sym, inl, inr, le_antisymm, arith, le-leb}
use Rattle.std.proofs.Math.Bool.{cond}
use Rattle.std.proofs.Math.Decide.{dec_lt, ℕ_discrete}
use Rattle.std.proofs.Math.Dec.{leb}
use Rattle.std.proofs.lemmas.Bool.{lt-leb}
use Rattle.base_lists.specs.Folds.{least}
use Rattle.base_lists.specs.FoldLaws.{fold_cong}
use Rattle.base_lists.specs.LeastLaws.{least_start, least_le, least-greatest}
use Rattle.base_lists.specs.Tests.{either, and-true}
use Rattle.spec_rules.specs.Basics.{ABSENT}

-- the least number below n that passes, absent where none does
abbrev pub first : ℕ → (ℕ → Bool) → ℕ
first n p = least n (λ (w : ℕ). cond (p w) w ABSENT) ABSENT

module _ (p : ℕ → Bool) where
  hit_ge : (w : ℕ) (b : Bool) (k : ℕ) → k ≤ w → k ≤ ABSENT → k ≤ cond b w ABSENT
  hit_ge w true k h l = h
  hit_ge w false k h l = l

  -- the first that passes
  first_hit : (n k : ℕ) → k < n → k ≤ ABSENT → first k p ≡ ABSENT → p k ≡ true → k ≡ first n p
  first_hit n k h small none e =
      le_antisymm (least-greatest n (λ (w : ℕ). cond (p w) w ABSENT) ABSENT k small
      (λ (i : ℕ) (l : i < n). go i (dec_lt i k)))
      (rw e at (least_le n (λ (w : ℕ). cond (p w) w ABSENT) ABSENT k h))
    where
      go : (i : ℕ) → Dec (i < k) → k ≤ cond (p i) i ABSENT
      go i (yes l) = omega (arith, none, small, least_le k (λ (w : ℕ). cond (p w) w ABSENT) ABSENT i l)
      go i (no l) = hit_ge i (p i) k (omega arith) small

-- the least number from k on and below n that passes, absent where none does
unfoldable pub first_from : ℕ → ℕ → (ℕ → Bool) → ℕ
first_from n k p = first n (λ (w : ℕ). leb k w && p w)

-- tests that agree below n
pub first-same : (n : ℕ) (p q : ℕ → Bool) → ((w : ℕ) → w < n → p w ≡ q w) → first n p ≡ first n q
first-same n p q h =
    fold_cong min n (λ (w : ℕ). cond (p w) w ABSENT) (λ (w : ℕ). cond (q w) w ABSENT) ABSENT
    (λ (w : ℕ) (l : w < n). one w (h w l))
  where
    one : (w : ℕ) → p w ≡ q w → cond (p w) w ABSENT ≡ cond (q w) w ABSENT
    one w e = rw e

-- none passes
first-none-of : (n : ℕ) (p : ℕ → Bool) → ((w : ℕ) → w < n → p w ≡ false) → first n p ≡ ABSENT
first-none-of n p h =
    le_antisymm (least_start n (λ (w : ℕ). cond (p w) w ABSENT) ABSENT)
    (least-greatest n (λ (w : ℕ). cond (p w) w ABSENT) ABSENT ABSENT (omega arith)
    (λ (w : ℕ) (l : w < n). rw (h w l) (omega arith)))

early : (k w : ℕ) (b : Bool) → w < k → (leb k w && b) ≡ false
early k w b h = rw (lt-leb k w h)

from-same : (k w : ℕ) (b : Bool) → (w ≡ k → b ≡ false) → Dec (w < k) → Dec (w ≡ k) →
    (leb k w && b) ≡ (leb (k + 1) w && b)
from-same k w b miss (yes h) d = rw (lt-leb k w h, lt-leb (k + 1) w (omega arith))
from-same k w b miss (no h) (yes e) = rw (le-leb k w (omega arith), lt-leb (k + 1) w (omega (arith, e))) (miss e)
from-same k w b miss (no h) (no e) = rw (le-leb k w (omega arith), le-leb (k + 1) w (omega (arith, e)))

module _ (n : ℕ) (p : ℕ → Bool) where
  -- before the scan
  pub from_end : first_from n n p ≡ ABSENT
  unfolding first_from
  from_end = first-none-of n (λ (w : ℕ). leb n w && p w) (λ (w : ℕ) (h : w < n). early n w (p w) h)

  -- after it
  pub from_start : first_from n 0 p ≡ first n p
  unfolding first_from
  from_start = first-same n (λ (w : ℕ). leb 0 w && p w) p (λ (w : ℕ) (h : w < n). rw (le-leb 0 w (omega arith)))

  -- a turn
  pub from-turn : (k : ℕ) → k < n → n ≤ ABSENT → first_from n k p ≡ cond (p k) k (first_from n (k + 1) p)
  unfolding first_from
  from-turn k h small = go (either (p k))
    where
      go : (p k ≡ true) ⊎ (p k ≡ false)
          → first n (λ (w : ℕ). leb k w && p w) ≡ cond (p k) k (first n (λ (w : ℕ). leb (k + 1) w && p w))
      go (inl e) =
          rw e
          (sym
          (first_hit (λ (w : ℕ). leb k w && p w) n k h (omega arith)
          (first-none-of k (λ (w : ℕ). leb k w && p w) (λ (w : ℕ) (l : w < k). early k w (p w) l))
          (and-true (leb k k) (p k) (le-leb k k (omega arith)) e)))
      go (inr e) =
          rw e
          (first-same n (λ (w : ℕ). leb k w && p w) (λ (w : ℕ). leb (k + 1) w && p w)
          (λ (w : ℕ) (l : w < n). from-same k w (p w) (λ (q : w ≡ k). rw q e) (dec_lt w k) (ℕ_discrete w k)))
