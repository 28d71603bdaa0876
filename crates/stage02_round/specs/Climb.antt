-- A climb along a planner's parents, step by step: how far up the colour unit is.
use Rattle.std.specs.Prelude.{◌≡◌, refl, true, false, cond, ◌⊎◌, ◌≢◌, List, ℕ, suc, ◌+◌, ◌-◌, ◌≤◌, ◌<◌, eqb}
use Rattle.std.proofs.Common.{sym, ap, ◌∙◌, inl, inr, arith}
use borrow.Author.Tests.{eq-eqb, ne_eqb}
use Rattle.base_lists.specs.Tests.{either}
use Rattle.spec_rules.specs.Basics.{ABSENT, at}
use Rattle.spec_rules.specs.Planned.{onward, steps_to}
use Rattle.spec_rules.specs.PlannedLaws.{steps-few}

-- so many steps more; absent stays absent
abbrev ahead_by : ℕ → ℕ → ℕ
ahead_by far x = cond (eqb x ABSENT) ABSENT (x + far)

-- far steps up from v is w, and c was not met before it
pub record Climbing (plan : List ℕ) (c n v far w : ℕ) : Type 0 where
  pub within : far ≤ n
  pub left : steps_to plan c n v ≡ ahead_by far (steps_to plan c (n - far) w)

ahead_none : (x : ℕ) → ahead_by 0 x ≡ x
ahead_none x = go (either (eqb x ABSENT))
  where
    go : (eqb x ABSENT ≡ true) ⊎ (eqb x ABSENT ≡ false) → ahead_by 0 x ≡ x
    go (inl e) = rw e (sym (borrow.Author.Tests.eqb-true x ABSENT e))
    go (inr e) = rw e (omega arith)

ahead_more : (far k x : ℕ) → k ≤ 256 → (x < k) ⊎ (x ≡ ABSENT) → ahead_by far (onward x) ≡ ahead_by (far + 1) x
ahead_more far k x few (inl l) =
    rw (ne_eqb x ABSENT (λ e. omega arith), ne_eqb (x + 1) ABSENT (λ e. omega arith)) (omega arith)
ahead_more far k x few (inr e) = rw e refl

module _ (plan : List ℕ) (c n v : ℕ) where
  pub climb-begins : Climbing plan c n v 0 v
  climb-begins = record {
    within = omega arith;
    left = let all : n - 0 ≡ n = omega arith in rw all (sym (ahead_none (steps_to plan c n v)));
  }

  module _ (far w : ℕ) (here : Climbing plan c n v far w) where
    one_more : far < n → n - far ≡ suc (n - (far + 1))
    one_more l = omega arith

    pub climb-arrives : far < n → w ≡ c → far ≡ steps_to plan c n v
    climb-arrives l e =
        let left = rw (one_more l) at here.left in
        sym (left ∙ rw (eq-eqb w c e) (omega arith))

    pub climb-ends : far < n → w ≢ c → at plan w ≡ ABSENT → ABSENT ≡ steps_to plan c n v
    climb-ends l d e =
        let left = rw (one_more l) at here.left in
        sym (left ∙ rw (ne_eqb w c d, eq-eqb (at plan w) ABSENT e) refl)

    pub climb-on : n ≤ 256 → far < n → w ≢ c → at plan w ≢ ABSENT → Climbing plan c n v (far + 1) (at plan w)
    climb-on few l d e =
        let left = rw (one_more l) at here.left in
        let up : steps_to plan c (suc (n - (far + 1))) w ≡ onward (steps_to plan c (n - (far + 1)) (at plan w)) =
        rw (ne_eqb w c d, ne_eqb (at plan w) ABSENT e) refl in
        record {
          within = omega arith;
          left = left ∙ ap (ahead_by far) up
              ∙ ahead_more far (n - (far + 1)) (steps_to plan c (n - (far + 1)) (at plan w)) (omega arith)
              (steps-few plan c (n - (far + 1)) (at plan w));
        }

    pub climb-over : n ≤ far → ABSENT ≡ steps_to plan c n v
    climb-over l =
        let none : n - far ≡ 0 = omega arith in
        sym (rw none at here.left)
