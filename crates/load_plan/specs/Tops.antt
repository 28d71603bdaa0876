-- The climb to the top of a chain of parents, step by step.
use Rattle.std.specs.Prelude.{◌≡◌, refl, cond, ◌≢◌, List, ℕ, suc, ◌+◌, ◌-◌, ◌≤◌, ◌<◌, eqb}
use Rattle.std.proofs.Common.{sym, ◌∙◌, arith, eq-eqb, ne_eqb}
use Rattle.spec_rules.specs.Basics.{ABSENT, at}
use Rattle.spec_rules.specs.Planned.{top_of}

-- w stands so far up the chain of v, and has the same top
pub record Rising (plan : List ℕ) (n v far w : ℕ) : Type 0 where
  pub within : far ≤ n
  pub left : top_of plan n v ≡ top_of plan (n - far) w

module _ (plan : List ℕ) (n v : ℕ) where
  pub rise_begins : Rising plan n v 0 v
  rise_begins = record { within = omega arith; left = let all : n - 0 ≡ n = omega arith in rw all refl }

  module _ (far w : ℕ) (here : Rising plan n v far w) where
    one_more : far < n → n - far ≡ suc (n - (far + 1))
    one_more l = omega arith

    pub rise_ends : far < n → at plan w ≡ ABSENT → w ≡ top_of plan n v
    rise_ends l e =
        let left = rw (one_more l) at here.left in
        sym (left ∙ rw (eq-eqb (at plan w) ABSENT e) refl)

    pub rise_on : far < n → at plan w ≢ ABSENT → Rising plan n v (far + 1) (at plan w)
    rise_on l e =
        let left = rw (one_more l) at here.left in
        record { within = omega arith; left = left ∙ rw (ne_eqb (at plan w) ABSENT e) refl }

    pub rise_over : n ≤ far → ABSENT ≡ top_of plan n v
    rise_over l =
        let none : n - far ≡ 0 = omega arith in
        sym (rw none at here.left)
