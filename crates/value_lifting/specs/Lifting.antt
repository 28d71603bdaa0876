-- The lifting call (T-07) on a state, with the crew's pairs and a lent slice: its reply, and what the slice holds
-- afterwards. It reads the links, never the labels.
use Rattle.std.specs.Prelude.{cond, not, List, [], ◌∷◌, ℕ, eqb, ltb, length}
use Rattle.table.specs.Refusals.{first_of, written}
use Rattle.spec_machine.specs.State.{State, units, words, finished}
use Rattle.spec_machine.specs.WellFormed.{well_formed}
use Rattle.survey.specs.View.{of}
use Rattle.lifting_order.specs.Order.{order_of, bad_pairs, no_order}
use Rattle.value_lifting.specs.declared.Lifting.{Lifting}
use Rattle.value_lifting.specs.declared.Lifting.TheVariants.{Lifted, Refused}
use Rattle.value_lifting.specs.declared.Answer as declared

-- what the call hands back: the state, and its reply
pub record Answer : Type 0 where
  pub state : State
  pub reply : Lifting

abbrev pub answer_of : declared.Answer → Answer
answer_of a = record { state = of a.survey; reply = a.reply }

-- the number of a reply, and the values that come back with it
abbrev pub number_of : Lifting → ℕ
number_of (Lifted n) = 0
number_of (Refused k) = k

abbrev pub values_of : Lifting → List ℕ
values_of (Lifted n) = n ∷ []
values_of (Refused k) = []

-- 10, 12
unfoldable pub early_refusal : State → ℕ
early_refusal s = first_of ((10, not (well_formed s)) ∷ (12, not (finished s)) ∷ [])

-- 10, 12, 14, 19, 20
unfoldable pub lifting_refusal : List ℕ → ℕ → State → ℕ
lifting_refusal p places s =
    first_of
    ((10, not (well_formed s))
    ∷ (12, not (finished s))
    ∷ (14, ltb places (units s))
    ∷ (19, bad_pairs (units s) p)
    ∷ (20, no_order (units s) (words s) p)
    ∷ [])

unfoldable pub lifting_answer : List ℕ → ℕ → State → Answer
lifting_answer p places s =
    record {
      state = s;
      reply = cond (eqb (lifting_refusal p places s) 0) (Lifted (units s))
          (Refused (lifting_refusal p places s));
    }

-- the slice afterwards: the order at its front, or all as it was
unfoldable pub lifted : List ℕ → State → List ℕ → List ℕ
lifted p s out = written (lifting_refusal p (length out) s) (order_of (units s) (words s) p) out
