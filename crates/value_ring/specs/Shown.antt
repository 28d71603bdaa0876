-- The call that shows a ring (T-04), on a state, two positions and a lent slice: its reply, and why it is refused. It
-- reads the links, never the labels.
use Rattle.std.specs.Prelude.{not, List, [], ◌∷◌, ℕ, ltb}
use Rattle.table.specs.Refusals.{first_of}
use Rattle.table.specs.RefusalLaws.{Reason}
use Rattle.spec_machine.specs.CallCauses.{not_kept, before_end, missing, too_short}
use Rattle.spec_machine.specs.State.{State, units, links, finished}
use Rattle.spec_machine.specs.WellFormed.{well_formed}
use Rattle.survey.specs.View.{of}
use Rattle.value_ring.specs.declared.Shown.{Shown}
use Rattle.value_ring.specs.declared.Shown.TheVariants.{Ring, NoRing, Refused}
use Rattle.value_ring.specs.declared.Answer as declared

-- what the call hands back: the state, and its reply
pub record Answer : Type 0 where
  pub state : State
  pub reply : Shown

abbrev pub answer_of : declared.Answer → Answer
answer_of a = record { state = of a.survey; reply = a.reply }

-- the number of a reply, and the values that come back with it
abbrev pub number_of : Shown → ℕ
number_of (Ring n) = 0
number_of NoRing = 0
number_of (Refused k) = k

abbrev pub values_of : Shown → List ℕ
values_of (Ring n) = n ∷ []
values_of NoRing = []
values_of (Refused k) = []

-- 10, 12, 13 for either position, 14
unfoldable pub shown_refusal : ℕ → ℕ → ℕ → State → ℕ
shown_refusal i j places s =
    first_of
    ((10, not (well_formed s))
    ∷ (12, not (finished s))
    ∷ (13, not (ltb i (links s)))
    ∷ (13, not (ltb j (links s)))
    ∷ (14, ltb places (units s))
    ∷ [])

-- the causes, in the same order
abbrev pub shown_reasons : ℕ → ℕ → ℕ → State → List Reason
shown_reasons i j places s = not_kept s ∷ before_end s ∷ missing i (links s) ∷ missing j (links s)
    ∷ too_short places (units s) ∷ []
