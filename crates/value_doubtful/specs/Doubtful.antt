-- The call about doubtful links (T-08), on a state, two positions and marks: its reply, and why it is refused. It reads
-- the links, never the labels.
use Rattle.std.specs.Prelude.{◌≡◌, not, List, [], ◌∷◌, ℕ, eqb, ltb}
use Rattle.base_lists.specs.Tests.{not_exact}
use Rattle.table.specs.Refusals.{first_of}
use Rattle.table.specs.RefusalLaws.{Reason}
use Rattle.spec_rules.specs.BoundLaws.{eq_exact}
use Rattle.spec_machine.specs.CallCauses.{not_kept, before_end, missing}
use Rattle.spec_machine.specs.State.{State, links, finished}
use Rattle.spec_machine.specs.WellFormed.{well_formed}
use Rattle.survey.specs.View.{of}
use Rattle.value_doubtful.specs.declared.Verdict.{Verdict}
use Rattle.value_doubtful.specs.declared.Verdict.TheVariants.{Always, Perhaps, Never, Refused}
use Rattle.value_doubtful.specs.declared.Answer as declared

-- what the call hands back: the state, and its reply
pub record Answer : Type 0 where
  pub state : State
  pub reply : Verdict

abbrev pub answer_of : declared.Answer → Answer
answer_of a = record { state = of a.survey; reply = a.reply }

-- the number of a reply, and the values that come back with it: 2 always, 1 perhaps, 0 never
abbrev pub number_of : Verdict → ℕ
number_of Always = 0
number_of Perhaps = 0
number_of Never = 0
number_of (Refused k) = k

abbrev pub values_of : Verdict → List ℕ
values_of Always = 2 ∷ []
values_of Perhaps = 1 ∷ []
values_of Never = 0 ∷ []
values_of (Refused k) = []

-- 10, 12, 13 for either position, 15
unfoldable pub doubt_refusal : ℕ → ℕ → ℕ → State → ℕ
doubt_refusal i j marks s =
    first_of
    ((10, not (well_formed s))
    ∷ (12, not (finished s))
    ∷ (13, not (ltb i (links s)))
    ∷ (13, not (ltb j (links s)))
    ∷ (15, not (eqb marks (links s)))
    ∷ [])

-- 15: the marks differ in number from the links
abbrev pub marks_differ : ℕ → ℕ → Reason
marks_differ marks m = record {
  number = 15;
  test = not (eqb marks m);
  cause = marks ≡ m → ⊥;
  exact = not_exact (eqb marks m) (eq_exact marks m);
}

-- the causes, in the same order
abbrev pub doubt_reasons : ℕ → ℕ → ℕ → State → List Reason
doubt_reasons i j marks s = not_kept s ∷ before_end s ∷ missing i (links s) ∷ missing j (links s)
    ∷ marks_differ marks (links s) ∷ []
