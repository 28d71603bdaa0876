-- The contracts of `survey_c` are the relation `CallMade`: from the equations that each function ensures. A call that
-- only reads the words leaves them as they are.
use Rattle.std.specs.Prelude.{◌≡◌, refl, true, false, cond, ◌⊎◌, List, [], ◌∷◌, ℕ, eqb, length}
use Rattle.std.proofs.Math.Path.{sym}
use Rattle.std.proofs.Common.{ap, ◌∙◌, inl, inr}
use Rattle.base_lists.specs.Tests.{either}
use Rattle.spec_machine.specs.State.{State}
use Rattle.spec_machine.specs.Run.{ran}
use Rattle.spec_machine.specs.Calls.{round_refusal, run_answer, status_refusal, status_answer, unit_refusal}
use Rattle.spec_machine.specs.Calls.{unit_answer}
use Rattle.spec_machine.specs.Calls.{link_refusal, link_answer, report_refusal, report_answer}
use Rattle.words_layout.specs.Layout.{state_of}
use Rattle.words_calls.specs.Face.{said}
use Rattle.words_known.specs.Left.{Left}
use Rattle.spec_claim.specs.Play.{round, run, status, unit, link, report, answer_to}
use Rattle.spec_claim.proofs.PlayLaws.{unmoved}
use Rattle.words_claim.specs.Exchange.{number_to, lent_after, made_after, CallMade}

-- ---- calls that change the words

-- link_survey_round
pub round-made : (before after : List ℕ) (r : ℕ) → r ≡ number_to round before →
    Left before after (answer_to round (state_of before))
    → CallMade (record { call = round; given = []; number = r; lent = [] }) before after
round-made before after r n w = record { number = n; words = w.state; lent = refl }

-- a run's one word holds the values of its reply
made-said : (budget : ℕ) (s : State) (given : ℕ)
    → cond (eqb (round_refusal s) 0) (ran budget 0 s).1 given ∷ [] ≡ said (run_answer budget s).reply (given ∷ [])
unfolding run_answer
made-said budget s given = go (either (eqb (round_refusal s) 0))
  where
    go : (eqb (round_refusal s) 0 ≡ true) ⊎ (eqb (round_refusal s) 0 ≡ false)
        → cond (eqb (round_refusal s) 0) (ran budget 0 s).1 given ∷ [] ≡ said (run_answer budget s).reply (given ∷ [])
    go (inl e) = rw e refl
    go (inr e) = rw e (rw e refl)

-- link_survey_run
pub run-made : (budget : ℕ) (before after : List ℕ) (given r made : ℕ) → r ≡ number_to (run budget) before
    → Left before after (answer_to (run budget) (state_of before)) → made ≡ made_after budget before given
    → CallMade (record { call = run budget; given = given ∷ []; number = r; lent = made ∷ [] }) before after
run-made budget before after given r made n w m =
    record { number = n; words = w.state; lent = ap (λ (k : ℕ). k ∷ []) m ∙ made-said budget (state_of before) given }

-- ---- calls that read the words

module _ (words given : List ℕ) (r : ℕ) (lent : List ℕ) where
  -- link_survey_status
  pub status-made : r ≡ number_to status words → lent ≡ lent_after status words given
      → CallMade (record { call = status; given = given; number = r; lent = lent }) words words
  unfolding status_answer
  status-made n l = record {
    number = n;
    words = sym (unmoved (status_refusal (state_of words)) (state_of words) _);
    lent = l;
  }

  -- link_survey_unit
  pub unit-made : (v : ℕ) → r ≡ number_to (unit v) words → lent ≡ lent_after (unit v) words given
      → CallMade (record { call = unit v; given = given; number = r; lent = lent }) words words
  unfolding unit_answer
  unit-made v n l = record {
    number = n;
    words = sym (unmoved (unit_refusal v (state_of words)) (state_of words) _);
    lent = l;
  }

  -- link_survey_link
  pub link-made : (j : ℕ) → r ≡ number_to (link j) words → lent ≡ lent_after (link j) words given
      → CallMade (record { call = link j; given = given; number = r; lent = lent }) words words
  unfolding link_answer
  link-made j n l = record {
    number = n;
    words = sym (unmoved (link_refusal j (state_of words)) (state_of words) _);
    lent = l;
  }

  -- link_survey_state_report, into the slice that was given
  pub report-made : r ≡ number_to (report given) words → lent ≡ lent_after (report given) words given
      → CallMade (record { call = report given; given = given; number = r; lent = lent }) words words
  unfolding report_answer
  report-made n l = record {
    number = n;
    words = sym (unmoved (report_refusal (state_of words) (length given)) (state_of words) _);
    lent = l;
  }
