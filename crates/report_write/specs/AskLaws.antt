-- The refusals of the questions and of the report by their tests, in order.
use Rattle.std.specs.Prelude.{◌≡◌, Bool, true, false, not, List, [], ◌∷◌, ℕ, ltb}
use Rattle.std.proofs.Math.Path.{refl}
use borrow.Author.Tests.{eq-eqb, ne_eqb}
use Rattle.table.specs.Refusals.{first_of, written}
use Rattle.spec_machine.specs.State.{State}
use Rattle.spec_machine.specs.State.{units, links, finished, FINISHED}
use Rattle.spec_machine.specs.WellFormed.{well_formed}
use Rattle.spec_machine.specs.Report.{report_length}
use Rattle.spec_machine.specs.Calls.{question_refusal, report_refusal}

module _ (s : State) where
  -- ---- questions

  pub question_malformed : (exists : Bool) → well_formed s ≡ false → 10 ≡ question_refusal s exists
  unfolding question_refusal
  question_malformed exists w = rw w refl

  pub question_early : (exists : Bool) → well_formed s ≡ true → (s.clock.stage ≡ FINISHED → ⊥) →
      12 ≡ question_refusal s exists
  unfolding question_refusal
  question_early exists w h = rw (w, ne_eqb s.clock.stage FINISHED h) refl

  pub question_none : (exists : Bool) → well_formed s ≡ true → s.clock.stage ≡ FINISHED → exists ≡ true →
      0 ≡ question_refusal s exists
  unfolding question_refusal
  question_none exists w e x = rw (w, eq-eqb s.clock.stage FINISHED e, x) refl

  pub question_missing : (exists : Bool) → well_formed s ≡ true → s.clock.stage ≡ FINISHED → exists ≡ false →
      13 ≡ question_refusal s exists
  unfolding question_refusal
  question_missing exists w e x = rw (w, eq-eqb s.clock.stage FINISHED e, x) refl

  -- ---- report, from whether the state is well formed

  pub report-told : (places : ℕ) (well : Bool) (k : ℕ) → well ≡ well_formed s
      → k ≡ first_of ((10, not well) ∷ (12, not (finished s)) ∷ (14, ltb places (report_length (units s) (links s)))
      ∷ []) → k ≡ report_refusal s places
  unfolding report_refusal
  report-told places well k e told = rw (told, e)

-- a refusal writes nothing
pub written-refused : (k : ℕ) (l out : List ℕ) → (k ≡ 0 → ⊥) → out ≡ written k l out
written-refused k l out h = rw (ne_eqb k 0 h) refl
