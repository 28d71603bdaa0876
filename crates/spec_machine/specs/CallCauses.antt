-- Each call's refusals are bound to their causes, and only those: the reply is number k exactly when cause k holds and
-- no earlier cause of that call does; a call is refused exactly when some cause holds; and a refused call hands back
-- the state as given.
use Rattle.std.specs.Prelude.{◌≡◌, refl, Bool, true, false, cond, not, ◌⊎◌, ◌↔◌, List, [], ◌∷◌, ◌++◌, ℕ, ◌≤◌, ◌<◌, eqb}
use Rattle.std.specs.Prelude.{ltb, length}
use Rattle.std.proofs.Common.{sym, ◌∙◌, inl, inr, arith, eqb-true, eq-eqb, ltb-true, lt-ltb}
use Rattle.std.proofs.lemmas.Bool.{eqb-false}
use Rattle.base_lists.specs.Tests.{either, not_exact, cond_true, cond_false}
use Rattle.table.specs.Refusals.{first_of}
use Rattle.table.specs.RefusalLaws.{Reason, FirstCause, SomeCause, Numbered, tests, first-cause, some-cause}
use Rattle.table.specs.Table.{stored_refusal}
use Rattle.table.specs.TableCauses.{stored_reasons}
use Rattle.table.specs.FreshLaws.{unit_reasons, fresh_reasons}
use Rattle.table.proofs.FreshReplies.{fresh_refusal-tests}
use Rattle.file_spec.specs.File.{lines_of, read_refusal, write_refusal}
use Rattle.file_spec.specs.FileCauses.{read_reasons, write_reasons, read_refusal-tests, write_refusal-tests}
use Rattle.spec_rules.specs.BoundLaws.{eq_exact}
use Rattle.spec_rules.specs.PlannedLaws.{PlanUnfit, unfit_exact}
use Rattle.spec_machine.specs.State.{State}
use Rattle.spec_machine.specs.Calls.{Answer}
use Rattle.spec_state.specs.declared.reply.Reply.{Reply}
use Rattle.spec_machine.specs.State.{units, links, finished, FINISHED}
use Rattle.spec_machine.specs.Kept.{Kept, kept-exact}
use Rattle.spec_machine.specs.WellFormed.{well_formed}
use Rattle.spec_machine.specs.Report.{report_length}
use Rattle.spec_machine.specs.Load.{Input, links_in, stored_load_refusal, load_refusal, parents_differ, parents_unfit}
use Rattle.spec_machine.specs.Load.{planned_load_refusal}
use Rattle.spec_machine.specs.Calls

-- ---- the reasons

-- 10: the state is not kept
abbrev pub not_kept : State → Reason
not_kept s = record {
  number = 10;
  test = not (well_formed s);
  cause = Kept s → ⊥;
  exact = not_exact (well_formed s) (kept-exact s);
}

-- 11: a round or run is wanted of a finished survey
abbrev pub at_end : State → Reason
at_end s = record {
  number = 11;
  test = finished s;
  cause = s.clock.stage ≡ FINISHED;
  exact = eq_exact s.clock.stage FINISHED;
}

-- 12: a question or report is wanted before the end
abbrev pub before_end : State → Reason
before_end s =
    record {
      number = 12;
      test = not (finished s);
      cause = s.clock.stage ≡ FINISHED → ⊥;
      exact = not_exact (finished s) (eq_exact s.clock.stage FINISHED);
    }

-- 13: a unit or position doesn't exist
abbrev pub missing : ℕ → ℕ → Reason
missing i k =
    record {
      number = 13;
      test = not (ltb i k);
      cause = i < k → ⊥;
      exact = not_exact (ltb i k) (ltb-true i k, lt-ltb i k);
    }

-- 14: the output slice is too short
abbrev pub too_short : ℕ → ℕ → Reason
too_short places needed =
    record {
      number = 14;
      test = ltb places needed;
      cause = places < needed;
      exact = (ltb-true places needed, lt-ltb places needed);
    }

-- ---- an answer and its number

-- the number that comes back is the refusal's
number-answered : (k : ℕ) (s after : State) (reply : Reply) → Calls.number_of reply ≡ 0 →
    Calls.number_of (Calls.answered k s after reply).reply ≡ k
number-answered k s after reply z = go (either (eqb k 0))
  where
    go : (eqb k 0 ≡ true) ⊎ (eqb k 0 ≡ false) → Calls.number_of (Calls.answered k s after reply).reply ≡ k
    go (inl e) = rw e (z ∙ sym (eqb-true k 0 e))
    go (inr e) = rw e refl

-- a refusal hands back the state as given
pub refused-state : (k : ℕ) (s after : State) (reply : Reply) → (k ≡ 0 → ⊥) → (Calls.answered k s after reply).state ≡ s
refused-state k s after reply h = go (either (eqb k 0))
  where
    go : (eqb k 0 ≡ true) ⊎ (eqb k 0 ≡ false) → (Calls.answered k s after reply).state ≡ s
    go (inl e) = absurd (h (eqb-true k 0 e))
    go (inr e) = rw e refl

-- what is shown of each call: its number is bound to the causes in the list
pub record Bound (reasons : List Reason) (s : State) (answer : Answer) : Type 0 where
  pub number : (k : ℕ) → (k ≡ 0 → ⊥) → (Calls.number_of answer.reply ≡ k) ↔ FirstCause reasons k
  pub refused : (Calls.number_of answer.reply ≡ 0 → ⊥) ↔ SomeCause reasons
  pub unmoved : (Calls.number_of answer.reply ≡ 0 → ⊥) → answer.state ≡ s

bound : (reasons : List Reason) → Numbered reasons → (k : ℕ) → k ≡ first_of (tests reasons) →
    (s after : State) (reply : Reply)
    → Calls.number_of reply ≡ 0 → Bound reasons s (Calls.answered k s after reply)
bound reasons p k e s after reply z =
    record {
      number = λ i h. rw (number-answered k s after reply z, e) (first-cause reasons i h);
      refused = rw (number-answered k s after reply z, e) (some-cause reasons p);
      unmoved = λ h. refused-state k s after reply (rw (number-answered k s after reply z) at h);
    }

-- ---- the calls

pub load_bound : (input : Input) (s : State) →
    Bound (fresh_reasons input.units input.words input.levels) s (Calls.load_answer input s)
unfolding Calls.load_answer fresh_reasons stored_reasons
load_bound input s =
    let n = input.units in
    let t = input.words in
    let ls = input.levels in
    bound (fresh_reasons n t ls) (omega arith) (load_refusal input) (fresh_refusal-tests n t ls) s _ _ refl

pub stored_load_bound : (input : Input) (s : State) →
    Bound (stored_reasons input.units input.words input.levels) s (Calls.stored_load_answer input s)
unfolding Calls.stored_load_answer stored_refusal stored_reasons
stored_load_bound input s = bound (stored_reasons input.units input.words input.levels) (omega arith)
    (stored_load_refusal input) refl s _ _ refl

-- with a planner's table of parents: 18 in the words of chains of parents; theory_reach/specs/PlanCause has it in those
-- of document 02
abbrev pub plan_reasons : Input → List ℕ → List Reason
plan_reasons input ps =
    record {
      number = 17;
      test = parents_differ input ps;
      cause = length ps ≡ input.units → ⊥;
      exact = not_exact (eqb (length ps) input.units) (eq_exact (length ps) input.units);
    }
    ∷ record {
      number = 18;
      test = parents_unfit input ps;
      cause = PlanUnfit input.units (links_in input) input.words ps;
      exact = unfit_exact input.units (links_in input) input.words ps;
    }
    ∷ []

abbrev pub planned_reasons : Input → List ℕ → List Reason
planned_reasons input ps =
    stored_reasons input.units input.words input.levels
    ++ (plan_reasons input ps ++ unit_reasons input.units input.words)

pub planned_load_bound : (input : Input) (ps : List ℕ) (s : State) →
    Bound (planned_reasons input ps) s (Calls.planned_load_answer input ps s)
unfolding Calls.planned_load_answer planned_load_refusal stored_reasons
planned_load_bound input ps s = bound (planned_reasons input ps) (omega arith)
    (planned_load_refusal input ps) refl s _ _ refl

abbrev pub round_reasons : State → List Reason
round_reasons s = not_kept s ∷ at_end s ∷ []

pub round-bound : (s : State) → Bound (round_reasons s) s (Calls.round_answer s)
unfolding Calls.round_answer Calls.round_refusal
round-bound s = bound (round_reasons s) (omega arith) (Calls.round_refusal s) refl s _ _ refl

pub run-bound : (budget : ℕ) (s : State) → Bound (round_reasons s) s (Calls.run_answer budget s)
unfolding Calls.run_answer Calls.round_refusal
run-bound budget s = bound (round_reasons s) (omega arith) (Calls.round_refusal s) refl s _ _ refl

pub status-bound : (s : State) → Bound (not_kept s ∷ []) s (Calls.status_answer s)
unfolding Calls.status_answer Calls.status_refusal
status-bound s = bound (not_kept s ∷ []) (omega arith) (Calls.status_refusal s) refl s _ _ refl

-- a question about number i of k
abbrev pub question_reasons : ℕ → ℕ → State → List Reason
question_reasons i k s = not_kept s ∷ before_end s ∷ missing i k ∷ []

pub unit-bound : (v : ℕ) (s : State) → Bound (question_reasons v (units s) s) s (Calls.unit_answer v s)
unfolding Calls.unit_answer Calls.unit_refusal Calls.question_refusal
unit-bound v s = bound (question_reasons v (units s) s) (omega arith) (Calls.unit_refusal v s) refl s _ _ refl

pub link-bound : (j : ℕ) (s : State) → Bound (question_reasons j (links s) s) s (Calls.link_answer j s)
unfolding Calls.link_answer Calls.link_refusal Calls.question_refusal
link-bound j s = bound (question_reasons j (links s) s) (omega arith) (Calls.link_refusal j s) refl s _ _ refl

abbrev pub report_reasons : ℕ → State → List Reason
report_reasons places s = not_kept s ∷ before_end s ∷ too_short places (report_length (units s) (links s)) ∷ []

pub report-bound : (places : ℕ) (s : State) → Bound (report_reasons places s) s (Calls.report_answer places s)
unfolding Calls.report_answer Calls.report_refusal
report-bound places s = bound (report_reasons places s) (omega arith) (Calls.report_refusal s places) refl s _ _ refl

pub read-bound : (input : List ℕ) (places spaces : ℕ) (s : State)
    → Bound (read_reasons (lines_of input) places spaces) s (Calls.read_answer input places spaces s)
unfolding Calls.read_answer read_reasons
read-bound input places spaces s =
    bound (read_reasons (lines_of input) places spaces) (omega arith) (read_refusal (lines_of input) places spaces)
    (read_refusal-tests (lines_of input) places spaces) s _ _ refl

pub write_bound : (input : Input) (places : ℕ) (s : State)
    → Bound (write_reasons input.units input.words input.levels places) s (Calls.write_answer input places s)
unfolding Calls.write_answer write_reasons fresh_reasons stored_reasons
write_bound input places s =
    let n = input.units in
    let t = input.words in
    let ls = input.levels in
    bound (write_reasons n t ls places) (omega arith) (write_refusal n t ls places)
    (write_refusal-tests n t ls places) s _ _ refl
