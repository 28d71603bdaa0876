-- Words that are known as words settle what a call leaves by the state that it hands back.
use Rattle.std.specs.Prelude.{◌≡◌, refl, true, false, ◌⊎◌, List, ℕ, eqb}
use Rattle.std.proofs.Common.{sym, ap, ◌∙◌, inl, inr}
use Rattle.base_lists.specs.Tests.{either}
use Rattle.spec_state.specs.declared.reply.Reply.{Reply}
use Rattle.spec_state.specs.declared.reply.Reply.TheVariants.{Done, Made}
use Rattle.spec_machine.specs.State.{State}
use Rattle.spec_machine.specs.Run.{ran}
use Rattle.spec_machine.specs.Step.{step}
use Rattle.spec_machine.specs.Load.{Input, load_refusal, stored_load_refusal, loaded, planned_load_refusal}
use Rattle.spec_machine.specs.Load.{planned_loaded}
use Rattle.spec_machine.specs.Calls.{Answer, number_of, answered, load_answer, stored_load_answer, planned_load_answer}
use Rattle.spec_machine.specs.Calls.{round_refusal, round_answer, run_answer}
use Rattle.words_layout.specs.Layout.{state_of}
use Rattle.words_layout.specs.SameWords.{words_of, words_back, same-words}
use Rattle.words_known.specs.Known.{StateWords}
use Rattle.words_known.specs.Left.{Left}

pub words-of : (words : List ℕ) (s : State) → StateWords words → state_of words ≡ s → words ≡ words_of s
words-of words s known e = sym (words_back words known.long known.few) ∙ ap words_of e

pub words_same : (a b : List ℕ) → StateWords a → StateWords b → state_of a ≡ state_of b → a ≡ b
words_same a b p q e = same-words a b p.long q.long p.few q.few e

-- a refused answer hands the state back
unmoved : (k : ℕ) (s new : State) (reply : Reply) → number_of reply ≡ 0 →
    (number_of (answered k s new reply).reply ≡ 0 → ⊥) → (answered k s new reply).state ≡ s
unmoved k s new reply none h = go (either (eqb k 0))
  where
    go : (eqb k 0 ≡ true) ⊎ (eqb k 0 ≡ false) → (answered k s new reply).state ≡ s
    go (inl q) = absurd (h (rw q none))
    go (inr q) = rw q refl

module _ (before after : List ℕ) (old : StateWords before) (new : StateWords after) where
  by_answer : (answer : Answer) → state_of after ≡ answer.state →
      ((number_of answer.reply ≡ 0 → ⊥) → answer.state ≡ state_of before) → Left before after answer
  by_answer answer e back = record {
    state = e;
    words = words-of after answer.state new e;
    refused = λ h. words_same after before new old (e ∙ back h);
  }

  pub left_load : (input : Input) → state_of after ≡ (load_answer input (state_of before)).state →
      Left before after (load_answer input (state_of before))
  unfolding load_answer
  left_load input e = by_answer (answered (load_refusal input) (state_of before) (loaded input) Done) e
      (unmoved (load_refusal input) (state_of before) (loaded input) Done refl)

  pub left-stored : (input : Input) → state_of after ≡ (stored_load_answer input (state_of before)).state →
      Left before after (stored_load_answer input (state_of before))
  unfolding stored_load_answer
  left-stored input e = by_answer (answered (stored_load_refusal input) (state_of before) (loaded input) Done) e
      (unmoved (stored_load_refusal input) (state_of before) (loaded input) Done refl)

  pub left-planned : (input : Input) (ps : List ℕ)
      → state_of after ≡ (planned_load_answer input ps (state_of before)).state
      → Left before after (planned_load_answer input ps (state_of before))
  unfolding planned_load_answer
  left-planned input ps e =
      by_answer (answered (planned_load_refusal input ps) (state_of before) (planned_loaded input ps) Done) e
      (unmoved (planned_load_refusal input ps) (state_of before) (planned_loaded input ps) Done refl)

  pub left-round : state_of after ≡ (round_answer (state_of before)).state →
      Left before after (round_answer (state_of before))
  unfolding round_answer
  left-round e = by_answer (answered (round_refusal (state_of before)) (state_of before) (step (state_of before)) Done)
      e
      (unmoved (round_refusal (state_of before)) (state_of before) (step (state_of before)) Done refl)

  pub left-run : (budget : ℕ) → state_of after ≡ (run_answer budget (state_of before)).state →
      Left before after (run_answer budget (state_of before))
  unfolding run_answer
  left-run budget e =
      let s = state_of before in
      by_answer (answered (round_refusal s) s (ran budget 0 s).0 (Made (ran budget 0 s).1)) e
      (unmoved (round_refusal s) s (ran budget 0 s).0 (Made (ran budget 0 s).1) refl)
