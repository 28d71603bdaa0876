-- An answer by whether the call was refused.
use Rattle.std.specs.Prelude.{◌≡◌, refl, true, false, cond, ◌⊎◌, ℕ, eqb}
use Rattle.std.proofs.Common.{sym, inl, inr, eqb-true, eq-eqb, ne_eqb}
use Rattle.base_lists.specs.Tests.{either}
use Rattle.spec_machine.specs.State.{State}
use Rattle.spec_machine.specs.Calls.{Answer}
use Rattle.spec_state.specs.declared.reply.Reply.{Reply}
use Rattle.spec_state.specs.declared.reply.Reply.TheVariants.{Refused, Status}
use Rattle.spec_machine.specs.WellFormed.{well_formed}
use Rattle.spec_machine.specs.Step.{countdown}
use Rattle.spec_machine.specs.Calls.{number_of, answered, status_refusal, status_answer}

-- r is the number that came up
pub answered-refused : (k r : ℕ) (s after : State) (reply : Reply) → r ≡ k → (r ≡ 0 → ⊥)
    → ◌≡◌ {A = Answer} (record { state = s; reply = Refused r }) (answered k s after reply)
answered-refused k r s after reply e h = rw (sym e, ne_eqb r 0 h) refl

pub answered-made : (k : ℕ) (s after : State) (reply : Reply) → k ≡ 0
    → ◌≡◌ {A = Answer} (record { state = after; reply = reply }) (answered k s after reply)
answered-made k s after reply e = rw (eq-eqb k 0 e) refl

-- its number, of a call that replies with no refusal; and its state
module _ (k : ℕ) (s after : State) (reply : Reply) where
  pub answered-number : number_of reply ≡ 0 → number_of (answered k s after reply).reply ≡ k
  answered-number none = go (either (eqb k 0))
    where
      go : (eqb k 0 ≡ true) ⊎ (eqb k 0 ≡ false) → number_of (answered k s after reply).reply ≡ k
      go (inl q) = rw (q, none) (sym (eqb-true k 0 q))
      go (inr q) = rw q refl

  pub answered-state : (answered k s after reply).state ≡ cond (eqb k 0) after s
  answered-state = go (either (eqb k 0))
    where
      go : (eqb k 0 ≡ true) ⊎ (eqb k 0 ≡ false) → (answered k s after reply).state ≡ cond (eqb k 0) after s
      go (inl q) = rw q refl
      go (inr q) = rw q refl

-- ---- status

pub status-refused : (s : State) → well_formed s ≡ false →
    ◌≡◌ {A = Answer} (record { state = s; reply = Refused 10 }) (status_answer s)
unfolding status_answer status_refusal
status-refused s e = rw e refl

pub status-made : (s : State) → well_formed s ≡ true
    → ◌≡◌ {A = Answer} (record {
      state = s;
      reply = Status s.clock.stage (countdown s) s.clock.rounds s.clock.requests;
    }) (status_answer s)
unfolding status_answer status_refusal
status-made s e = rw e refl
