-- The status record of a status call's reply on words, and the numbers of the two calls by that reply.
use Rattle.std.proofs.Math.Path.{◌≡◌, refl}
use Rattle.std.proofs.Math.Bool.{true}
use Rattle.std.specs.Prelude.{false, ◌⊎◌, List, ℕ, ltb, length, get_or}
use Rattle.std.proofs.Common.{inl, inr, arith}
use Rattle.base_lists.specs.Tests.{either}
use Rattle.table.specs.Refusals.{written}
use Rattle.spec_machine.specs.State.{State}
use Rattle.spec_machine.specs.WellFormed.{well_formed}
use Rattle.spec_machine.specs.Calls.{number_of, status_answer, status_refusal}
use Rattle.words_calls.specs.Face.{said}
use Rattle.handset_lines.specs.declared.Status.{Status}
use Rattle.handset_lines.specs.Lines.{status_of, line_refusal, room_refusal, line_answer, line_shown}

abbrev pub record_of : List ℕ → Status
record_of told = record {
  stage = get_or told 0 0;
  countdown = get_or told 1 0;
  rounds = get_or told 2 0;
  requests = get_or told 3 0;
}

module _ (s : State) where
  -- a status is refused exactly where the state is not kept, and only with 10
  pub status-kept : number_of (status_answer s).reply ≡ 0 → well_formed s ≡ true
  unfolding status_answer status_refusal
  status-kept z = go (either (well_formed s))
    where
      go : (well_formed s ≡ true) ⊎ (well_formed s ≡ false) → well_formed s ≡ true
      go (inl w) = w
      go (inr w) = absurd (ten (rw w at z))
        where
          ten : ◌≡◌ {A = ℕ} 10 0 → ⊥
          ten e = omega (arith, e)

  -- the record of its reply
  pub status_record : (old : List ℕ) → well_formed s ≡ true → record_of (said (status_answer s).reply old) ≡ status_of s
  unfolding status_answer status_refusal
  status_record old w = rw w refl

  module _ (needed : ℕ) (line out : List ℕ) where
    abbrev pub Told : ℕ → List ℕ → Type 0
    Told number new = (number ≡ number_of (line_answer needed (length out) s).reply)
        × (new ≡ line_shown needed line s out)

    pub told-status : (r : ℕ) → r ≡ number_of (status_answer s).reply → (r ≡ 0 → ⊥) → Told r out
    unfolding status_answer status_refusal line_answer line_shown line_refusal
    told-status r e h = go (either (well_formed s))
      where
        go : (well_formed s ≡ true) ⊎ (well_formed s ≡ false) → Told r out
        go (inl w) = absurd (h (rw w at e))
        go (inr w) = rw (e, w) (refl, refl)

    pub told_line : well_formed s ≡ true → (r : ℕ) (new : List ℕ) → r ≡ room_refusal needed (length out) →
        new ≡ written (room_refusal needed (length out)) line out
        → Told r new
    unfolding line_answer line_shown line_refusal room_refusal
    told_line w r new e slice = go (either (ltb (length out) needed))
      where
        go : (ltb (length out) needed ≡ true) ⊎ (ltb (length out) needed ≡ false) → Told r new
        go (inl b) = rw (e, slice, w, b) (refl, refl)
        go (inr b) = rw (e, slice, w, b) (refl, refl)
