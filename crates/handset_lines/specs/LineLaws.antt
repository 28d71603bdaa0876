-- The answer and the slice of a call that shows a line, by whether the state is kept and the line fits.
use Rattle.std.specs.Prelude.{◌≡◌, Bool, true, false, List, ℕ, ◌≤◌, ◌<◌, length}
use Rattle.std.proofs.Math.Path.{refl, sym}
use Rattle.std.proofs.Common.{◌∙◌, arith}
use borrow.Author.Tests.{ne_eqb, lt-ltb, le-ltb}
use Rattle.table.specs.Refusals.{written}
use Rattle.file_frames.specs.Frame.{line_of, line_length, line_over}
use Rattle.file_frames.specs.FrameLaws.{length-line}
use Rattle.file_frames.specs.FrameRests.{line_over-fits}
use Rattle.spec_state.specs.declared.reply.Reply.TheVariants.{Refused, Written}
use Rattle.spec_machine.specs.State.{State}
use Rattle.spec_machine.specs.WellFormed.{well_formed}
use Rattle.spec_machine.specs.Calls.{Answer}
use Rattle.handset_lines.specs.Lines.{status_of, foreman_line, service_line, line_body, line_in, line_refusal}
use Rattle.handset_lines.specs.Lines.{room_refusal, line_answer, line_shown}

-- ---- the line of a body over a slice

module _ (needed : ℕ) (f out : List ℕ) where
  pub line-short : length out < needed →
      (14 ≡ room_refusal needed (length out)) × (out ≡ written (room_refusal needed (length out)) (line_of f) out)
  unfolding room_refusal
  line-short h = rw (lt-ltb (length out) needed h) (refl, refl)

  pub line-fits : line_length f ≡ needed → needed ≤ length out
      → (0 ≡ room_refusal needed (length out))
      × (line_over f out ≡ written (room_refusal needed (length out)) (line_of f) out)
  unfolding room_refusal
  line-fits e h = rw (le-ltb (length out) needed h) (
    refl,
    line_over-fits f out (omega (arith, e, h)) ∙ rw (length-line f) refl,
  )

-- the line in a state is that of its record
pub line_in_lem : (service : Bool) (s : State) → line_of (line_body service (status_of s)) ≡ line_in service s
unfolding foreman_line service_line
line_in_lem true s = refl
line_in_lem false s = refl

-- ---- the call

module _ (needed : ℕ) (s : State) (line out : List ℕ) where
  -- what the call hands back and leaves
  abbrev pub Told : Answer → List ℕ → Type 0
  Told answer new = (answer ≡ line_answer needed (length out) s) × (new ≡ line_shown needed line s out)

  pub told_malformed : well_formed s ≡ false → Told (record { state = s; reply = Refused 10 }) out
  unfolding line_answer line_shown line_refusal
  told_malformed w = rw w (refl, refl)

  -- of a kept state, 14 alone counts
  pub same-refusal : well_formed s ≡ true → line_refusal needed (length out) s ≡ room_refusal needed (length out)
  unfolding line_refusal room_refusal
  same-refusal w = rw w refl

  module _ (r : ℕ) (new : List ℕ) (well : well_formed s ≡ true) (number : r ≡ room_refusal needed (length out))
      (slice : new ≡ written (room_refusal needed (length out)) line out) where
    pub told-refused : (r ≡ 0 → ⊥) → Told (record { state = s; reply = Refused r }) new
    unfolding line_answer line_shown
    told-refused h =
        let e : line_refusal needed (length out) s ≡ r = same-refusal well ∙ sym number in
        (rw (e, ne_eqb r 0 h) refl, slice ∙ rw (e, sym number) refl)

    pub told-written : r ≡ 0 → Told (record { state = s; reply = Written needed }) new
    unfolding line_answer line_shown
    told-written z =
        let e : line_refusal needed (length out) s ≡ 0 = same-refusal well ∙ (sym number ∙ z) in
        (rw e refl, slice ∙ rw (e, sym number ∙ z) refl)
