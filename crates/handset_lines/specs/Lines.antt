-- The two handsets of T-06 read one status record: the foreman's line is a frame of kind 20, the service line one of
-- kind 21. Here both lines, and what a call that shows one replies and leaves in the lent slice, for every state and at
-- every stage.
use Rattle.std.specs.Prelude.{Bool, not, cond, List, [], ◌∷◌, ◌++◌, ℕ, ◌%◌, ltb, length}
use Rattle.table.specs.Refusals.{first_of, written}
use Rattle.file_frames.specs.Frame.{word_bytes, line_of}
use Rattle.spec_state.specs.declared.reply.Reply.TheVariants.{Written}
use Rattle.spec_machine.specs.State.{State}
use Rattle.spec_machine.specs.WellFormed.{well_formed}
use Rattle.spec_machine.specs.Step.{countdown}
use Rattle.spec_machine.specs.Calls.{Answer, answered}
use Rattle.handset_lines.specs.declared.Status.{Status}

-- the status record of a state
abbrev pub status_of : State → Status
status_of s = record {
  stage = s.clock.stage;
  countdown = countdown s;
  rounds = s.clock.rounds;
  requests = s.clock.requests;
}

-- ---- the lines

-- 20: stage as one byte, countdown
abbrev pub foreman_body : Status → List ℕ
foreman_body t = 0x20 ∷ t.stage % 256 ∷ word_bytes t.countdown

-- 21: the same, then all rounds and requests
abbrev pub service_body : Status → List ℕ
service_body t = 0x21 ∷ t.stage % 256 ∷ word_bytes t.countdown ++ word_bytes t.rounds ++ word_bytes t.requests

unfoldable pub foreman_line : State → List ℕ
foreman_line s = line_of (foreman_body (status_of s))

unfoldable pub service_line : State → List ℕ
service_line s = line_of (service_body (status_of s))

-- their characters
abbrev pub FOREMAN-LINE : ℕ
FOREMAN-LINE = 11

abbrev pub SERVICE-LINE : ℕ
SERVICE-LINE = 19

-- ---- either line: the service line, or the foreman's

abbrev pub line_needed : Bool → ℕ
line_needed service = cond service SERVICE-LINE FOREMAN-LINE

abbrev pub line_body : Bool → Status → List ℕ
line_body service t = cond service (service_body t) (foreman_body t)

abbrev pub line_in : Bool → State → List ℕ
line_in service s = cond service (service_line s) (foreman_line s)

-- ---- a call that shows a line of so many characters: 10, 14

unfoldable pub line_refusal : ℕ → ℕ → State → ℕ
line_refusal needed places s = first_of ((10, not (well_formed s)) ∷ (14, ltb places needed) ∷ [])

-- 14 alone, of a slice and no state
unfoldable pub room_refusal : ℕ → ℕ → ℕ
room_refusal needed places = first_of ((14, ltb places needed) ∷ [])

unfoldable pub line_answer : ℕ → ℕ → State → Answer
line_answer needed places s = answered (line_refusal needed places s) s s (Written needed)

-- the lent slice afterwards
unfoldable pub line_shown : ℕ → List ℕ → State → List ℕ → List ℕ
line_shown needed line s out = written (line_refusal needed (length out) s) line out

-- ---- the two calls

abbrev pub foreman_answer : ℕ → State → Answer
foreman_answer places s = line_answer FOREMAN-LINE places s

abbrev pub foreman_shown : State → List ℕ → List ℕ
foreman_shown s out = line_shown FOREMAN-LINE (foreman_line s) s out

abbrev pub service_answer : ℕ → State → Answer
service_answer places s = line_answer SERVICE-LINE places s

abbrev pub service_shown : State → List ℕ → List ℕ
service_shown s out = line_shown SERVICE-LINE (service_line s) s out
