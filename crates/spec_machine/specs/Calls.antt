-- Each call's answer: the state handed back and the reply. A refusal gives only its number, with the state as given and
-- nothing written.
use Rattle.std.specs.Prelude.{Bool, cond, not, List, [], ◌∷◌, ℕ, eqb, ltb, length}
use Rattle.table.specs.Refusals.{first_of, written}
use Rattle.file_spec.specs.File.{file_length, lines_of, read_refusal, write_refusal, units_in, link_frames}
use Rattle.spec_machine.specs.State.{State}
use Rattle.spec_state.specs.declared.reply.Reply.{Reply}
use Rattle.spec_state.specs.declared.reply.Reply.TheVariants.{Refused, Done, Made, Status, Unit, Link, Read, Written}
use Rattle.spec_machine.specs.State.{units, links, finished}
use Rattle.spec_machine.specs.Load.{Input, links_in, stored_load_refusal, load_refusal, loaded, planned_load_refusal}
use Rattle.spec_machine.specs.Load.{planned_loaded}
use Rattle.spec_machine.specs.WellFormed.{well_formed}
use Rattle.spec_machine.specs.Step.{step, countdown}
use Rattle.spec_machine.specs.Run.{ran}
use Rattle.spec_machine.specs.Report.{flag, unit_color, unit_parent, unit_place, unit_single, link_label, link_lone}
use Rattle.spec_machine.specs.Report.{report, report_length}

-- what a call hands back: the state, and its reply
pub record Answer : Type 0 where
  pub state : State
  pub reply : Reply

-- document 01's number of a reply: 0 where the call was not refused
abbrev pub number_of : Reply → ℕ
number_of (Refused k) = k
number_of Done = 0
number_of (Made k) = 0
number_of (Status stage countdown rounds requests) = 0
number_of (Unit unit color parent place single) = 0
number_of (Link position label lone) = 0
number_of (Read units links) = 0
number_of (Written k) = 0

-- the answer where refusal k came up, or the call was made (k = 0): the state after it and its reply
abbrev pub answered : ℕ → State → State → Reply → Answer
answered k s after reply = cond (eqb k 0) (record { state = after; reply = reply })
    (record { state = s; reply = Refused k })

-- the values of a reply, in document 01's order; a refusal has none but its number
abbrev pub values_of : Reply → List ℕ
values_of (Refused k) = []
values_of Done = []
values_of (Made k) = k ∷ []
values_of (Status stage countdown rounds requests) = stage ∷ countdown ∷ rounds ∷ requests ∷ []
values_of (Unit unit color parent place single) = unit ∷ color ∷ parent ∷ place ∷ flag single ∷ []
values_of (Link position label lone) = position ∷ label ∷ flag lone ∷ []
values_of (Read units links) = units ∷ links ∷ []
values_of (Written k) = k ∷ []

-- ---- load: 4 to 6, 15, 16, 7 to 9, 22; of a stored table (document 02, T-10) without 22

unfoldable pub load_answer : Input → State → Answer
load_answer input s = answered (load_refusal input) s (loaded input) Done

unfoldable pub stored_load_answer : Input → State → Answer
stored_load_answer input s = answered (stored_load_refusal input) s (loaded input) Done

-- with a planner's table of parents (document 02, T-05): 4 to 6, 15, 16, 7 to 9, 17, 18, 22
unfoldable pub planned_load_answer : Input → List ℕ → State → Answer
planned_load_answer input ps s = answered (planned_load_refusal input ps) s (planned_loaded input ps) Done

-- ---- round and run: 10, 11

unfoldable pub round_refusal : State → ℕ
round_refusal s = first_of ((10, not (well_formed s)) ∷ (11, finished s) ∷ [])

unfoldable pub round_answer : State → Answer
round_answer s = answered (round_refusal s) s (step s) Done

unfoldable pub run_answer : ℕ → State → Answer
run_answer budget s = answered (round_refusal s) s (ran budget 0 s).0 (Made (ran budget 0 s).1)

-- ---- status: 10

unfoldable pub status_refusal : State → ℕ
status_refusal s = first_of ((10, not (well_formed s)) ∷ [])

unfoldable pub status_answer : State → Answer
status_answer s = answered (status_refusal s) s s
    (Status s.clock.stage (countdown s) s.clock.rounds s.clock.requests)

-- ---- questions: 10, 12, 13

unfoldable pub question_refusal : State → Bool → ℕ
question_refusal s exists = first_of ((10, not (well_formed s)) ∷ (12, not (finished s)) ∷ (13, not exists) ∷ [])

unfoldable pub unit_refusal : ℕ → State → ℕ
unit_refusal v s = question_refusal s (ltb v (units s))

unfoldable pub unit_answer : ℕ → State → Answer
unit_answer v s = answered (unit_refusal v s) s s
    (Unit v (unit_color s v) (unit_parent s v) (unit_place s v) (unit_single s v))

unfoldable pub link_refusal : ℕ → State → ℕ
link_refusal j s = question_refusal s (ltb j (links s))

unfoldable pub link_answer : ℕ → State → Answer
link_answer j s = answered (link_refusal j s) s s (Link j (link_label s j) (link_lone s j))

-- ---- report: 10, 12, 14

unfoldable pub report_refusal : State → ℕ → ℕ
report_refusal s places =
    first_of
    ((10, not (well_formed s)) ∷ (12, not (finished s)) ∷ (14, ltb places (report_length (units s) (links s))) ∷ [])

unfoldable pub report_answer : ℕ → State → Answer
report_answer places s = answered (report_refusal s places) s s (Written (report_length (units s) (links s)))

-- the lent slice after a report
unfoldable pub reported : State → List ℕ → List ℕ
reported s out = written (report_refusal s (length out)) (report s) out

-- ---- files: the state is handed back as it came

-- reading a file into words and levels: 1, 2, 3, 6, 16, 14
unfoldable pub read_answer : List ℕ → ℕ → ℕ → State → Answer
read_answer input places spaces s =
    answered (read_refusal (lines_of input) places spaces) s s
    (Read (units_in (lines_of input)) (link_frames (lines_of input)))

-- writing a file from words and levels: 4 to 6, 15, 16, 7 to 9, 22, 14
unfoldable pub write_answer : Input → ℕ → State → Answer
write_answer input places s =
    answered (write_refusal input.units input.words input.levels places) s s
    (Written (file_length (links_in input)))
