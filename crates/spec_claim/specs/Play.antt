-- A list of calls, one after the other on the state that the last one left, by the definitions that the calls'
-- contracts cite.
use Rattle.std.specs.Prelude.{Bool, cond, List, [], ◌∷◌, ℕ, ◌+◌, eqb, length}
use Rattle.spec_machine.specs.State.{State}
use Rattle.spec_machine.specs.Calls.{Answer}
use Rattle.spec_state.specs.declared.reply.Reply.{Reply}
use Rattle.spec_state.specs.declared.reply.Reply.TheVariants.{Refused, Done, Made, Status, Unit, Link, Read, Written}
use Rattle.spec_machine.specs.Calls.{number_of, round_answer, run_answer, status_answer, unit_answer, link_answer}
use Rattle.spec_machine.specs.Calls.{report_answer, reported}

-- a call with any budget, number or slice
pub data Call : Type 0 where
  round : Call
  run : ℕ → Call
  status : Call
  unit : ℕ → Call
  link : ℕ → Call
  report : List ℕ → Call

-- what a call hands back
abbrev pub answer_to : Call → State → Answer
answer_to round s = round_answer s
answer_to (run budget) s = run_answer budget s
answer_to status s = status_answer s
answer_to (unit v) s = unit_answer v s
answer_to (link j) s = link_answer j s
answer_to (report out) s = report_answer (length out) s

-- what the lent slice holds after the call
abbrev pub slice_after : Call → State → List ℕ
slice_after round s = []
slice_after (run budget) s = []
slice_after status s = []
slice_after (unit v) s = []
slice_after (link j) s = []
slice_after (report out) s = reported s out

-- the last state, and the replies
pub record Played : Type 0 where
  pub last : State
  pub replies : List Reply

unfoldable pub play : List Call → State → Played
play [] s = record { last = s; replies = [] }
play (c ∷ cs) s =
    let later = play cs (answer_to c s).state in
    record { last = later.last; replies = (answer_to c s).reply ∷ later.replies }

-- ---- rounds, from the calls and the replies alone

-- what a run returned
abbrev pub returned : Reply → ℕ
returned (Refused k) = 0
returned Done = 0
returned (Made k) = k
returned (Status stage countdown rounds requests) = 0
returned (Unit v color parent place single) = 0
returned (Link position label lone) = 0
returned (Read units links) = 0
returned (Written k) = 0

-- one for a round call not refused, what a run not refused returned
abbrev pub used_by : Call → Reply → ℕ
used_by round r = cond (eqb (number_of r) 0) 1 0
used_by (run budget) r = returned r
used_by status r = 0
used_by (unit v) r = 0
used_by (link j) r = 0
used_by (report out) r = 0

unfoldable pub used : List Call → List Reply → ℕ
used [] rs = 0
used (c ∷ cs) [] = 0
used (c ∷ cs) (r ∷ rs) = used_by c r + used cs rs

-- one round by each round call, its budget by each run
abbrev pub asked_by : Call → ℕ
asked_by round = 1
asked_by (run budget) = budget
asked_by status = 0
asked_by (unit v) = 0
asked_by (link j) = 0
asked_by (report out) = 0

unfoldable pub asked : List Call → ℕ
asked [] = 0
asked (c ∷ cs) = asked_by c + asked cs
