-- Demand 3 inside a list of calls: `AnswersInside`, what any call of the list answers, by the rounds that the calls in
-- front of it used. InsideProof.antt proves it.
use Rattle.std.specs.Prelude.{◌≡◌, List, ◌∷◌, ◌++◌, ℕ, ◌-◌, ◌≤◌, ◌<◌, min, length, drop}
use Rattle.spec_state.specs.declared.reply.Reply.{Reply}
use Rattle.spec_state.specs.declared.reply.Reply.TheVariants.{Refused, Done, Made, Status, Unit, Link, Written}
use Rattle.spec_machine.specs.State.{State, FINISHED}
use Rattle.spec_machine.specs.Load.{Input, links_in}
use Rattle.spec_machine.specs.Step.{countdown}
use Rattle.spec_machine.specs.RunLaws.{total}
use Rattle.spec_machine.specs.Report.{unit_color, unit_parent, unit_place, unit_single, link_label, link_lone}
use Rattle.spec_machine.specs.Report.{report_length}
use Rattle.spec_machine.specs.Report.{report as reportOf}
use Rattle.spec_claim.specs.Play.{Call, round, run, status, unit, link, report, answer_to, slice_after, play, used}
use Rattle.spec_claim.specs.Claim.{Loaded, EndRight}

-- before the end, u rounds used and `left` to come, on the state e: a round is made, a run makes what is left or its
-- budget, status tells the rounds used; a question or report is refused with 12, and nothing is written
abbrev pub ToldBefore : State → ℕ → ℕ → Call → Reply → List ℕ → Type 0
ToldBefore e u left round reply lent = reply ≡ Done
ToldBefore e u left (run budget) reply lent = reply ≡ Made (min budget left)
ToldBefore e u left status reply lent = reply ≡ Status e.clock.stage (countdown e) u e.clock.requests
ToldBefore e u left (unit v) reply lent = reply ≡ Refused 12
ToldBefore e u left (link j) reply lent = reply ≡ Refused 12
ToldBefore e u left (report out) reply lent = (reply ≡ Refused 12) × (lent ≡ out)

-- after it: a round or run is refused with 11, status gives stage 11, and questions and report are answered from the
-- survey e, by what exists and by the slice's length
abbrev pub ToldAfter : Input → State → ℕ → Call → Reply → List ℕ → Type 0
ToldAfter input e u round reply lent = reply ≡ Refused 11
ToldAfter input e u (run budget) reply lent = reply ≡ Refused 11
ToldAfter input e u status reply lent = reply ≡ Status FINISHED (countdown e) u e.clock.requests
ToldAfter input e u (unit v) reply lent =
    (v < input.units → reply ≡ Unit v (unit_color e v) (unit_parent e v) (unit_place e v) (unit_single e v))
    × (input.units ≤ v → reply ≡ Refused 13)
ToldAfter input e u (link j) reply lent =
    (j < links_in input → reply ≡ Link j (link_label e j) (link_lone e j)) × (links_in input ≤ j → reply ≡ Refused 13)
ToldAfter input e u (report out) reply lent =
    (report_length input.units (links_in input) ≤ length out
    → (reply ≡ Written (report_length input.units (links_in input)))
    × (lent ≡ reportOf e ++ drop (length (reportOf e)) out))
    × (length out < report_length input.units (links_in input) → (reply ≡ Refused 14) × (lent ≡ out))

-- the call x after those in front, which left the state e and used u rounds
pub record Inside (input : Input) (s : State) (front : List Call) (x : Call) (back : List Call) (e : State)
    (u : ℕ) : Type 0 where
  -- its reply is number `length front` of the list's replies, from 0 on
  pub place : length (play front s).replies ≡ length front
  pub replies : (play (front ++ x ∷ back) s).replies
      ≡ (play front s).replies ++ (answer_to x e).reply ∷ (play back (answer_to x e).state).replies
  -- never more rounds used than the ten stages take
  pub within : u ≤ total s
  pub before : u < total s → ToldBefore e u (total s - u) x (answer_to x e).reply (slice_after x e)
  -- where the end was reached the survey that is asked is right
  pub after : u ≡ total s → EndRight input e u × ToldAfter input e u x (answer_to x e).reply (slice_after x e)

-- INSIDE A LIST. For every table that a load accepts, every list of calls and each call of it.
abbrev pub AnswersInside : Type 0
AnswersInside =
    (input : Input) (s : State) → Loaded input s → (front : List Call) (x : Call) (back : List Call)
    → Inside input s front x back (play front s).last (used front (play front s).replies)
