-- Demand 3, one claim about a whole list of calls: `Demand3`, at the end. Its only hypothesis is that some load
-- accepts. ClaimProof.antt proves it.
use Rattle.std.specs.Prelude.{◌≡◌, ◌↔◌, List, [], ℕ, ◌+◌, ◌*◌, ◌≤◌, ◌<◌, length, take, drop}
use Rattle.file_frames.specs.Frame.{line_of}
use Rattle.file_frames.specs.Bodies.{head_body, unit_body, label_body}
use Rattle.spec_state.specs.declared.reply.Reply.{Reply}
use Rattle.spec_state.specs.declared.reply.Reply.TheVariants.{Refused, Done, Made, Status, Unit, Link, Read, Written}
use Rattle.spec_machine.specs.State.{State, FINISHED}
use Rattle.spec_machine.specs.Load.{Input, links_in}
use Rattle.spec_machine.specs.Step.{steps, countdown}
use Rattle.spec_machine.specs.RunLaws.{Total, total}
use Rattle.spec_machine.specs.Report.{unit_color, unit_parent, unit_place, unit_single, link_label, link_lone, flag}
use Rattle.spec_machine.specs.Report.{report_length}
use Rattle.spec_machine.specs.Calls.{load_answer, stored_load_answer, planned_load_answer, status_answer, unit_answer}
use Rattle.spec_machine.specs.Calls.{link_answer, report_answer, reported}
use Rattle.theory_reach.specs.Reach.{SurveyRight}
use Rattle.theory_reach.specs.PartsRight.{PartsRight}
use Rattle.spec_claim.specs.Play.{Call, play, used, asked}

-- some load, called on any state whatever, was not refused and handed back s: load, that of a stored table (document
-- 02, T-10), or that with a planner's table of parents (T-05)
pub data Loaded (input : Input) (s : State) : Type 0 where
  fresh : (given : State) → load_answer input given ≡ record { state = s; reply = Done } → Loaded input s
  stored : (given : State) → stored_load_answer input given ≡ record { state = s; reply = Done } → Loaded input s
  planned : (parents : List ℕ) (given : State) →
      planned_load_answer input parents given ≡ record { state = s; reply = Done } → Loaded input s

-- the line of a report that carries an answer
abbrev pub line_for : Reply → List ℕ
line_for (Refused k) = []
line_for Done = []
line_for (Made k) = []
line_for (Status stage countdown rounds requests) = line_of (head_body rounds requests)
line_for (Unit v color parent place single) = line_of (unit_body v color parent place (flag single))
line_for (Link j label lone) = line_of (label_body j label (flag lone))
line_for (Read n m) = []
line_for (Written k) = []

-- at the end: the questions and the report are answered, they say the same, and what they say is right
pub record EndRight (input : Input) (e : State) (u : ℕ) : Type 0 where
  pub unit_answered : (v : ℕ) → v < input.units
      → unit_answer v e ≡ record {
        state = e;
        reply = Unit v (unit_color e v) (unit_parent e v) (unit_place e v) (unit_single e v);
      }
  pub link_answered : (j : ℕ) → j < links_in input →
      link_answer j e ≡ record { state = e; reply = Link j (link_label e j) (link_lone e j) }
  pub report_answered : (out : List ℕ) → report_length input.units (links_in input) ≤ length out
      → report_answer (length out) e ≡ record {
        state = e;
        reply = Written (report_length input.units (links_in input));
      }
  -- line 11 carries the rounds used; line 12 of v and line 13 of j are the frames of these very answers
  pub head_written : (out : List ℕ) → report_length input.units (links_in input) ≤ length out
      → take 13 (reported e out) ≡ line_of (head_body u e.clock.requests)
  pub unit_written : (out : List ℕ) → report_length input.units (links_in input) ≤ length out → (v : ℕ) →
      v < input.units
      → take 23 (drop (13 + 23 * v) (reported e out)) ≡ line_for (unit_answer v e).reply
  pub link_written : (out : List ℕ) → report_length input.units (links_in input) ≤ length out → (j : ℕ) →
      j < links_in input
      → take 15 (drop (13 + 23 * input.units + 15 * j) (reported e out)) ≡ line_for (link_answer j e).reply
  -- equal labels are a common ring, lone links are on none, single points are articulation points
  pub right : SurveyRight input e
  -- T-14: the parts add up
  pub parts : PartsRight input e

-- what holds of a list of calls from a load that handed back s
pub record Claim (input : Input) (s : State) (calls : List Call) (e : State) (u : ℕ) : Type 0 where
  -- the state is the one that the definitions leave after the rounds used
  pub state : e ≡ steps u s
  -- never more rounds than first shown
  pub within : u ≤ countdown s
  -- status is answered, with the rounds used as all rounds
  pub status : status_answer e ≡ record {
    state = e;
    reply = Status e.clock.stage (countdown e) u e.clock.requests;
  }
  -- `total` is the rounds that the ten stages take: the least count of steps that ends the survey
  pub least : Total s (total s)
  -- whoever asks for enough comes to the end
  pub enough : countdown s ≤ asked calls → u ≡ total s
  -- the end is where status gives stage 11
  pub end : (u ≡ total s) ↔ (e.clock.stage ≡ FINISHED)
  -- and there the survey is right
  pub right : u ≡ total s → EndRight input e u

-- DEMAND 3. For every table that a load accepts, on any state whatever, and every list of calls from the state that it
-- handed back.
abbrev pub Demand3 : Type 0
Demand3 =
    (input : Input) (s : State) → Loaded input s → (calls : List Call)
    → Claim input s calls (play calls s).last (used calls (play calls s).replies)
