-- The proof of demand 3.
use Rattle.std.specs.Prelude.{◌≡◌, Bool, true, false, cond, not, ◌⊎◌, ◌↔◌, List, [], ◌∷◌, ◌++◌, ℕ, zero, suc, ◌+◌, ◌*◌}
use Rattle.std.specs.Prelude.{◌≤◌, ◌<◌, eqb, ltb}
use Rattle.std.proofs.Math.Path.{refl, sym, ap}
use Rattle.std.proofs.Common.{◌∙◌, inl, inr}
use Rattle.std.proofs.Math.Decide.{dec_lt}
use native.Mathlib.Omega.{arith}
use Rattle.std.proofs.Math.ListN.{length, take, drop}
use borrow.Author.Tests.{eqb-true, eqb-false, eq-eqb, ne_eqb, lt-ltb, le-ltb}
use Rattle.base_lists.specs.Tests.{either, not_both}
use Rattle.file_frames.specs.Frame.{line_of}
use Rattle.file_frames.specs.Bodies.{head_body}
use Rattle.spec_state.specs.declared.reply.Reply.TheVariants.{Done, Status, Unit, Link, Written}
use Rattle.spec_machine.specs.State.{State, units, links, finished, FINISHED}
use Rattle.spec_machine.specs.WellFormed.{well_formed}
use Rattle.spec_machine.specs.Load.{Input, links_in, load_refusal, stored_load_refusal, table_of, loaded}
use Rattle.spec_machine.specs.Load.{planned_load_refusal}
use Rattle.spec_machine.specs.Load.{planned_loaded}
use Rattle.spec_machine.specs.LoadLaws.{load_accepted}
use Rattle.spec_machine.specs.Step.{step, steps, countdown}
use Rattle.spec_machine.specs.RunLaws.{total, total-least, total-countdown, ended-exact, steps-well_formed}
use Rattle.spec_machine.specs.Report.{unit_color, unit_parent, unit_place, unit_single, link_label, link_lone, report}
use Rattle.spec_machine.specs.Report.{report_length, head_line, unit_line, link_line}
use Rattle.spec_machine.specs.ReportLaws.{head_at, unit-at, link_at}
use Rattle.spec_machine.specs.Calls.{Answer, number_of, answered, load_answer, stored_load_answer, planned_load_answer}
use Rattle.spec_machine.specs.Calls.{status_answer, status_refusal, question_refusal, unit_answer, unit_refusal}
use Rattle.spec_machine.specs.Calls.{link_answer}
use Rattle.spec_machine.specs.Calls.{link_refusal, report_answer, report_refusal, reported}
use Rattle.theory_reach.specs.Started.{Started, loaded-started}
use Rattle.theory_reach.specs.PlannedStart.{planned-started}
use Rattle.theory_reach.specs.Reach.{survey-right, table-steps, rounds-steps}
use Rattle.theory_reach.specs.PartsRightProof.{parts-right}
use Rattle.spec_claim.specs.Play.{Call, play, used, asked}
use Rattle.spec_claim.proofs.PlayLaws.{Spent, play-spent}
use Rattle.spec_claim.specs.Claim.{Loaded, fresh, stored, planned, line_for, EndRight, Claim, Demand3}

-- ---- every load starts a survey

-- an answer that was not refused is that of the call made
answer-done : (k : ℕ) (given after s : State) → answered k given after Done ≡ record { state = s; reply = Done } →
    (k ≡ 0) × (s ≡ after)
answer-done k given after s a = go (either (eqb k 0))
  where
    go : (eqb k 0 ≡ true) ⊎ (eqb k 0 ≡ false) → (k ≡ 0) × (s ≡ after)
    go (inl e) = (eqb-true k 0 e, sym (ap (λ (x : Answer). x.state) (rw e at a)))
    go (inr e) = absurd (eqb-false k 0 e (ap (λ (x : Answer). number_of x.reply) (rw e at a)))

-- every load starts a survey
pub started : (input : Input) (s : State) → Loaded input s → Started input s
unfolding load_answer stored_load_answer planned_load_answer
started input s (fresh given a) =
    let (accepted, q) = answer-done (load_refusal input) given (loaded input) s a in
    rw q (loaded-started input (load_accepted input accepted))
started input s (stored given a) =
    let (accepted, q) = answer-done (stored_load_refusal input) given (loaded input) s a in
    rw q (loaded-started input accepted)
started input s (planned parents given a) =
    let (accepted, q) = answer-done (planned_load_refusal input parents) given (planned_loaded input parents) s a in
    rw q (planned-started input parents accepted)

-- ---- a list of calls from a start

module _ (input : Input) (s₀ : State) (S : Started input s₀) (calls : List Call) where
  e : State
  e = (play calls s₀).last

  u : ℕ
  u = used calls (play calls s₀).replies

  w : well_formed s₀ ≡ true
  w = S.kept

  spent : Spent (asked calls) s₀ (play calls s₀).last (used calls (play calls s₀).replies)
  spent = play-spent calls s₀ w

  -- no round past the end
  not_past : u ≤ total s₀
  unfolding u
  not_past = go (dec_lt (total s₀) (used calls (play calls s₀).replies))
    where
      go : Dec (total s₀ < used calls (play calls s₀).replies) → used calls (play calls s₀).replies ≤ total s₀
      go (yes l) =
          absurd (not_both (finished (steps (total s₀) s₀)) (eq-eqb _ FINISHED (total-least s₀ w).ends)
          (spent.going (total s₀) l))
      go (no l) = omega arith

  well : well_formed e ≡ true
  unfolding e
  well = rw spent.state (steps-well_formed _ s₀ w)

  rounds-used : e.clock.rounds ≡ u
  unfolding e u
  rounds-used = rw spent.state (rounds-steps S (used calls (play calls s₀).replies) not_past)

  status-said : status_answer e ≡ record {
    state = e;
    reply = Status e.clock.stage (countdown e) u e.clock.requests;
  }
  unfolding status_answer status_refusal
  status-said = rw (well, sym rounds-used) refl

  ended : (u ≡ total s₀) ↔ (e.clock.stage ≡ FINISHED)
  unfolding e u
  ended = (λ q. rw spent.state (x.1 (omega arith)), λ q. omega (arith, not_past, x.0 (rw spent.state at q)))
    where
      x : ((steps (used calls (play calls s₀).replies) s₀).clock.stage ≡ FINISHED)
          ↔ (total s₀ ≤ used calls (play calls s₀).replies)
      x = ended-exact s₀ w (used calls (play calls s₀).replies)

  asked-enough : countdown s₀ ≤ asked calls → u ≡ total s₀
  unfolding e u
  asked-enough l = go spent.stops
    where
      go : (used calls (play calls s₀).replies ≡ asked calls) ⊎ (finished (play calls s₀).last ≡ true)
          → used calls (play calls s₀).replies ≡ total s₀
      go (inl q) = omega (arith, not_past, total-countdown s₀)
      go (inr f) = ended.1 (eqb-true (play calls s₀).last.clock.stage FINISHED f)

  -- ---- at the end

  table_kept : e.table ≡ table_of input
  unfolding e
  table_kept = rw spent.state (table-steps S (used calls (play calls s₀).replies))

  site-units : units e ≡ input.units
  site-units = rw table_kept refl

  site-links : links e ≡ links_in input
  site-links = rw table_kept refl

  module _ (over : u ≡ total s₀) where
    at-end : finished e ≡ true
    at-end = eq-eqb e.clock.stage FINISHED (ended.0 over)

    unit-said : (v : ℕ) → v < input.units →
        unit_answer v e ≡ record {
          state = e;
          reply = Unit v (unit_color e v) (unit_parent e v) (unit_place e v) (unit_single e v);
        }
    unfolding unit_answer unit_refusal question_refusal
    unit-said v l = let q : v < units e = rw site-units l in rw (well, at-end, lt-ltb v (units e) q) refl

    link-said : (j : ℕ) → j < links_in input →
        link_answer j e ≡ record { state = e; reply = Link j (link_label e j) (link_lone e j) }
    unfolding link_answer link_refusal question_refusal
    link-said j l = let q : j < links e = rw site-links l in rw (well, at-end, lt-ltb j (links e) q) refl

    -- a slice that is long enough takes the report
    refusal-none : (out : List ℕ) → report_length input.units (links_in input) ≤ length out →
        report_refusal e (length out) ≡ 0
    unfolding report_refusal
    refusal-none out l =
        let q : report_length (units e) (links e) ≤ length out = rw (site-units, site-links) l in
        rw (well, at-end, le-ltb (length out) (report_length (units e) (links e)) q) refl

    report-said : (out : List ℕ) → report_length input.units (links_in input) ≤ length out
        → report_answer (length out) e ≡ record {
          state = e;
          reply = Written (report_length input.units (links_in input));
        }
    unfolding report_answer
    report-said out l = rw (refusal-none out l, site-units, site-links) refl

    report-written : (out : List ℕ) → report_length input.units (links_in input) ≤ length out →
        reported e out ≡ report e ++ drop (length (report e)) out
    unfolding reported
    report-written out l = rw (refusal-none out l) refl

    head-written : (out : List ℕ) → report_length input.units (links_in input) ≤ length out
        → take 13 (reported e out) ≡ line_of (head_body u e.clock.requests)
    unfolding head_line
    head-written out l = rw (report-written out l, head_at e (drop (length (report e)) out), rounds-used) refl

    unit-written : (out : List ℕ) → report_length input.units (links_in input) ≤ length out → (v : ℕ) →
        v < input.units
        → take 23 (drop (13 + 23 * v) (reported e out)) ≡ line_for (unit_answer v e).reply
    unfolding unit_line
    unit-written out l v h =
        let q : v < units e = rw site-units h in
        rw (report-written out l, unit-at e (drop (length (report e)) out) v q, unit-said v h) refl

    link-written : (out : List ℕ) → report_length input.units (links_in input) ≤ length out → (j : ℕ) →
        j < links_in input
        → take 15 (drop (13 + 23 * input.units + 15 * j) (reported e out)) ≡ line_for (link_answer j e).reply
    unfolding link_line
    link-written out l j h =
        let q : j < links e = rw site-links h in
        let x : take 15 (drop (13 + 23 * input.units + 15 * j) (report e ++ drop (length (report e)) out))
        ≡ link_line e j =
        ap (λ (k : ℕ). take 15 (drop (13 + 23 * k + 15 * j) (report e ++ drop (length (report e)) out)))
        (sym site-units) ∙ link_at e (drop (length (report e)) out) j q in
        rw (report-written out l, x, link-said j h) refl

    end-right : EndRight input e u
    unfolding e u
    end-right =
        record {
          unit_answered = unit-said;
          link_answered = link-said;
          report_answered = report-said;
          head_written = head-written;
          unit_written = unit-written;
          link_written = link-written;
          right = rw (spent.state, over) (survey-right S).3;
          parts = rw (spent.state, over) (parts-right S (total s₀) (total-least s₀ w).ends);
        }

  claim-started : Claim input s₀ calls e u
  unfolding e u
  claim-started =
      record {
        state = spent.state;
        within = omega (arith, not_past, total-countdown s₀);
        status = status-said;
        least = total-least s₀ w;
        enough = asked-enough;
        end = ended;
        right = end-right;
      }

pub claim : Demand3
unfolding e u
claim input s l calls = claim-started input s (started input s l) calls
