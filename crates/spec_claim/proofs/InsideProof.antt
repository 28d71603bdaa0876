-- What a call inside a list answers: proofs, from demand 3 for the calls in front of it.
use Rattle.std.specs.Prelude.{◌≡◌, true, false, ◌⊎◌, List, [], ◌∷◌, ◌++◌, ℕ, zero, suc, ◌+◌, ◌-◌, ◌≤◌, ◌<◌, min}
use Rattle.std.proofs.Math.Path.{refl}
use Rattle.std.proofs.Common.{sym, ap, ◌∙◌, inl, inr, arith}
use Rattle.std.proofs.Math.Decide.{dec_lt, dec_le}
use Rattle.std.proofs.Math.ListN.{length}
use borrow.Author.Tests.{eqb-true, eq-eqb, ne_eqb, lt-ltb, le-ltb}
use Rattle.base_lists.specs.Tests.{not_both}
use Rattle.spec_state.specs.declared.reply.Reply.{Reply}
use Rattle.spec_state.specs.declared.reply.Reply.TheVariants.{Made}
use Rattle.spec_machine.specs.State.{State, units, links, finished, FINISHED}
use Rattle.spec_machine.specs.WellFormed.{well_formed}
use Rattle.spec_machine.specs.Load.{Input, links_in, table_of}
use Rattle.spec_machine.specs.Step.{steps}
use Rattle.spec_machine.specs.Run.{ran}
use Rattle.spec_machine.specs.RunLaws
use Rattle.spec_machine.specs.RunLaws.{total, total-least, steps-add, steps-well_formed, ended-exact, ran-made}
use Rattle.spec_machine.specs.Report.{report_length}
use Rattle.spec_machine.specs.Calls.{round_answer, round_refusal, run_answer, question_refusal, unit_answer}
use Rattle.spec_machine.specs.Calls.{unit_refusal}
use Rattle.spec_machine.specs.Calls.{link_answer, link_refusal, report_answer, report_refusal, reported}
use Rattle.theory_reach.specs.Started.{Started}
use Rattle.theory_reach.specs.Reach.{table-steps}
use Rattle.spec_claim.specs.Play.{Call, round, run, status, unit, link, report, answer_to, slice_after, play, used}
use Rattle.spec_claim.proofs.PlayLaws.{play-spent}
use Rattle.spec_claim.specs.Claim.{Claim}
use Rattle.spec_claim.proofs.ClaimProof.{started, claim}
use Rattle.spec_claim.specs.Inside.{ToldBefore, ToldAfter, AnswersInside}

-- ---- where the reply stands

replies-length : (calls : List Call) (s : State) → length (play calls s).replies ≡ length calls
unfolding play
replies-length [] s = refl
replies-length (c ∷ cs) s = ap suc (replies-length cs (answer_to c s).state)

replies-parted : (front back : List Call) (s : State) →
    (play (front ++ back) s).replies ≡ (play front s).replies ++ (play back (play front s).last).replies
unfolding play
replies-parted [] back s = refl
replies-parted (c ∷ front) back s = ap (λ (l : List Reply). (answer_to c s).reply ∷ l)
    (replies-parted front back (answer_to c s).state)

first-reply : (x : Call) (back : List Call) (e : State) →
    (play (x ∷ back) e).replies ≡ (answer_to x e).reply ∷ (play back (answer_to x e).state).replies
unfolding play
first-reply x back e = refl

-- no round past the end
not_past : (s : State) → well_formed s ≡ true → (calls : List Call) → used calls (play calls s).replies ≤ total s
not_past s w calls = go (dec_lt (total s) (used calls (play calls s).replies))
  where
    go : Dec (total s < used calls (play calls s).replies) → used calls (play calls s).replies ≤ total s
    go (yes l) =
        absurd
        (not_both (finished (steps (total s) s)) (eq-eqb _ FINISHED (total-least s w).ends)
        ((play-spent calls s w).going (total s) l))
    go (no l) = omega arith

-- ---- the answer on the state that the calls in front left

module _ (input : Input) (s : State) (S : Started input s) (front : List Call) (e : State) (u : ℕ)
    (c : Claim input s front e u) where
  well : well_formed e ≡ true
  well = rw c.state (steps-well_formed u s S.kept)

  stage-end : (k : ℕ) → ((steps k s).clock.stage ≡ FINISHED) → total s ≤ k
  stage-end k = (ended-exact s S.kept k).0

  module _ (going : u < total s) where
    unfinished : finished e ≡ false
    unfinished = ne_eqb e.clock.stage FINISHED (λ q. let z : u ≡ total s = c.end.1 q in omega arith)

    made : (budget : ℕ) → (ran budget 0 e).1 ≡ min budget (total s - u)
    made budget = go (ran budget 0 e).1 (ran budget 0 e).0 (ran-made budget e)
      where
        there : (i : ℕ) → steps i e ≡ steps (u + i) s
        there i = ap (steps i) c.state ∙ sym (steps-add u i s)

        go : (j : ℕ) (e' : State) → RunLaws.Made budget e e' j → j ≡ min budget (total s - u)
        go j e' m = stop m.stops
          where
            -- not past the end: the round before the last was made of a survey that went on
            before-end : (i : ℕ) → j ≡ i → u + i ≤ total s
            before-end zero q = omega arith
            before-end (suc i) q = last (dec_le (total s) (u + i))
              where
                last : Dec (total s ≤ u + i) → u + suc i ≤ total s
                last (no h) = omega arith
                last (yes h) =
                    absurd
                    (not_both (finished (steps i e))
                    (eq-eqb (steps i e).clock.stage FINISHED
                    (rw (there i) ((ended-exact s S.kept (u + i)).1 h))) (m.going i (omega arith)))

            stop : (j ≡ budget) ⊎ (finished e' ≡ true) → j ≡ min budget (total s - u)
            stop (inl q) = omega (arith, before-end j refl)
            stop (inr f) =
                let q : (steps (u + j) s).clock.stage ≡ FINISHED =
                rw (← (there j), ← m.state) (eqb-true e'.clock.stage FINISHED f) in
                omega (arith, before-end j refl, stage-end (u + j) q, m.within)

    told-before : (x : Call) → ToldBefore e u (total s - u) x (answer_to x e).reply (slice_after x e)
    unfolding round_answer round_refusal run_answer unit_answer unit_refusal link_answer link_refusal question_refusal
        report_answer report_refusal reported
    told-before round = rw (well, unfinished) refl
    told-before (run budget) = rw (well, unfinished) (ap Made (made budget))
    told-before status = rw c.status refl
    told-before (unit v) = rw (well, unfinished) refl
    told-before (link j) = rw (well, unfinished) refl
    told-before (report out) = rw (well, unfinished) (refl, refl)

  module _ (over : u ≡ total s) where
    ended : finished e ≡ true
    ended = eq-eqb e.clock.stage FINISHED (c.end.0 over)

    table_kept : e.table ≡ table_of input
    table_kept = rw c.state (table-steps S u)

    site-units : units e ≡ input.units
    site-units = rw table_kept refl

    site-links : links e ≡ links_in input
    site-links = rw table_kept refl

    told-after : (x : Call) → ToldAfter input e u x (answer_to x e).reply (slice_after x e)
    unfolding round_answer round_refusal run_answer unit_answer unit_refusal link_answer link_refusal question_refusal
        report_answer report_refusal reported
    told-after round = rw (well, ended) refl
    told-after (run budget) = rw (well, ended) refl
    told-after status = rw (c.status, c.end.0 over) refl
    told-after (unit v) = (
      λ h. let q : v < units e = rw site-units h in rw (well, ended, lt-ltb v (units e) q) refl,
      λ h. let q : units e ≤ v = rw site-units h in rw (well, ended, le-ltb v (units e) q) refl,
    )
    told-after (link j) = (
      λ h. let q : j < links e = rw site-links h in rw (well, ended, lt-ltb j (links e) q) refl,
      λ h. let q : links e ≤ j = rw site-links h in rw (well, ended, le-ltb j (links e) q) refl,
    )
    told-after (report out) = (
      λ h.
          let q : report_length (units e) (links e) ≤ length out = rw (site-units, site-links) h in
          rw (well, ended, le-ltb (length out) (report_length (units e) (links e)) q) (
            rw (site-units, site-links) refl,
            refl,
          ),
      λ h.
          let q : length out < report_length (units e) (links e) = rw (site-units, site-links) h in
          rw (well, ended, lt-ltb (length out) (report_length (units e) (links e)) q) (refl, refl),
    )

pub answers_inside : AnswersInside
answers_inside input s l front x back =
    let S = started input s l in
    let c = claim input s l front in
    let e = (play front s).last in
    record {
      place = replies-length front s;
      replies = replies-parted front (x ∷ back) s
          ∙ ap (λ (r : List Reply). (play front s).replies ++ r) (first-reply x back e);
      within = not_past s S.kept front;
      before = λ h. told-before input s S front e (used front (play front s).replies) c h x;
      after = λ h. (c.right h, told-after input s S front e (used front (play front s).replies) c h x);
    }
