-- What a list of calls does to a well-formed state: as many steps as it used, none past the end, and all that were
-- asked for unless the end came.
use Rattle.std.specs.Prelude.{◌≡◌, refl, Bool, true, false, cond, not, ◌⊎◌, ◌↔◌, List, [], ◌∷◌, ℕ, zero, suc, ◌+◌, ◌-◌}
use Rattle.std.specs.Prelude.{◌≤◌, ◌<◌, eqb, length}
use Rattle.std.proofs.Common.{sym, ap, ◌∙◌, inl, inr, not-suc-le-zero, arith}
use Rattle.std.proofs.Math.Decide.{dec_lt}
use Rattle.base_lists.specs.Tests.{either, not_both}
use Rattle.spec_machine.specs.State.{State}
use Rattle.spec_state.specs.declared.reply.Reply.{Reply}
use Rattle.spec_machine.specs.State.{finished}
use Rattle.spec_machine.specs.WellFormed.{well_formed}
use Rattle.spec_machine.specs.Step.{step, steps}
use Rattle.spec_machine.specs.Run.{ran}
use Rattle.spec_machine.specs.RunLaws
use Rattle.spec_machine.specs.RunLaws.{steps-add, steps-finished, steps-well_formed, ran-made}
use Rattle.spec_machine.specs.Calls.{number_of, answered, round_refusal, round_answer, run_answer, status_answer}
use Rattle.spec_machine.specs.Calls.{status_refusal, unit_answer, unit_refusal, link_answer, link_refusal}
use Rattle.spec_machine.specs.Calls.{report_answer}
use Rattle.spec_machine.specs.Calls.{report_refusal}
use Rattle.spec_claim.specs.Play.{Call, round, run, status, unit, link, report, answer_to, Played, play, used_by}
use Rattle.spec_claim.specs.Play.{used, asked_by, asked}

-- from s to s' by u steps that were not past the end: all `wanted`, or up to the end
pub record Spent (wanted : ℕ) (s s' : State) (u : ℕ) : Type 0 where
  pub state : s' ≡ steps u s
  pub going : (i : ℕ) → i < u → finished (steps i s) ≡ false
  pub stops : (u ≡ wanted) ⊎ (finished s' ≡ true)

-- nothing wanted, nothing done
idle : (s : State) → Spent 0 s s 0
unfolding steps
idle s = record { state = refl; going = λ i l. absurd (not-suc-le-zero l); stops = inl refl }

-- a finished survey has none left
over : (wanted : ℕ) (s : State) → finished s ≡ true → Spent wanted s s 0
unfolding steps
over wanted s f = record { state = refl; going = λ i l. absurd (not-suc-le-zero l); stops = inr f }

-- ---- one call

-- a call that makes no round hands the state back as it came, refused or not
pub unmoved : (k : ℕ) (s : State) (r : Reply) → (answered k s s r).state ≡ s
unmoved k s r = go (either (eqb k 0))
  where
    go : (eqb k 0 ≡ true) ⊎ (eqb k 0 ≡ false) → (answered k s s r).state ≡ s
    go (inl e) = rw e refl
    go (inr e) = rw e refl

-- one round
single : (s : State) → finished s ≡ false → Spent 1 s (step s) 1
unfolding steps
single s f = record { state = refl; going = first; stops = inl refl }
  where
    first : (i : ℕ) → i < 1 → finished (steps i s) ≡ false
    first zero l = f
    first (suc i) l = absurd (omega arith)

round-spent : (s : State) → well_formed s ≡ true
    → Spent 1 s (round_answer s).state (used_by round (round_answer s).reply)
unfolding round_answer round_refusal
round-spent s w = go (either (finished s))
  where
    go : (finished s ≡ true) ⊎ (finished s ≡ false) →
        Spent 1 s (round_answer s).state (used_by round (round_answer s).reply)
    go (inl f) = rw (w, f) (over 1 s f)
    go (inr f) = rw (w, f) (single s f)

run-spent : (budget : ℕ) (s : State) → well_formed s ≡ true
    → Spent budget s (run_answer budget s).state (used_by (run budget) (run_answer budget s).reply)
unfolding run_answer round_refusal
run-spent budget s w = go (either (finished s))
  where
    go : (finished s ≡ true) ⊎ (finished s ≡ false) →
        Spent budget s (run_answer budget s).state (used_by (run budget) (run_answer budget s).reply)
    go (inl f) = rw (w, f) (over budget s f)
    go (inr f) = rw (w, f) (record { state = m.state; going = m.going; stops = m.stops })
      where
        m : RunLaws.Made budget s (ran budget 0 s).0 (ran budget 0 s).1
        m = ran-made budget s

call-spent : (c : Call) (s : State) → well_formed s ≡ true →
    Spent (asked_by c) s (answer_to c s).state (used_by c (answer_to c s).reply)
unfolding status_answer unit_answer link_answer report_answer
call-spent round s w = round-spent s w
call-spent (run budget) s w = run-spent budget s w
call-spent status s w = rw (unmoved (status_refusal s) s _) (idle s)
call-spent (unit v) s w = rw (unmoved (unit_refusal v s) s _) (idle s)
call-spent (link j) s w = rw (unmoved (link_refusal j s) s _) (idle s)
call-spent (report out) s w = rw (unmoved (report_refusal s (length out)) s _) (idle s)

-- ---- a list of calls

-- one stretch after another
joined : (a b : ℕ) (s s' s'' : State) (u v : ℕ) → Spent a s s' u → Spent b s' s'' v → Spent (a + b) s s'' (u + v)
joined a b s s' s'' u v p q =
    record {
      state = q.state ∙ ap (steps v) p.state ∙ sym (steps-add u v s);
      going = λ i l. before i l (dec_lt i u);
      stops = stop p.stops q.stops;
    }
  where
    at-end : finished s' ≡ true → finished s'' ≡ true
    at-end f = rw (q.state ∙ steps-finished v s' f) f

    before : (i : ℕ) → i < u + v → Dec (i < u) → finished (steps i s) ≡ false
    before i l (yes h) = p.going i h
    before i l (no h) =
        let e : i ≡ u + (i - u) = omega arith in
        let g : steps i s ≡ steps (i - u) s' =
        ap (λ (k : ℕ). steps k s) e ∙ steps-add u (i - u) s ∙ ap (steps (i - u)) (sym p.state) in
        rw g (q.going (i - u) (omega arith))

    stop : (u ≡ a) ⊎ (finished s' ≡ true) → (v ≡ b) ⊎ (finished s'' ≡ true) → (u + v ≡ a + b) ⊎ (finished s'' ≡ true)
    stop x (inr f) = inr f
    stop (inl e) (inl g) = inl (omega arith)
    stop (inr f) (inl g) = inr (at-end f)

pub play-spent : (calls : List Call) (s : State) → well_formed s ≡ true →
    Spent (asked calls) s (play calls s).last (used calls (play calls s).replies)
unfolding play used asked
play-spent [] s w = idle s
play-spent (c ∷ cs) s w =
    joined (asked_by c) (asked cs) s (answer_to c s).state (play cs (answer_to c s).state).last _ _ first
    (play-spent cs (answer_to c s).state (rw first.state (steps-well_formed _ s w)))
  where
    first : Spent (asked_by c) s (answer_to c s).state (used_by c (answer_to c s).reply)
    first = call-spent c s w
