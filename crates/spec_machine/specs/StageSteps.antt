-- A run that has come to a stage, or has spent its budget; and that a stage's rounds bring it to the next.
use Rattle.std.specs.Prelude.{◌≡◌, refl, Bool, true, false, cond, ◌&&◌, ◌⊎◌, T, ltb}
use Rattle.std.proofs.Common.{sym, ap, ◌∙◌, arith}
use Rattle.std.proofs.Math.Logic.{inl, inr}
use Prim.Native.Nat.{ℕ, zero, suc, ◌+◌, ◌-◌, ◌≤◌, ◌<◌}
use Rattle.std.proofs.Math.Decide.{ℕ_discrete}
use Rattle.base_lists.specs.Tests.{either, not_both, and_right, and-true}
use Rattle.spec_machine.specs.State.{State}
use Rattle.spec_rules.specs.Fits.{links_fit}
use Rattle.spec_state.specs.declared.groups.Clock.{Clock}
use Rattle.spec_state.specs.declared.groups.Table.{Table}
use Rattle.spec_machine.specs.State.{units, links, with_clock, FINISHED}
use Rattle.spec_machine.specs.WellFormed.{well_formed}
use Rattle.spec_machine.specs.Kept.{kept-exact}
use Rattle.spec_machine.specs.KeptLaws.{links-fit}
use Rattle.spec_machine.specs.Step
use Rattle.spec_machine.specs.StageLaws.{step-going, step-at, ends-at, requests-at}
use Rattle.spec_machine.specs.Run.{ran}
use Rattle.spec_machine.specs.Going.{Going, begins, goes_on, spent, ended}
use Rattle.spec_machine.specs.StageRun.{stage_run}
use Rattle.spec_machine.specs.InStage.{ready, last_at, in_stage, stands, in_stage_lem}

-- s after so many rounds of a run from s₀: it stands in stage k or past it, or the budget is spent
record CameTo (k budget : ℕ) (s₀ : State) (made : ℕ) (s : State) : Type 0 where
  pub going : Going budget s₀ made s
  pub past : (made ≡ budget) ⊎ (k ≤ s.clock.stage)

-- what the rounds of a stage are to the state that they change: `one` is a step, `count` its rounds made, and a
-- well-formed state passes the test `fits`
pub record Stage {X : Type 0} (k n : ℕ) (fits : Bool) (clock : X → Clock) (one : X → X) (count : X → ℕ) (into : X →
    State) : Type 0 where
  pub small : k ≤ 10
  pub site : (x : X) → units (into x) ≡ n
  pub clocks : (x : X) → (into x).clock ≡ clock x
  pub fit : (x : X) → well_formed (into x) ≡ true → fits ≡ true
  pub counts : (x : X) → count (one x) ≡ count x + 1
  pub steps : (x : X) → well_formed (into x) ≡ true → (into x).clock.stage ≡ k → into (one x) ≡ Step.step (into x)

-- a step at stage k, by what the stage's own rules say
pub step_by : (k : ℕ) → T (ltb k FINISHED) → (s : State) → s.clock.stage ≡ k
    → Step.step s ≡ with_clock (Step.next_clock (last_at (units s) (Step.ends_at k s) s.clock) (Step.requests_at k s)
    s.clock) (Step.tables_at k s)
unfolding last_at Step.last_round
step_by k l s e = step-at k l s e ∙ rw (ends-at k s e, requests-at k s e) refl

-- a stage that leaves the table of links as it is, where the links fit
pub on-links : {X : Type 0} {k : ℕ} {clock : X → Clock} {one : X → X} {count : X → ℕ} {into : X → State} (s : State) →
    k ≤ 10
    → ((x : X) → (into x).table ≡ s.table) → ((x : X) → (into x).clock ≡ clock x) →
    ((x : X) → count (one x) ≡ count x + 1)
    → ((x : X) → well_formed (into x) ≡ true → (into x).clock.stage ≡ k → into (one x) ≡ Step.step (into x))
    → Stage k (units s) (links_fit (units s) (links s) s.table.ends) clock one count into
on-links {into = into} s small kept clocks counts steps =
    record {
      small = small;
      site = λ x. ap (λ (t : Table). t.units) (kept x);
      clocks = clocks;
      fit = λ x w. sym (ap (λ (t : Table). links_fit t.units t.links t.ends) (kept x)) ∙ links-fit (into x) w;
      counts = counts;
      steps = steps;
    }

-- a run begins in some stage
came_first : (budget : ℕ) (s : State) → well_formed s ≡ true → CameTo 1 budget s 0 s
came_first budget s w = record { going = begins budget s w; past = inr ((kept-exact s).0 w).from }

-- past the tenth stage, or with the budget spent, it has ended
came_last : (budget : ℕ) (s₀ : State) (made : ℕ) (s : State) → CameTo 11 budget s₀ made s → ran budget 0 s₀ ≡ (s, made)
came_last budget s₀ made s r = go r.past
  where
    go : (made ≡ budget) ⊎ (11 ≤ s.clock.stage) → ran budget 0 s₀ ≡ (s, made)
    go (inl e) = spent budget s₀ made s r.going (omega (arith, e))
    go (inr l) = ended budget s₀ made s r.going l

-- the stage never falls
next-stage : (last : Bool) (requests : ℕ) (c : Clock) → c.stage ≤ (Step.next_clock last requests c).stage
unfolding Step.next_clock
next-stage true requests c = omega arith
next-stage false requests c = omega arith

step-stage : (s : State) → (s.clock.stage ≡ FINISHED → ⊥) → s.clock.stage ≤ (Step.step s).clock.stage
step-stage s h = rw (step-going s h) (next-stage (Step.last_round s) (Step.round_requests s) s.clock)

module _ (X : Type 0) (k n : ℕ) (fits : Bool) (clock : X → Clock) (one : X → X) (count : X → ℕ) (into : X →
    State) (st : Stage k n fits clock one count into) where
  abbrev on : X → Bool
  on x = fits && in_stage n k (clock x)

  unfinished : (x : X) → (into x).clock.stage ≡ k → (into x).clock.stage ≡ FINISHED → ⊥
  unfinished x e f = omega (arith, st.small, e, f)

  here : (x : X) → on x ≡ true → (into x).clock.stage ≡ k
  here x h = rw (st.clocks x) (stands n k (clock x) (and_right fits (in_stage n k (clock x)) h))

  -- where the test fails the stage is another
  gone : (x : X) → well_formed (into x) ≡ true → on x ≡ false → (into x).clock.stage ≡ k → ⊥
  gone x w h e =
      let r = rw (st.site x, st.clocks x) at (ready (into x) w (unfinished x e)) in
      not_both (on x) (and-true fits (in_stage n k (clock x)) (st.fit x w)
      (in_stage_lem n k (clock x) r (rw (st.clocks x) at e))) h

  stage_through : (budget : ℕ) (s₀ : State) (m b : ℕ) (x : X) → Going budget s₀ (m + count x) (into x) →
      b + (m + count x) ≡ budget → k ≤ (into x).clock.stage
      → CameTo (suc k) budget s₀ (m + count (stage_run on one b x)) (into (stage_run on one b x))
  unfolding stage_run
  stage_through budget s₀ m zero x g e l = record { going = g; past = inl (omega (arith, e)) }
  stage_through budget s₀ m (suc b) x g e l = go (either (on x)) (stage_through budget s₀ m b (one x))
    where
      go : (on x ≡ true) ⊎ (on x ≡ false)
          → (Going budget s₀ (m + count (one x)) (into (one x)) → b + (m + count (one x)) ≡ budget →
          k ≤ (into (one x)).clock.stage
          → CameTo (suc k) budget s₀ (m + count (stage_run on one b (one x))) (into (stage_run on one b (one x))))
          → CameTo (suc k) budget s₀ (m + count (stage_run on one (suc b) x)) (into (stage_run on one (suc b) x))
      go (inl h) later =
          let at : (into x).clock.stage ≡ k = here x h in
          let stepped : into (one x) ≡ Step.step (into x) = st.steps x g.well at in
          let more : (m + count x) + 1 ≡ m + count (one x) = omega (arith, st.counts x) in
          let rises : (into x).clock.stage ≤ (into (one x)).clock.stage =
          rw stepped (step-stage (into x) (unfinished x at)) in
          rw h
          (later
          (rw more at (goes_on budget s₀ (m + count x) (into x) (into (one x)) g (omega (arith, e))
          (unfinished x at) stepped))
          (omega (arith, e, more)) (omega (arith, l, rises)))
      go (inr h) later =
          let other : (into x).clock.stage ≡ k → ⊥ = gone x g.well h in
          rw h (record { going = g; past = inr (omega (arith, l, other)) })

  -- a run that has come to the stage comes to the next by the rounds that its budget has left
  came_next : (budget : ℕ) (s₀ : State) (made : ℕ) (x : X) → count x ≡ 0 → CameTo k budget s₀ made (into x)
      → CameTo (suc k) budget s₀ (made + count (stage_run on one (budget - made) x))
      (into (stage_run on one (budget - made) x))
  unfolding stage_run
  came_next budget s₀ made x none r = go r.past
    where
      none_yet : made + count x ≡ made
      none_yet = omega (arith, none)

      go : (made ≡ budget) ⊎ (k ≤ (into x).clock.stage)
          → CameTo (suc k) budget s₀ (made + count (stage_run on one (budget - made) x))
          (into (stage_run on one (budget - made) x))
      go (inl e) =
          let spent : budget - made ≡ 0 = omega (arith, e) in
          rw (spent, none_yet) (record { going = r.going; past = inl e })
      go (inr l) =
          stage_through budget s₀ made (budget - made) x (rw none_yet r.going)
          (omega (arith, none, r.going.within)) l

-- ---- one arm of a run by value: the rounds of the stage that the clock shows, at least one

-- rounds are never taken back
grows : {X : Type 0} (on : X → Bool) (one : X → X) (count : X → ℕ) → ((x : X) → count (one x) ≡ count x + 1) →
    (b : ℕ) (x : X)
    → count x ≤ count (stage_run on one b x)
unfolding stage_run
grows on one count counts zero x = omega arith
grows on one count counts (suc b) x = go (either (on x)) (grows on one count counts b (one x))
  where
    go : (on x ≡ true) ⊎ (on x ≡ false) → count (one x) ≤ count (stage_run on one b (one x)) →
        count x ≤ count (stage_run on one (suc b) x)
    go (inl h) later = rw h (omega (arith, later, counts x))
    go (inr h) later = rw h (omega arith)

-- where the test holds at least one is made
moves : {X : Type 0} (on : X → Bool) (one : X → X) (count : X → ℕ) → ((x : X) → count (one x) ≡ count x + 1) →
    (b : ℕ) (x : X)
    → on x ≡ true → 1 ≤ b → 1 ≤ count (stage_run on one b x)
unfolding stage_run
moves on one count counts zero x h l = omega (arith, l)
moves on one count counts (suc b) x h l = rw h (omega (arith, grows on one count counts b (one x), counts x))

pub arm : {X : Type 0} {k n : ℕ} {fits : Bool} {clock : X → Clock} {one : X → X} {count : X → ℕ} {into : X → State} →
    Stage k n fits clock one count into
    → (budget : ℕ) (s₀ : State) (made : ℕ) (x y : X) (s s' : State) → Going budget s₀ made s → made < budget →
    s.clock.stage ≡ k
    → count x ≡ 0 → into x ≡ s → y ≡ stage_run (λ (x : X). fits && in_stage n k (clock x)) one (budget - made) x →
    s' ≡ into y
    → Going budget s₀ (made + count y) s' × (1 ≤ count y)
arm {X} {k} {n} {fits} {clock} {one} {count} {into} st budget s₀ made x y s s' g l e none at run after =
    let g' : Going budget s₀ made (into x) = rw at g in
    let e' : (into x).clock.stage ≡ k = rw at e in
    let unfinished : (into x).clock.stage ≡ FINISHED → ⊥ = λ f. omega (arith, st.small, e', f) in
    let r = rw (st.site x, st.clocks x) at (ready (into x) g'.well unfinished) in
    let on : (fits && in_stage n k (clock x)) ≡ true =
    and-true fits (in_stage n k (clock x)) (st.fit x g'.well) (in_stage_lem n k (clock x) r (rw (st.clocks x) at e')) in
    let next = came_next X k n fits clock one count into st budget s₀ made x none
    (record { going = g'; past = inr (omega (arith, e')) }) in (
      rw (after, run) next.going,
      rw run (moves (λ (x : X). fits && in_stage n k (clock x)) one count st.counts (budget - made) x on
          (omega (arith, l))),
    )

-- rounds made from s leave s', where the clock shows one of the ten stages: a run with so many rounds left goes on, by
-- at least one
abbrev pub Moved : ℕ → State → ℕ → State → Type 0
Moved budget s made s' =
    (b : ℕ) (s₀ : State) (m : ℕ) → Going b s₀ m s → m < b → b - m ≡ budget → Going b s₀ (m + made) s' × (1 ≤ made)

pub moved : {X : Type 0} {k n : ℕ} {fits : Bool} {clock : X → Clock} {one : X → X} {count : X → ℕ} {into : X → State} →
    Stage k n fits clock one count into
    → (budget : ℕ) (x y : X) (s s' : State) → s.clock.stage ≡ k
    → count x ≡ 0 → into x ≡ s → y ≡ stage_run (λ (x : X). fits && in_stage n k (clock x)) one budget x → s' ≡ into y
    → Moved budget s (count y) s'
moved st budget x y s s' e none at run after b s₀ m g l left =
    arm st b s₀ m x y s s' g l e none at (rw (sym left) at run) after
