-- By whether the call is refused. A round is a run of one, of the stage that the clock shows.
use mathlib.Core.Path.{◌≡◌, refl, sym, ap, ◌∙◌}
use mathlib.Core.Bool.{true, false}
use Prim.Native.Nat.{ℕ, ◌+◌, ◌≤◌}
use native.Mathlib.Omega.{arith}
use borrow.Author.Tests.{ne_eqb, eqb-false}
use Rattle.spec_state.specs.declared.groups.Clock.{Clock}
use Rattle.spec_machine.specs.State.{State, finished, FINISHED}
use Rattle.spec_machine.specs.WellFormed.{well_formed}
use Rattle.spec_machine.specs.Kept.{kept-exact}
use Rattle.spec_machine.specs.Step.{step}
use Rattle.spec_machine.specs.Going.{begins, spent, ran-one}
use Rattle.spec_machine.specs.StageSteps.{Moved}
use Rattle.spec_machine.specs.RunAnswers.{accepted}
use Rattle.spec_machine.specs.Calls.{round_refusal, round_answer}
use Rattle.words_layout.specs.Layout.{state_of}
use Rattle.words_run.proofs.round.Goals as goal

unfinished : (s : State) → well_formed s ≡ true → finished s ≡ false → s.clock.stage ≤ 10
unfinished s w f =
    let no : s.clock.stage ≡ FINISHED → ⊥ = eqb-false s.clock.stage FINISHED f in
    omega (arith, ((kept-exact s).0 w).to, no)

one-round : (s s' : State) (made : ℕ) → well_formed s ≡ true → finished s ≡ false → Moved 1 s made s' → s' ≡ step s
one-round s s' made w f m =
    let g = m 1 s 0 (begins 1 s w) (omega arith) refl in
    sym (ap (λ (p : State × ℕ). p.0) (spent 1 s (0 + made) s' g.0 (omega (arith, g.1)))) ∙ ran-one s f

pub returns-then-refused-ne0 : goal.returns-then-refused-ne0
unfolding round_answer
returns-then-refused-ne0 c =
    rw (sym c.refusal-refused.ensures, ne_eqb c.refusal-refused.result 0 c.if-refused-ne0.true) (record {
      number = refl;
      words = refl;
    })

pub components_stage-requires : goal.components_stage-requires
components_stage-requires c =
    let shown : (state_of c.args.words.now).clock.stage
    ≡ c.clock_at-stage.result.stage = sym (ap (λ (x : Clock). x.stage) c.clock_at-stage.ensures) in
    shown ∙ c.if-stage-eq1.true

pub returns-then-stage-eq1 : goal.returns-then-stage-eq1
unfolding round_answer
returns-then-stage-eq1 c =
    let taken : (let s = state_of c.args.words.now in
    (round_refusal s ≡ 0) × (well_formed s ≡ true) × (finished s ≡ false)) = let none = sym c.refusal-refused.ensures
    ∙ c.if-refused-ne0.false in
    let a = accepted _ none in
    (none, a.0, a.1) in
    let t = taken in
    rw t.0 (record {
      number = refl;
      words = one-round _ _ _ t.1 t.2 c.components_stage.ensures;
    })

pub tree_stage-requires : goal.tree_stage-requires
tree_stage-requires c =
    let shown : (state_of c.args.words.now).clock.stage
    ≡ c.clock_at-stage.result.stage = sym (ap (λ (x : Clock). x.stage) c.clock_at-stage.ensures) in
    shown ∙ c.if-stage-eq2.true

pub returns-then-stage-eq2 : goal.returns-then-stage-eq2
unfolding round_answer
returns-then-stage-eq2 c =
    let taken : (let s = state_of c.args.words.now in
    (round_refusal s ≡ 0) × (well_formed s ≡ true) × (finished s ≡ false)) = let none = sym c.refusal-refused.ensures
    ∙ c.if-refused-ne0.false in
    let a = accepted _ none in
    (none, a.0, a.1) in
    let t = taken in
    rw t.0 (record {
      number = refl;
      words = one-round _ _ _ t.1 t.2 c.tree_stage.ensures;
    })

pub classes_stage-requires : goal.classes_stage-requires
classes_stage-requires c =
    let shown : (state_of c.args.words.now).clock.stage
    ≡ c.clock_at-stage.result.stage = sym (ap (λ (x : Clock). x.stage) c.clock_at-stage.ensures) in
    shown ∙ c.if-stage-eq9.true

pub returns-then-stage-eq9 : goal.returns-then-stage-eq9
unfolding round_answer
returns-then-stage-eq9 c =
    let taken : (let s = state_of c.args.words.now in
    (round_refusal s ≡ 0) × (well_formed s ≡ true) × (finished s ≡ false)) = let none = sym c.refusal-refused.ensures
    ∙ c.if-refused-ne0.false in
    let a = accepted _ none in
    (none, a.0, a.1) in
    let t = taken in
    rw t.0 (record {
      number = refl;
      words = one-round _ _ _ t.1 t.2 c.classes_stage.ensures;
    })

pub rounds-requires : goal.rounds-requires
rounds-requires c =
    let shown : (state_of c.args.words.now).clock.stage
    ≡ c.clock_at-stage.result.stage = sym (ap (λ (x : Clock). x.stage) c.clock_at-stage.ensures) in
    let taken : (let s = state_of c.args.words.now in
    (round_refusal s ≡ 0) × (well_formed s ≡ true) × (finished s ≡ false)) = let none = sym c.refusal-refused.ensures
    ∙ c.if-refused-ne0.false in
    let a = accepted _ none in
    (none, a.0, a.1) in
    let from = rw (shown) at ((kept-exact _).0 (taken).1).from in (
      shown,
      (
        omega (arith, from, c.if-stage-eq2.false, c.if-stage-eq1.false),
        omega (arith, c.if-stage-lt7.true),
      ),
    )

pub returns-then-stage-lt7 : goal.returns-then-stage-lt7
unfolding round_answer
returns-then-stage-lt7 c =
    let taken : (let s = state_of c.args.words.now in
    (round_refusal s ≡ 0) × (well_formed s ≡ true) × (finished s ≡ false)) = let none = sym c.refusal-refused.ensures
    ∙ c.if-refused-ne0.false in
    let a = accepted _ none in
    (none, a.0, a.1) in
    let t = taken in
    rw t.0 (record {
      number = refl;
      words = one-round _ _ _ t.1 t.2 c.rounds.ensures;
    })

pub rounds-requires-2 : goal.rounds-requires-2
rounds-requires-2 c =
    let shown : (state_of c.args.words.now).clock.stage
    ≡ c.clock_at-stage.result.stage = sym (ap (λ (x : Clock). x.stage) c.clock_at-stage.ensures) in
    let taken : (let s = state_of c.args.words.now in
    (round_refusal s ≡ 0) × (well_formed s ≡ true) × (finished s ≡ false)) = let none = sym c.refusal-refused.ensures
    ∙ c.if-refused-ne0.false in
    let a = accepted _ none in
    (none, a.0, a.1) in
    let to = rw (shown) at (unfinished _ (taken).1 (taken).2) in
    (shown, (omega (arith, c.if-stage-lt7.false), to, c.if-stage-eq9.false))

pub returns : goal.returns
unfolding round_answer
returns c =
    let taken : (let s = state_of c.args.words.now in
    (round_refusal s ≡ 0) × (well_formed s ≡ true) × (finished s ≡ false)) = let none = sym c.refusal-refused.ensures
    ∙ c.if-refused-ne0.false in
    let a = accepted _ none in
    (none, a.0, a.1) in
    let t = taken in
    rw t.0 (record {
      number = refl;
      words = one-round _ _ _ t.1 t.2 c.rounds-2.ensures;
    })
