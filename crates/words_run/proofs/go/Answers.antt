-- Stage after stage, each by at least one round, until the budget is spent or the last stage is past.
use mathlib.Core.Path.{◌≡◌, refl, sym, ap, ◌∙◌}
use Prim.Native.Nat.{◌+◌, ◌≤◌}
use native.Mathlib.Omega.{arith}
use Rattle.spec_state.specs.declared.groups.Clock.{Clock}
use Rattle.spec_machine.specs.Kept.{kept-exact}
use Rattle.spec_machine.specs.Going.{Going, begins, spent, ended}
use Rattle.words_layout.specs.Layout.{state_of}
use Rattle.words_run.proofs.go.Goals as goal

pub loop-made-init : goal.loop-made-init
loop-made-init c = begins _ _ c.requires

pub returns-then-stage-gt10 : goal.returns-then-stage-gt10
returns-then-stage-gt10 c = ended _ _ _ _ c.loop-made.invariant (rw c.clock_at-stage.ensures at c.if-stage-gt10.true)

pub overflow_sub-budget : goal.overflow_sub-budget
overflow_sub-budget c = omega (arith, c.loop-made.invariant.within)

pub components_stage-made-requires : goal.components_stage-made-requires
components_stage-made-requires c =
    let shown : (state_of c.loop-made.words).clock.stage ≡ c.clock_at-stage.result.stage =
    sym (ap (λ (x : Clock). x.stage) c.clock_at-stage.ensures) in
    shown ∙ c.if-stage-eq1.true

pub overflow_add-made : goal.overflow_add-made
overflow_add-made c =
    let components : (Going c.args.budget (state_of c.args.words.now)
    (c.loop-made.made + c.components_stage-made.result) (state_of c.components_stage-made.new.words)
    × (1 ≤ c.components_stage-made.result)) =
    c.components_stage-made.ensures _ _ _ c.loop-made.invariant c.loop-made-test.true refl in
    let m = components in
    omega (arith, m.0.within, c.ranges.budget)

pub loop-made-smaller-then-stage-eq1 : goal.loop-made-smaller-then-stage-eq1
loop-made-smaller-then-stage-eq1 c =
    let components : (Going c.args.budget (state_of c.args.words.now)
    (c.loop-made.made + c.components_stage-made.result) (state_of c.components_stage-made.new.words)
    × (1 ≤ c.components_stage-made.result)) =
    c.components_stage-made.ensures _ _ _ c.loop-made.invariant c.loop-made-test.true refl in
    let m = components in
    omega (arith, m.1, m.0.within)

pub loop-made-preserved-then-stage-eq1 : goal.loop-made-preserved-then-stage-eq1
loop-made-preserved-then-stage-eq1 c =
    let components : (Going c.args.budget (state_of c.args.words.now)
    (c.loop-made.made + c.components_stage-made.result) (state_of c.components_stage-made.new.words)
    × (1 ≤ c.components_stage-made.result)) =
    c.components_stage-made.ensures _ _ _ c.loop-made.invariant c.loop-made-test.true refl in
    (components).0

pub overflow_sub-budget-then-stage-eq2 : goal.overflow_sub-budget-then-stage-eq2
overflow_sub-budget-then-stage-eq2 c = omega (arith, c.loop-made.invariant.within)

pub tree_stage-made-requires : goal.tree_stage-made-requires
tree_stage-made-requires c =
    let shown : (state_of c.loop-made.words).clock.stage ≡ c.clock_at-stage.result.stage =
    sym (ap (λ (x : Clock). x.stage) c.clock_at-stage.ensures) in
    shown ∙ c.if-stage-eq2.true

pub overflow_add-made-then-stage-eq2 : goal.overflow_add-made-then-stage-eq2
overflow_add-made-then-stage-eq2 c =
    let tree : (Going c.args.budget (state_of c.args.words.now) (c.loop-made.made + c.tree_stage-made.result)
    (state_of c.tree_stage-made.new.words) × (1 ≤ c.tree_stage-made.result)) =
    c.tree_stage-made.ensures _ _ _ c.loop-made.invariant c.loop-made-test.true refl in
    let m = tree in
    omega (arith, m.0.within, c.ranges.budget)

pub loop-made-smaller-then-stage-eq2 : goal.loop-made-smaller-then-stage-eq2
loop-made-smaller-then-stage-eq2 c =
    let tree : (Going c.args.budget (state_of c.args.words.now) (c.loop-made.made + c.tree_stage-made.result)
    (state_of c.tree_stage-made.new.words) × (1 ≤ c.tree_stage-made.result)) =
    c.tree_stage-made.ensures _ _ _ c.loop-made.invariant c.loop-made-test.true refl in
    let m = tree in
    omega (arith, m.1, m.0.within)

pub loop-made-preserved-then-stage-eq2 : goal.loop-made-preserved-then-stage-eq2
loop-made-preserved-then-stage-eq2 c =
    let tree : (Going c.args.budget (state_of c.args.words.now) (c.loop-made.made + c.tree_stage-made.result)
    (state_of c.tree_stage-made.new.words) × (1 ≤ c.tree_stage-made.result)) =
    c.tree_stage-made.ensures _ _ _ c.loop-made.invariant c.loop-made-test.true refl in
    (tree).0

pub overflow_sub-budget-then-stage-eq9 : goal.overflow_sub-budget-then-stage-eq9
overflow_sub-budget-then-stage-eq9 c = omega (arith, c.loop-made.invariant.within)

pub classes_stage-made-requires : goal.classes_stage-made-requires
classes_stage-made-requires c =
    let shown : (state_of c.loop-made.words).clock.stage ≡ c.clock_at-stage.result.stage =
    sym (ap (λ (x : Clock). x.stage) c.clock_at-stage.ensures) in
    shown ∙ c.if-stage-eq9.true

pub overflow_add-made-then-stage-eq9 : goal.overflow_add-made-then-stage-eq9
overflow_add-made-then-stage-eq9 c =
    let classes : (Going c.args.budget (state_of c.args.words.now) (c.loop-made.made + c.classes_stage-made.result)
    (state_of c.classes_stage-made.new.words) × (1 ≤ c.classes_stage-made.result)) =
    c.classes_stage-made.ensures _ _ _ c.loop-made.invariant c.loop-made-test.true refl in
    let m = classes in
    omega (arith, m.0.within, c.ranges.budget)

pub loop-made-smaller-then-stage-eq9 : goal.loop-made-smaller-then-stage-eq9
loop-made-smaller-then-stage-eq9 c =
    let classes : (Going c.args.budget (state_of c.args.words.now) (c.loop-made.made + c.classes_stage-made.result)
    (state_of c.classes_stage-made.new.words) × (1 ≤ c.classes_stage-made.result)) =
    c.classes_stage-made.ensures _ _ _ c.loop-made.invariant c.loop-made-test.true refl in
    let m = classes in
    omega (arith, m.1, m.0.within)

pub loop-made-preserved-then-stage-eq9 : goal.loop-made-preserved-then-stage-eq9
loop-made-preserved-then-stage-eq9 c =
    let classes : (Going c.args.budget (state_of c.args.words.now) (c.loop-made.made + c.classes_stage-made.result)
    (state_of c.classes_stage-made.new.words) × (1 ≤ c.classes_stage-made.result)) =
    c.classes_stage-made.ensures _ _ _ c.loop-made.invariant c.loop-made-test.true refl in
    (classes).0

pub overflow_sub-budget-then-stage-lt7 : goal.overflow_sub-budget-then-stage-lt7
overflow_sub-budget-then-stage-lt7 c = omega (arith, c.loop-made.invariant.within)

pub rounds-made-requires : goal.rounds-made-requires
rounds-made-requires c =
    let shown : (state_of c.loop-made.words).clock.stage ≡ c.clock_at-stage.result.stage =
    sym (ap (λ (x : Clock). x.stage) c.clock_at-stage.ensures) in
    let from = rw (shown) at ((kept-exact _).0 c.loop-made.invariant.well).from in
    (shown, (omega (arith, from, c.if-stage-eq2.false, c.if-stage-eq1.false), omega (arith, c.if-stage-lt7.true)))

pub overflow_add-made-then-stage-lt7 : goal.overflow_add-made-then-stage-lt7
overflow_add-made-then-stage-lt7 c =
    let early : (Going c.args.budget (state_of c.args.words.now) (c.loop-made.made + c.rounds-made.result)
    (state_of c.rounds-made.new.words) × (1 ≤ c.rounds-made.result)) =
    c.rounds-made.ensures _ _ _ c.loop-made.invariant c.loop-made-test.true refl in
    let m = early in
    omega (arith, m.0.within, c.ranges.budget)

pub loop-made-smaller-then-stage-lt7 : goal.loop-made-smaller-then-stage-lt7
loop-made-smaller-then-stage-lt7 c =
    let early : (Going c.args.budget (state_of c.args.words.now) (c.loop-made.made + c.rounds-made.result)
    (state_of c.rounds-made.new.words) × (1 ≤ c.rounds-made.result)) =
    c.rounds-made.ensures _ _ _ c.loop-made.invariant c.loop-made-test.true refl in
    let m = early in
    omega (arith, m.1, m.0.within)

pub loop-made-preserved-then-stage-lt7 : goal.loop-made-preserved-then-stage-lt7
loop-made-preserved-then-stage-lt7 c =
    let early : (Going c.args.budget (state_of c.args.words.now) (c.loop-made.made + c.rounds-made.result)
    (state_of c.rounds-made.new.words) × (1 ≤ c.rounds-made.result)) =
    c.rounds-made.ensures _ _ _ c.loop-made.invariant c.loop-made-test.true refl in
    (early).0

pub overflow_sub-budget-in-loop-made : goal.overflow_sub-budget-in-loop-made
overflow_sub-budget-in-loop-made c = omega (arith, c.loop-made.invariant.within)

pub rounds-made-requires-in-loop-made : goal.rounds-made-requires-in-loop-made
rounds-made-requires-in-loop-made c =
    let shown : (state_of c.loop-made.words).clock.stage ≡ c.clock_at-stage.result.stage =
    sym (ap (λ (x : Clock). x.stage) c.clock_at-stage.ensures) in (
      shown,
      (
        omega (arith, c.if-stage-lt7.false),
        omega (arith, c.if-stage-gt10.false),
        c.if-stage-eq9.false,
      ),
    )

pub overflow_add-made-in-loop-made : goal.overflow_add-made-in-loop-made
overflow_add-made-in-loop-made c =
    let late : (Going c.args.budget (state_of c.args.words.now) (c.loop-made.made + c.rounds-made-in-loop-made.result)
    (state_of c.rounds-made-in-loop-made.new.words) × (1 ≤ c.rounds-made-in-loop-made.result)) =
    c.rounds-made-in-loop-made.ensures _ _ _ c.loop-made.invariant c.loop-made-test.true refl in
    let m = late in
    omega (arith, m.0.within, c.ranges.budget)

pub loop-made-smaller : goal.loop-made-smaller
loop-made-smaller c =
    let late : (Going c.args.budget (state_of c.args.words.now) (c.loop-made.made + c.rounds-made-in-loop-made.result)
    (state_of c.rounds-made-in-loop-made.new.words) × (1 ≤ c.rounds-made-in-loop-made.result)) =
    c.rounds-made-in-loop-made.ensures _ _ _ c.loop-made.invariant c.loop-made-test.true refl in
    let m = late in
    omega (arith, m.1, m.0.within)

pub loop-made-preserved : goal.loop-made-preserved
loop-made-preserved c =
    let late : (Going c.args.budget (state_of c.args.words.now) (c.loop-made.made + c.rounds-made-in-loop-made.result)
    (state_of c.rounds-made-in-loop-made.new.words) × (1 ≤ c.rounds-made-in-loop-made.result)) =
    c.rounds-made-in-loop-made.ensures _ _ _ c.loop-made.invariant c.loop-made-test.true refl in
    (late).0

pub returns : goal.returns
returns c = spent _ _ _ _ c.loop-made.invariant c.loop-made-test.false
