-- Each arm makes the rounds of its stage, at least one, so the run goes on; the budget or the last stage ends it.
use mathlib.Core.Path.{◌≡◌, refl}
use mathlib.Core.Bool.{Bool, ◌&&◌}
use Prim.Native.Nat.{◌<◌, ℕ, ◌+◌, ◌-◌, ◌≤◌}
use native.Mathlib.Omega.{arith}
use Rattle.spec_machine.specs.State.{State}
use Rattle.spec_machine.specs.Kept.{kept-exact}
use Rattle.spec_machine.specs.Going.{Going, begins, above, spent, ended}
use Rattle.spec_state.specs.declared.groups.Clock.{Clock}
use Rattle.spec_machine.specs.InStage.{in_stage}
use Rattle.spec_machine.specs.StageRun.{stage_run}
use Rattle.spec_machine.specs.StageSteps.{Stage, arm}
use Rattle.stage01_components.specs.Rounds as Components
use Rattle.stage02_tree.specs.Rounds as Tree
use Rattle.stage03_tour.specs.Rounds as Tour
use Rattle.stage04_ranking.specs.Rounds as Ranking
use Rattle.stage05_marks.specs.Rounds as Marks
use Rattle.stage06_places.specs.Rounds as Places
use Rattle.stage07_range.specs.Rounds as Range
use Rattle.stage08_joins.specs.Rounds as Joins
use Rattle.stage09_classes.specs.Rounds as Classes
use Rattle.stage10_labels.specs.Rounds as Labels
use Rattle.survey.specs.View.{of}
use Rattle.survey.proofs.whole.Survey.go.Goals as goal

-- so many rounds, at least one, bring the run from this turn of the loop to s
abbrev Done : ℕ → State → ℕ → ℕ → State → Type 0
Done budget start before made s = Going budget start (before + made) s × (1 ≤ made)

-- the rounds of the stage that the clock shows
done : {X : Type 0} {k n : ℕ} {fits : Bool} {clock : X → Clock} {one : X → X} {count : X → ℕ} {into : X → State}
    (budget : ℕ) (start : State) (before : ℕ) (now : State) → Going budget start before now → before < budget
    → Stage k n fits clock one count into → (x y : X) → now.clock.stage ≡ k → count x ≡ 0 → into x ≡ now
    → y ≡ stage_run (λ (x : X). fits && in_stage n k (clock x)) one (budget - before) x
    → Done budget start before (count y) (into y)
done budget start before now going test st x y e none at run =
    arm st budget start before x y now _ going test e none at run refl

pub loop-made-init : goal.loop-made-init
loop-made-init c = begins c.args.budget (of c.args.self) c.requires

pub overflow_sub-left : goal.overflow_sub-left
overflow_sub-left c = c.loop-made.invariant.within

-- ---- the needs of the arms
pub overflow_add-made : goal.overflow_add-made
overflow_add-made c =
    let done-1 = done c.args.budget (of c.args.self) c.loop-made.made (of c.loop-made.self) c.loop-made.invariant
    c.loop-made-test.true (Components.stage (of c.loop-made.self)) _ _
    c.in-1.is refl refl c.run-r.ensures in
    omega (arith, (done-1).0.within, c.ranges.budget)

pub overflow_add-made-in-2 : goal.overflow_add-made-in-2
overflow_add-made-in-2 c =
    let done-2 = done c.args.budget (of c.args.self) c.loop-made.made (of c.loop-made.self) c.loop-made.invariant
    c.loop-made-test.true (Tree.stage (of c.loop-made.self)) _ _
    c.in-2.is refl refl c.run-r-in-2.ensures in
    omega (arith, (done-2).0.within, c.ranges.budget)

pub overflow_add-made-in-3 : goal.overflow_add-made-in-3
overflow_add-made-in-3 c =
    let done-3 = done c.args.budget (of c.args.self) c.loop-made.made (of c.loop-made.self) c.loop-made.invariant
    c.loop-made-test.true (Tour.stage (of c.loop-made.self)) _ _
    c.in-3.is refl refl c.run-r-in-3.ensures in
    omega (arith, (done-3).0.within, c.ranges.budget)

pub overflow_add-made-in-4 : goal.overflow_add-made-in-4
overflow_add-made-in-4 c =
    let done-4 = done c.args.budget (of c.args.self) c.loop-made.made (of c.loop-made.self) c.loop-made.invariant
    c.loop-made-test.true (Ranking.stage (of c.loop-made.self)) _ _
    c.in-4.is refl refl c.run-r-in-4.ensures in
    omega (arith, (done-4).0.within, c.ranges.budget)

pub overflow_add-made-in-5 : goal.overflow_add-made-in-5
overflow_add-made-in-5 c =
    let done-5 = done c.args.budget (of c.args.self) c.loop-made.made (of c.loop-made.self) c.loop-made.invariant
    c.loop-made-test.true (Marks.stage (of c.loop-made.self)) _ _
    c.in-5.is refl refl c.run-r-in-5.ensures in
    omega (arith, (done-5).0.within, c.ranges.budget)

pub overflow_add-made-in-6 : goal.overflow_add-made-in-6
overflow_add-made-in-6 c =
    let done-6 = done c.args.budget (of c.args.self) c.loop-made.made (of c.loop-made.self) c.loop-made.invariant
    c.loop-made-test.true (Places.stage (of c.loop-made.self)) _ _
    c.in-6.is refl refl c.run-r-in-6.ensures in
    omega (arith, (done-6).0.within, c.ranges.budget)

pub overflow_add-made-in-7 : goal.overflow_add-made-in-7
overflow_add-made-in-7 c =
    let done-7 = done c.args.budget (of c.args.self) c.loop-made.made (of c.loop-made.self) c.loop-made.invariant
    c.loop-made-test.true (Range.stage (of c.loop-made.self)) _ _
    c.in-7.is refl refl c.run-r-in-7.ensures in
    omega (arith, (done-7).0.within, c.ranges.budget)

pub overflow_add-made-in-8 : goal.overflow_add-made-in-8
overflow_add-made-in-8 c =
    let done-8 = done c.args.budget (of c.args.self) c.loop-made.made (of c.loop-made.self) c.loop-made.invariant
    c.loop-made-test.true (Joins.stage (of c.loop-made.self)) _ _
    c.in-8.is refl refl c.run-r-in-8.ensures in
    omega (arith, (done-8).0.within, c.ranges.budget)

pub overflow_add-made-in-9 : goal.overflow_add-made-in-9
overflow_add-made-in-9 c =
    let done-9 = done c.args.budget (of c.args.self) c.loop-made.made (of c.loop-made.self) c.loop-made.invariant
    c.loop-made-test.true (Classes.stage (of c.loop-made.self)) _ _
    c.in-9.is refl refl c.run-r-in-9.ensures in
    omega (arith, (done-9).0.within, c.ranges.budget)

pub overflow_add-made-in-10 : goal.overflow_add-made-in-10
overflow_add-made-in-10 c =
    let done-10 = done c.args.budget (of c.args.self) c.loop-made.made (of c.loop-made.self) c.loop-made.invariant
    c.loop-made-test.true (Labels.stage (of c.loop-made.self)) _ _
    c.in-10.is refl refl c.run-r-in-10.ensures in
    omega (arith, (done-10).0.within, c.ranges.budget)

pub loop-made-smaller-in-1 : goal.loop-made-smaller-in-1
loop-made-smaller-in-1 c =
    let done-1 = done c.args.budget (of c.args.self) c.loop-made.made (of c.loop-made.self) c.loop-made.invariant
    c.loop-made-test.true (Components.stage (of c.loop-made.self)) _ _
    c.in-1.is refl refl c.run-r.ensures in
    omega (arith, (done-1).1, c.loop-made-test.true)

pub loop-made-smaller-in-2 : goal.loop-made-smaller-in-2
loop-made-smaller-in-2 c =
    let done-2 = done c.args.budget (of c.args.self) c.loop-made.made (of c.loop-made.self) c.loop-made.invariant
    c.loop-made-test.true (Tree.stage (of c.loop-made.self)) _ _
    c.in-2.is refl refl c.run-r-in-2.ensures in
    omega (arith, (done-2).1, c.loop-made-test.true)

pub loop-made-smaller-in-3 : goal.loop-made-smaller-in-3
loop-made-smaller-in-3 c =
    let done-3 = done c.args.budget (of c.args.self) c.loop-made.made (of c.loop-made.self) c.loop-made.invariant
    c.loop-made-test.true (Tour.stage (of c.loop-made.self)) _ _
    c.in-3.is refl refl c.run-r-in-3.ensures in
    omega (arith, (done-3).1, c.loop-made-test.true)

pub loop-made-smaller-in-4 : goal.loop-made-smaller-in-4
loop-made-smaller-in-4 c =
    let done-4 = done c.args.budget (of c.args.self) c.loop-made.made (of c.loop-made.self) c.loop-made.invariant
    c.loop-made-test.true (Ranking.stage (of c.loop-made.self)) _ _
    c.in-4.is refl refl c.run-r-in-4.ensures in
    omega (arith, (done-4).1, c.loop-made-test.true)

pub loop-made-smaller-in-5 : goal.loop-made-smaller-in-5
loop-made-smaller-in-5 c =
    let done-5 = done c.args.budget (of c.args.self) c.loop-made.made (of c.loop-made.self) c.loop-made.invariant
    c.loop-made-test.true (Marks.stage (of c.loop-made.self)) _ _
    c.in-5.is refl refl c.run-r-in-5.ensures in
    omega (arith, (done-5).1, c.loop-made-test.true)

pub loop-made-smaller-in-6 : goal.loop-made-smaller-in-6
loop-made-smaller-in-6 c =
    let done-6 = done c.args.budget (of c.args.self) c.loop-made.made (of c.loop-made.self) c.loop-made.invariant
    c.loop-made-test.true (Places.stage (of c.loop-made.self)) _ _
    c.in-6.is refl refl c.run-r-in-6.ensures in
    omega (arith, (done-6).1, c.loop-made-test.true)

pub loop-made-smaller-in-7 : goal.loop-made-smaller-in-7
loop-made-smaller-in-7 c =
    let done-7 = done c.args.budget (of c.args.self) c.loop-made.made (of c.loop-made.self) c.loop-made.invariant
    c.loop-made-test.true (Range.stage (of c.loop-made.self)) _ _
    c.in-7.is refl refl c.run-r-in-7.ensures in
    omega (arith, (done-7).1, c.loop-made-test.true)

pub loop-made-smaller-in-8 : goal.loop-made-smaller-in-8
loop-made-smaller-in-8 c =
    let done-8 = done c.args.budget (of c.args.self) c.loop-made.made (of c.loop-made.self) c.loop-made.invariant
    c.loop-made-test.true (Joins.stage (of c.loop-made.self)) _ _
    c.in-8.is refl refl c.run-r-in-8.ensures in
    omega (arith, (done-8).1, c.loop-made-test.true)

pub loop-made-smaller-in-9 : goal.loop-made-smaller-in-9
loop-made-smaller-in-9 c =
    let done-9 = done c.args.budget (of c.args.self) c.loop-made.made (of c.loop-made.self) c.loop-made.invariant
    c.loop-made-test.true (Classes.stage (of c.loop-made.self)) _ _
    c.in-9.is refl refl c.run-r-in-9.ensures in
    omega (arith, (done-9).1, c.loop-made-test.true)

pub loop-made-smaller : goal.loop-made-smaller
loop-made-smaller c =
    let done-10 = done c.args.budget (of c.args.self) c.loop-made.made (of c.loop-made.self) c.loop-made.invariant
    c.loop-made-test.true (Labels.stage (of c.loop-made.self)) _ _
    c.in-10.is refl refl c.run-r-in-10.ensures in
    omega (arith, (done-10).1, c.loop-made-test.true)

pub loop-made-preserved-in-1 : goal.loop-made-preserved-in-1
loop-made-preserved-in-1 c =
    let done-1 = done c.args.budget (of c.args.self) c.loop-made.made (of c.loop-made.self) c.loop-made.invariant
    c.loop-made-test.true (Components.stage (of c.loop-made.self)) _ _
    c.in-1.is refl refl c.run-r.ensures in
    (done-1).0

pub loop-made-preserved-in-2 : goal.loop-made-preserved-in-2
loop-made-preserved-in-2 c =
    let done-2 = done c.args.budget (of c.args.self) c.loop-made.made (of c.loop-made.self) c.loop-made.invariant
    c.loop-made-test.true (Tree.stage (of c.loop-made.self)) _ _
    c.in-2.is refl refl c.run-r-in-2.ensures in
    (done-2).0

pub loop-made-preserved-in-3 : goal.loop-made-preserved-in-3
loop-made-preserved-in-3 c =
    let done-3 = done c.args.budget (of c.args.self) c.loop-made.made (of c.loop-made.self) c.loop-made.invariant
    c.loop-made-test.true (Tour.stage (of c.loop-made.self)) _ _
    c.in-3.is refl refl c.run-r-in-3.ensures in
    (done-3).0

pub loop-made-preserved-in-4 : goal.loop-made-preserved-in-4
loop-made-preserved-in-4 c =
    let done-4 = done c.args.budget (of c.args.self) c.loop-made.made (of c.loop-made.self) c.loop-made.invariant
    c.loop-made-test.true (Ranking.stage (of c.loop-made.self)) _ _
    c.in-4.is refl refl c.run-r-in-4.ensures in
    (done-4).0

pub loop-made-preserved-in-5 : goal.loop-made-preserved-in-5
loop-made-preserved-in-5 c =
    let done-5 = done c.args.budget (of c.args.self) c.loop-made.made (of c.loop-made.self) c.loop-made.invariant
    c.loop-made-test.true (Marks.stage (of c.loop-made.self)) _ _
    c.in-5.is refl refl c.run-r-in-5.ensures in
    (done-5).0

pub loop-made-preserved-in-6 : goal.loop-made-preserved-in-6
loop-made-preserved-in-6 c =
    let done-6 = done c.args.budget (of c.args.self) c.loop-made.made (of c.loop-made.self) c.loop-made.invariant
    c.loop-made-test.true (Places.stage (of c.loop-made.self)) _ _
    c.in-6.is refl refl c.run-r-in-6.ensures in
    (done-6).0

pub loop-made-preserved-in-7 : goal.loop-made-preserved-in-7
loop-made-preserved-in-7 c =
    let done-7 = done c.args.budget (of c.args.self) c.loop-made.made (of c.loop-made.self) c.loop-made.invariant
    c.loop-made-test.true (Range.stage (of c.loop-made.self)) _ _
    c.in-7.is refl refl c.run-r-in-7.ensures in
    (done-7).0

pub loop-made-preserved-in-8 : goal.loop-made-preserved-in-8
loop-made-preserved-in-8 c =
    let done-8 = done c.args.budget (of c.args.self) c.loop-made.made (of c.loop-made.self) c.loop-made.invariant
    c.loop-made-test.true (Joins.stage (of c.loop-made.self)) _ _
    c.in-8.is refl refl c.run-r-in-8.ensures in
    (done-8).0

pub loop-made-preserved-in-9 : goal.loop-made-preserved-in-9
loop-made-preserved-in-9 c =
    let done-9 = done c.args.budget (of c.args.self) c.loop-made.made (of c.loop-made.self) c.loop-made.invariant
    c.loop-made-test.true (Classes.stage (of c.loop-made.self)) _ _
    c.in-9.is refl refl c.run-r-in-9.ensures in
    (done-9).0

pub loop-made-preserved : goal.loop-made-preserved
loop-made-preserved c =
    let done-10 = done c.args.budget (of c.args.self) c.loop-made.made (of c.loop-made.self) c.loop-made.invariant
    c.loop-made-test.true (Labels.stage (of c.loop-made.self)) _ _
    c.in-10.is refl refl c.run-r-in-10.ensures in
    (done-10).0

-- the end, and the budget
pub returns-in_default : goal.returns-in_default
returns-in_default c =
    let s = of c.loop-made.self in
    let k = (kept-exact s).0 c.loop-made.invariant.well in
    let past : 11 ≤ s.clock.stage = omega (arith, k.from) in
    ended c.args.budget (of c.args.self) c.loop-made.made s c.loop-made.invariant past

pub returns : goal.returns
returns c =
    spent c.args.budget (of c.args.self) c.loop-made.made (of c.loop-made.self) c.loop-made.invariant
    c.loop-made-test.false
