-- The loaded state with the parents beside it.
use mathlib.Core.Path.{ap, ◌∙◌}
use mathlib.Core.List.{List}
use Prim.Native.Nat.{ℕ, ◌≤◌}
use native.Mathlib.Omega.{arith}
use lib.ListN.{length}
use lib.Seq.{take_all}
use Rattle.spec_state.specs.declared.groups.Plan.{Plan}
use Rattle.table.proofs.Passes.{passes, table-alone}
use Rattle.spec_machine.specs.State.{with_plan}
use Rattle.spec_machine.specs.Load.{Input, plan_of, planned_loaded}
use Rattle.spec_machine.proofs.PlannedLoad.{PlanAccepted, plan-accepted}
use Rattle.survey.specs.View.{of}
use Rattle.survey.proofs.load.drawn.Goals as goal

pub loaded-survey-requires : goal.loaded-survey-requires
loaded-survey-requires c =
    let input : Input = record { units = c.args.units; words = c.args.table.now; levels = c.args.levels.now } in
    let accepted : PlanAccepted (input) c.args.parents.now = plan-accepted (input) c.args.parents.now c.requires in
    (accepted).stored

pub returns : goal.returns
unfolding planned_loaded
returns c =
    let input : Input = record { units = c.args.units; words = c.args.table.now; levels = c.args.levels.now } in
    let accepted : PlanAccepted (input) c.args.parents.now = plan-accepted (input) c.args.parents.now c.requires in
    let few : length c.args.parents.now ≤ 256 = let a = accepted in
    omega (
      arith,
      a.long,
      (passes (input).units (input).words
          (table-alone (input).units (input).words (input).levels a.stored)).few_units,
    ) in
    let ps = c.args.parents.now in
    ap (λ (p : Plan). with_plan p (of c.loaded-survey.result)) (c.plan-plan.ensures
    ∙ ap (λ (l : List ℕ). plan_of l) (take_all 256 ps (few)))
    ∙ ap (with_plan (plan_of ps)) c.loaded-survey.ensures
