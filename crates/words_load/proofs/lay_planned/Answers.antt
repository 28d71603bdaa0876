-- The words of the load, and the plan over them.
use mathlib.Core.Path.{refl}
use Prim.Native.Nat.{◌≤◌}
use native.Mathlib.Omega.{arith}
use lib.ListN.{length}
use lib.Seq.{take_all}
use Rattle.table.proofs.Passes.{passes, table-alone}
use Rattle.spec_machine.specs.Load.{Input, planned_loaded}
use Rattle.spec_machine.proofs.PlannedLoad.{PlanAccepted, plan-accepted}
use Rattle.words_load.proofs.lay_planned.Goals as goal

pub lay_loaded-requires : goal.lay_loaded-requires
lay_loaded-requires c =
    let input : Input = record { units = c.args.units; words = c.args.table.now; levels = c.args.levels.now } in
    let accepted : PlanAccepted (input) c.args.parents.now = plan-accepted (input) c.args.parents.now c.requires in
    (accepted).stored

pub returns : goal.returns
unfolding planned_loaded
returns c =
    let input : Input = record { units = c.args.units; words = c.args.table.now; levels = c.args.levels.now } in
    let accepted : PlanAccepted (input) c.args.parents.now = plan-accepted (input) c.args.parents.now c.requires in
    let few : length c.args.parents.now ≤ 256 = let a = accepted in
    omega (
      arith,
      a.long,
      (passes (input).units (input).words
          (table-alone (input).units (input).words (input).levels a.stored)).few_units,
    ) in
    rw (
      c.lay_plan.ensures,
      c.plan-drawn.ensures,
      c.lay_loaded.ensures,
      take_all 256 c.args.parents.now (few),
    ) refl
