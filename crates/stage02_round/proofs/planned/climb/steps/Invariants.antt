-- Step by step, until the colour unit is met, the chain ends, or it has gone on for all units.
use Rattle.stage02_round.specs.Climb.{Climbing}
use Rattle.stage02_round.proofs.planned.climb.steps.Given as goal

abbrev pub invariant-loop-far : goal.invariant-loop-far
invariant-loop-far l = Climbing l.plan l.c l.units l.v l.far l.w
