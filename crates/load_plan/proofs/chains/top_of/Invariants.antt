-- Step by step, until the chain ends, or has gone on for all units.
use Prim.Native.Nat.{◌-◌}
use Rattle.load_plan.specs.Tops.{Rising}
use Rattle.load_plan.proofs.chains.top_of.Given as goal

abbrev pub invariant-loop-far : goal.invariant-loop-far
invariant-loop-far l = Rising l.parents l.units l.v l.far l.w

abbrev pub decreases-loop-far : goal.decreases-loop-far
decreases-loop-far l = l.units - l.far
