-- Round after round, each one of the definition's as long as the stage goes on; or the rest at once.
use Prim.Native.Nat.{◌-◌}
use Rattle.spec_machine.specs.StageRun.{Turning}
use Rattle.stage02_tree.specs.Rounds.{on, one}
use Rattle.stage02_tree.proofs.run.Given as goal

abbrev pub invariant-loop-rest : goal.invariant-loop-rest
invariant-loop-rest l =
    Turning (on l.units l.links l.ends) (one l.units l.links l.given l.plan l.ends l.levels l.color) l.budget
    (record { parent = l.initial.above; dist = l.initial.far; clock = l.initial.c; made = 0 }) l.made
    (record { parent = l.above; dist = l.far; clock = l.c; made = l.made })

abbrev pub decreases-loop-rest : goal.decreases-loop-rest
decreases-loop-rest l = l.budget - l.made
