-- Round after round: each is one of the definition's, as long as the stage goes on.
use Prim.Native.Nat.{◌-◌}
use Rattle.spec_machine.specs.StageRun.{Turning}
use Rattle.stage08_joins.specs.Rounds.{on, one}
use Rattle.stage08_joins.proofs.run.Given as goal

abbrev pub invariant-loop-new : goal.invariant-loop-new
invariant-loop-new l =
    Turning (on l.units l.links l.ends) (one l.units l.links l.ends l.parent l.nd l.pre l.low l.high) l.budget
    (record { parents = l.initial.upward; links = l.initial.across; clock = l.initial.c; made = 0 }) l.made
    (record { parents = l.upward; links = l.across; clock = l.c; made = l.made })

abbrev pub decreases-loop-new : goal.decreases-loop-new
decreases-loop-new l = l.budget - l.made
