-- Round after round: each is one of the definition's, as long as the stage goes on.
use Prim.Native.Nat.{◌-◌}
use Rattle.spec_machine.specs.StageRun.{Turning}
use Rattle.stage04_ranking.specs.Rounds.{on, one}
use Rattle.stage04_ranking.proofs.rounds.Given as goal

abbrev pub invariant-loop-before : goal.invariant-loop-before
invariant-loop-before l =
    Turning (on l.units) (one l.units) l.budget
    (record { jump = l.initial.before; sum = l.initial.total; clock = l.initial.c; made = 0 }) l.made
    (record { jump = l.before; sum = l.total; clock = l.c; made = l.made })

abbrev pub decreases-loop-before : goal.decreases-loop-before
decreases-loop-before l = l.budget - l.made
