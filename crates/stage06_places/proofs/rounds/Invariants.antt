-- Round after round: each is one of the definition's, as long as the stage goes on.
use Prim.Native.Nat.{◌-◌}
use Rattle.spec_machine.specs.StageRun.{Turning}
use Rattle.stage06_places.specs.Rounds.{on, one}
use Rattle.stage06_places.proofs.rounds.Given as goal

abbrev pub invariant-loop-before : goal.invariant-loop-before
invariant-loop-before l =
    Turning (on l.units) (one l.units l.color l.parent) l.budget
    (record { pre = l.initial.place; jump = l.initial.before; sum = l.initial.total; clock = l.initial.c; made = 0 })
    l.made
    (record { pre = l.place; jump = l.before; sum = l.total; clock = l.c; made = l.made })

abbrev pub decreases-loop-before : goal.decreases-loop-before
decreases-loop-before l = l.budget - l.made
