-- Round after round: each is one of the definition's, as long as the stage goes on.
use Prim.Native.Nat.{◌-◌}
use Rattle.spec_machine.specs.StageRun.{Turning}
use Rattle.stage10_labels.specs.Rounds.{on, one}
use Rattle.stage10_labels.proofs.run.Given as goal

abbrev pub invariant-loop-after : goal.invariant-loop-after
invariant-loop-after l =
    Turning (on l.units l.links l.ends) (one l.units l.links l.ends l.parent l.pre l.color) l.budget
    (record { class = l.initial.named; label = l.initial.said; clock = l.initial.c; made = 0 }) l.made
    (record { class = l.named; label = l.said; clock = l.c; made = l.made })

abbrev pub decreases-loop-after : goal.decreases-loop-after
decreases-loop-after l = l.budget - l.made
