-- Round after round: each is one of the definition's, as long as the stage goes on.
use Prim.Native.Nat.{◌-◌}
use Rattle.spec_machine.specs.StageRun.{Turning}
use Rattle.stage09_classes.specs.Rounds.{on, one}
use Rattle.stage09_classes.proofs.rounds.Given as goal

abbrev pub invariant-loop-heads : goal.invariant-loop-heads
invariant-loop-heads l =
    Turning (on l.units l.links l.ends l.parent) (one l.units l.links l.ends l.parent l.linked l.parents) l.budget
    (record { color = l.initial.value; clock = l.initial.c; made = 0 }) l.made (record {
      color = l.value;
      clock = l.c;
      made = l.made;
    })

abbrev pub decreases-loop-heads : goal.decreases-loop-heads
decreases-loop-heads l = l.budget - l.made
