-- Round after round: each is one of the definition's, as long as the stage goes on.
use Prim.Native.Nat.{◌-◌}
use Rattle.spec_machine.specs.StageRun.{Turning}
use Rattle.stage05_marks.specs.Rounds.{on, one}
use Rattle.stage05_marks.proofs.run.Given as goal

abbrev pub invariant-loop-after : goal.invariant-loop-after
invariant-loop-after l =
    Turning (on l.units) (one l.units l.color l.parent l.pred) l.budget
    (record {
      forward = l.initial.marks;
      nd = l.initial.below;
      jump = l.initial.before;
      sum = l.initial.total;
      clock =
          l.initial.c;
      made = 0;
    }) l.made
    (record { forward = l.marks; nd = l.below; jump = l.before; sum = l.total; clock = l.c; made = l.made })

abbrev pub decreases-loop-after : goal.decreases-loop-after
decreases-loop-after l = l.budget - l.made
