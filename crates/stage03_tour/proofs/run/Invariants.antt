-- Round after round: each is one of the definition's, as long as the stage goes on.
use Prim.Native.Nat.{◌-◌}
use Rattle.spec_machine.specs.StageRun.{Turning}
use Rattle.stage03_tour.specs.Rounds.{on, one}
use Rattle.stage03_tour.proofs.run.Given as goal

abbrev pub invariant-loop-after : goal.invariant-loop-after
invariant-loop-after l =
    Turning (on l.units l.parent) (one l.units l.parent) l.budget
    (record {
      next = l.initial.to;
      pred = l.initial.from;
      jump = l.initial.before;
      sum = l.initial.total;
      clock = l.initial.c;
      made = 0;
    }) l.made
    (record { next = l.to; pred = l.from; jump = l.before; sum = l.total; clock = l.c; made = l.made })

abbrev pub decreases-loop-after : goal.decreases-loop-after
decreases-loop-after l = l.budget - l.made
