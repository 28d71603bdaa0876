-- Round after round: each is one of the definition's, as long as the stage goes on.
use Prim.Native.Nat.{◌-◌}
use Rattle.spec_machine.specs.StageRun.{Turning}
use Rattle.stage07_range.specs.Rounds.{on, one}
use Rattle.stage07_range.proofs.run.Given as goal

abbrev pub invariant-loop-after : goal.invariant-loop-after
invariant-loop-after l =
    Turning (on l.units l.links l.ends) (one l.units l.links l.ends l.parent l.nd l.pre) l.budget
    (record {
      low = l.initial.bottom;
      high = l.initial.top;
      little = l.initial.from;
      big = l.initial.to;
      least = l.initial.lows;
      greatest = l.initial.highs;
      clock = l.initial.c;
      made = 0;
    }) l.made
    (record {
      low = l.bottom;
      high = l.top;
      little = l.from;
      big = l.to;
      least = l.lows;
      greatest = l.highs;
      clock = l.c;
      made = l.made;
    })

abbrev pub decreases-loop-after : goal.decreases-loop-after
decreases-loop-after l = l.budget - l.made
