-- Round after round: each is one of the definition's, as long as the stage goes on.
use Prim.Native.Nat.{◌-◌}
use Rattle.spec_machine.specs.StageRun.{Turning}
use Rattle.stage01_components.specs.Rounds.{on, one}
use Rattle.stage01_components.proofs.rounds.Given as goal

abbrev pub invariant-loop-value : goal.invariant-loop-value
invariant-loop-value l =
    Turning (on l.units l.links l.ends) (one l.units l.links l.ends) l.budget (record {
      color = l.initial.value;
      clock = l.initial.c;
      made = 0;
    }) l.made
    (record { color = l.value; clock = l.c; made = l.made })

abbrev pub decreases-loop-value : goal.decreases-loop-value
decreases-loop-value l = l.budget - l.made
