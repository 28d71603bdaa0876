-- Stage after stage, each by at least one round, until the budget is spent or the last stage is past.
use Prim.Native.Nat.{◌-◌}
use Rattle.spec_machine.specs.Going.{Going}
use Rattle.words_layout.specs.Layout.{state_of}
use Rattle.words_run.proofs.go.Given as goal

abbrev pub invariant-loop-made : goal.invariant-loop-made
invariant-loop-made l = Going l.budget (state_of l.initial.words) l.made (state_of l.words)

abbrev pub decreases-loop-made : goal.decreases-loop-made
decreases-loop-made l = l.budget - l.made
