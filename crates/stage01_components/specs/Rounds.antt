-- One round of stage 1 on the table that it changes, and that it is a step of the state.
use Rattle.std.specs.Prelude.{refl, Bool, ◌&&◌, List, ℕ, ◌+◌}
use Rattle.std.proofs.Common.{arith}
use Rattle.spec_rules.specs.Components.{color_round, color_ends}
use Rattle.spec_rules.specs.Fits.{links_fit}
use Rattle.spec_machine.specs.State
use Rattle.spec_machine.specs.State.{State, units, links}
use Rattle.spec_machine.specs.Step
use Rattle.spec_machine.specs.Step.{next_clock}
use Rattle.spec_machine.specs.InStage.{in_stage, last_at}
use Rattle.spec_machine.specs.StageSteps.{Stage, step_by, on-links}
use Rattle.stage01_components.specs.declared.Ran.{Ran}

-- the stage makes a round: its links fit, and the clock stands in it
abbrev pub on : ℕ → ℕ → List ℕ → Ran → Bool
on n m ends x = links_fit n m ends && in_stage n 1 x.clock

unfoldable pub one : ℕ → ℕ → List ℕ → Ran → Ran
one n m ends x =
    let color = color_round n m x.clock.made ends x.color in
    record {
      color = color;
      clock = next_clock (last_at n (color_ends n x.clock.made x.color color) x.clock) 0 x.clock;
      made = x.made + 1;
    }

-- the state with this table and clock
abbrev pub into : State → Ran → State
into s x = State.with_clock x.clock (State.with_components (record { color = x.color }) s)

pub stage : (s : State)
    → Stage 1 (units s) (links_fit (units s) (links s) s.table.ends) (λ (x : Ran). x.clock)
    (one (units s) (links s) s.table.ends) (λ (x : Ran). x.made) (into s)
unfolding one last_at Step.components
stage s =
    on-links s (omega arith) (λ x. refl) (λ x. refl) (λ x. refl) (λ x w e. rw (step_by 1 tt (into s x) e))
