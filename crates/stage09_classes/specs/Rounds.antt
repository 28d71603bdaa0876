-- One round of stage 9 on the table that it changes, and that it is a step of the state.
use Rattle.std.specs.Prelude.{refl, Bool, ◌&&◌, List, ℕ, ◌+◌}
use Rattle.std.proofs.Common.{arith}
use Rattle.base_lists.specs.Folds.{every}
use Rattle.base_lists.specs.Tests.{and-true}
use Rattle.spec_rules.specs.Aux.{aux_round, aux_ends}
use Rattle.spec_rules.specs.Bounds.{name_ok}
use Rattle.spec_rules.specs.Fits.{links_fit}
use Rattle.spec_machine.specs.State
use Rattle.spec_machine.specs.State.{State, units, links}
use Rattle.spec_machine.specs.Step
use Rattle.spec_machine.specs.Step.{next_clock}
use Rattle.spec_machine.specs.KeptLaws.{links-fit, parents-fit}
use Rattle.spec_machine.specs.InStage.{in_stage, last_at}
use Rattle.spec_machine.specs.StageSteps.{Stage, step_by}
use Rattle.stage09_classes.specs.declared.Ran.{Ran}

-- its links fit, and each parent is a unit or absent
abbrev pub fits : ℕ → ℕ → List ℕ → List ℕ → Bool
fits n m ends parent = links_fit n m ends && every (name_ok n) parent

-- the stage makes a round: its tables fit, and the clock stands in it
abbrev pub on : ℕ → ℕ → List ℕ → List ℕ → Ran → Bool
on n m ends parent x = fits n m ends parent && in_stage n 9 x.clock

unfoldable pub one : ℕ → ℕ → List ℕ → List ℕ → List ℕ → List ℕ → Ran → Ran
one n m ends parent linked parents x =
    let color = aux_round n m x.clock.made ends parent linked parents x.color in
    record {
      color = color;
      clock = next_clock (last_at n (aux_ends n x.clock.made x.color color) x.clock) 0 x.clock;
      made = x.made + 1;
    }

-- the state with this table and clock
abbrev pub into : State → Ran → State
into s x = State.with_clock x.clock (State.with_aux
    (record { parents = s.aux.parents; links = s.aux.links; color = x.color }) s)

pub stage : (s : State)
    → Stage 9 (units s) (fits (units s) (links s) s.table.ends s.tree.parent) (λ (x : Ran). x.clock)
    (one (units s) (links s) s.table.ends s.tree.parent s.aux.links s.aux.parents)
    (λ (x : Ran). x.made) (into s)
unfolding one last_at Step.aux_components
stage s =
    record {
      small = omega arith;
      site = λ x. refl;
      clocks = λ x. refl;
      fit = λ x w. and-true _ _ (links-fit (into s x) w) (parents-fit (into s x) w);
      counts = λ x. refl;
      steps = λ x w e. rw (step_by 9 tt (into s x) e);
    }
