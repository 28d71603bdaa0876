-- One round of stage 4 on the tables that it changes, and that it is a step of the state.
use Rattle.std.specs.Prelude.{refl, Bool, true, ◌&&◌, ℕ, ◌+◌, ◌*◌}
use Rattle.std.proofs.Common.{arith}
use Rattle.spec_rules.specs.Ranking.{sum_round, jump_round, requests_of, ranking_ends}
use Rattle.spec_machine.specs.State
use Rattle.spec_machine.specs.State.{State, units}
use Rattle.spec_machine.specs.Step
use Rattle.spec_machine.specs.Step.{next_clock}
use Rattle.spec_machine.specs.InStage.{in_stage, last_at}
use Rattle.spec_machine.specs.StageSteps.{Stage, step_by}
use Rattle.stage04_ranking.specs.declared.Ran.{Ran}

-- the stage makes a round: the clock stands in it, and its tables are right as they are
abbrev pub on : ℕ → Ran → Bool
on n x = true && in_stage n 4 x.clock

-- the objects are the arcs, two for each unit
unfoldable pub one : ℕ → Ran → Ran
one n x =
    record {
      jump = jump_round (2 * n) x.jump;
      sum = sum_round (2 * n) x.jump x.sum;
      clock = next_clock (last_at n (ranking_ends (2 * n) x.jump) x.clock) (requests_of (2 * n) x.jump) x.clock;
      made = x.made + 1;
    }

-- the state with these tables and clock
abbrev pub into : State → Ran → State
into s x = State.with_clock x.clock (State.with_ranking (record { jump = x.jump; sum = x.sum }) s)

pub stage : (s : State) → Stage 4 (units s) true (λ (x : Ran). x.clock) (one (units s)) (λ (x : Ran). x.made) (into s)
unfolding one last_at Step.ranking
stage s =
    record {
      small = omega arith;
      site = λ x. refl;
      clocks = λ x. refl;
      fit = λ x w. refl;
      counts = λ x. refl;
      steps = λ x w e. rw (step_by 4 tt (into s x) e);
    }
