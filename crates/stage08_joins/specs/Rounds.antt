-- One round of stage 8 on the tables that it changes, and that it is a step of the state.
use Rattle.std.specs.Prelude.{refl, Bool, true, ◌&&◌, List, ℕ, ◌+◌}
use Rattle.std.proofs.Common.{arith}
use Rattle.spec_rules.specs.Aux.{link_joins_round, parent_joins_round}
use Rattle.spec_rules.specs.Fits.{links_fit}
use Rattle.spec_machine.specs.State
use Rattle.spec_machine.specs.State.{State, units, links}
use Rattle.spec_machine.specs.Step
use Rattle.spec_machine.specs.Step.{next_clock}
use Rattle.spec_machine.specs.InStage.{in_stage, last_at}
use Rattle.spec_machine.specs.StageSteps.{Stage, step_by, on-links}
use Rattle.stage08_joins.specs.declared.Ran.{Ran}

-- the stage makes a round: its links fit, and the clock stands in it
abbrev pub on : ℕ → ℕ → List ℕ → Ran → Bool
on n m ends x = links_fit n m ends && in_stage n 8 x.clock

-- one round is the whole stage
unfoldable pub one : ℕ → ℕ → List ℕ → List ℕ → List ℕ → List ℕ → List ℕ → List ℕ → Ran → Ran
one n m ends parent nd pre low high x =
    record {
      parents = parent_joins_round n parent nd pre low high x.parents;
      links = link_joins_round m ends parent nd pre x.links;
      clock = next_clock (last_at n true x.clock) 0 x.clock;
      made = x.made + 1;
    }

-- the state with these tables and clock
abbrev pub into : State → Ran → State
into s x = State.with_clock x.clock (State.with_aux
    (record { parents = x.parents; links = x.links; color = s.aux.color }) s)

pub stage : (s : State)
    → Stage 8 (units s) (links_fit (units s) (links s) s.table.ends) (λ (x : Ran). x.clock)
    (one (units s) (links s) s.table.ends s.tree.parent s.order.nd s.order.pre s.range.low
    s.range.high) (λ (x : Ran). x.made) (into s)
unfolding one last_at Step.aux_edges
stage s =
    on-links s (omega arith) (λ x. refl) (λ x. refl) (λ x. refl) (λ x w e. rw (step_by 8 tt (into s x) e))
