-- One round of stage 6 on the tables that it changes, and that it is a step of the state.
use Rattle.std.specs.Prelude.{◌≡◌, refl, Bool, true, false, cond, ◌&&◌, ◌⊎◌, List, ℕ, ◌+◌, ◌*◌}
use Rattle.std.proofs.Common.{inl, inr, arith}
use Rattle.base_lists.specs.Tests.{either}
use Rattle.spec_rules.specs.Ranking.{sum_round, jump_round, requests_of, ranking_ends}
use Rattle.spec_rules.specs.Order.{pre_round}
use Rattle.spec_machine.specs.State
use Rattle.spec_machine.specs.State.{State, units}
use Rattle.spec_machine.specs.Step
use Rattle.spec_machine.specs.Step.{next_clock}
use Rattle.spec_machine.specs.StageLaws.{ends-at}
use Rattle.spec_machine.specs.InStage.{in_stage, last_at}
use Rattle.spec_machine.specs.StageSteps.{Stage, step_by}
use Rattle.stage06_places.specs.declared.Ran.{Ran}

-- the stage makes a round: the clock stands in it, and its tables are right as they are
abbrev pub on : ℕ → Ran → Bool
on n x = true && in_stage n 6 x.clock

-- a ranking round; the last one writes the places, from the sums before it
unfoldable pub one : ℕ → List ℕ → List ℕ → Ran → Ran
one n color parent x =
    let last = last_at n (ranking_ends (2 * n) x.jump) x.clock in
    record {
      pre = cond last (pre_round n color parent x.sum x.pre) x.pre;
      jump = jump_round (2 * n) x.jump;
      sum = sum_round (2 * n) x.jump x.sum;
      clock = next_clock last (requests_of (2 * n) x.jump) x.clock;
      made = x.made + 1;
    }

-- the state with these tables and clock
abbrev pub into : State → Ran → State
into s x =
    State.with_clock x.clock
    (State.with_order (record { forward = s.order.forward; nd = s.order.nd; pre = x.pre })
    (State.with_ranking (record { jump = x.jump; sum = x.sum }) s))

pub stage : (s : State)
    → Stage 6 (units s) true (λ (x : Ran). x.clock) (one (units s) s.components.color s.tree.parent)
    (λ (x : Ran). x.made) (into s)
unfolding one last_at Step.last_round Step.ranking Step.places
stage s =
    record {
      small = omega arith;
      site = λ x. refl;
      clocks = λ x. refl;
      fit = λ x w. refl;
      counts = λ x. refl;
      steps = λ x w e. steps x e (either (last_at (units s) (ranking_ends (2 * units s) x.jump) x.clock));
    }
  where
    made : Ran → Ran
    made x = one (units s) s.components.color s.tree.parent x

    steps : (x : Ran) → x.clock.stage ≡ 6
        → (last_at (units s) (ranking_ends (2 * units s) x.jump) x.clock ≡ true)
        ⊎ (last_at (units s) (ranking_ends (2 * units s) x.jump) x.clock ≡ false)
        → into s (made x) ≡ Step.step (into s x)
    steps x e (inl h) = rw (step_by 6 tt (into s x) e, ends-at 6 (into s x) e, h)
    steps x e (inr h) = rw (step_by 6 tt (into s x) e, ends-at 6 (into s x) e, h)
