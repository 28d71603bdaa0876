-- One round of stage 3 on the tables that it changes, and that it is a step of the state.
use Rattle.std.specs.Prelude.{◌≡◌, refl, Bool, true, false, cond, ◌&&◌, ◌⊎◌, List, ℕ, ◌+◌, eqb}
use Rattle.std.proofs.Common.{inl, inr, arith}
use Rattle.base_lists.specs.Folds.{every}
use Rattle.base_lists.specs.Tests.{either}
use Rattle.spec_rules.specs.Bounds.{name_ok}
use Rattle.spec_rules.specs.Tour.{next_round, pred_round, first_sums, first_jumps}
use Rattle.spec_machine.specs.State
use Rattle.spec_machine.specs.State.{State, units}
use Rattle.spec_machine.specs.Step
use Rattle.spec_machine.specs.Step.{next_clock}
use Rattle.spec_machine.specs.KeptLaws.{parents-fit}
use Rattle.spec_machine.specs.InStage.{in_stage, last_at}
use Rattle.spec_machine.specs.StageSteps.{Stage, step_by}
use Rattle.stage03_tour.specs.declared.Ran.{Ran}

-- the stage makes a round: its parents are units or absent, and the clock stands in it
abbrev pub on : ℕ → List ℕ → Ran → Bool
on n parent x = every (name_ok n) parent && in_stage n 3 x.clock

-- round one the followers; round two the predecessors, and the start of the first ranking
unfoldable pub one : ℕ → List ℕ → Ran → Ran
one n parent x =
    let after = next_clock (last_at n (eqb x.clock.made 1) x.clock) 0 x.clock in
    cond (eqb x.clock.made 0)
    (record {
      next = next_round n parent x.next;
      pred = x.pred;
      jump = x.jump;
      sum = x.sum;
      clock = after;
      made = x.made + 1;
    })
    (record {
      next = x.next;
      pred = pred_round n parent x.next x.pred;
      jump = first_jumps n parent x.next x.jump;
      sum = first_sums n parent x.sum;
      clock = after;
      made = x.made + 1;
    })

-- the state with these tables and clock
abbrev pub into : State → Ran → State
into s x =
    State.with_clock x.clock
    (State.with_tour (record { next = x.next; pred = x.pred })
    (State.with_ranking (record { jump = x.jump; sum = x.sum }) s))

pub stage : (s : State)
    → Stage 3 (units s) (every (name_ok (units s)) s.tree.parent) (λ (x : Ran). x.clock)
    (one (units s) s.tree.parent) (λ (x : Ran). x.made) (into s)
unfolding one last_at Step.tour Step.tour_next Step.tour_pred
stage s =
    record {
      small = omega arith;
      site = λ x. refl;
      clocks = λ x. refl;
      fit = λ x w. parents-fit (into s x) w;
      counts = λ x. counts x (either (eqb x.clock.made 0));
      steps = λ x w e. steps x e (either (eqb x.clock.made 0));
    }
  where
    counts : (x : Ran) → (eqb x.clock.made 0 ≡ true) ⊎ (eqb x.clock.made 0 ≡ false) →
        (one (units s) s.tree.parent x).made ≡ x.made + 1
    counts x (inl h) = rw h refl
    counts x (inr h) = rw h refl

    steps : (x : Ran) → x.clock.stage ≡ 3 → (eqb x.clock.made 0 ≡ true) ⊎ (eqb x.clock.made 0 ≡ false)
        → into s (one (units s) s.tree.parent x) ≡ Step.step (into s x)
    steps x e (inl h) = rw (step_by 3 tt (into s x) e, h)
    steps x e (inr h) = rw (step_by 3 tt (into s x) e, h)
