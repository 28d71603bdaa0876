-- One round of stage 5 on the tables that it changes, and that it is a step of the state.
use Rattle.std.specs.Prelude.{◌≡◌, refl, Bool, true, false, cond, ◌&&◌, ◌⊎◌, List, ℕ, ◌+◌, eqb}
use Rattle.std.proofs.Common.{inl, inr, arith}
use Rattle.base_lists.specs.Tests.{either}
use Rattle.spec_rules.specs.Order.{forward_round, nd_round, second_sums, second_jumps}
use Rattle.spec_machine.specs.State
use Rattle.spec_machine.specs.State.{State, units}
use Rattle.spec_machine.specs.Step
use Rattle.spec_machine.specs.Step.{next_clock}
use Rattle.spec_machine.specs.InStage.{in_stage, last_at}
use Rattle.spec_machine.specs.StageSteps.{Stage, step_by}
use Rattle.stage05_marks.specs.declared.Ran.{Ran}

-- the stage makes a round: the clock stands in it, and its tables are right as they are
abbrev pub on : ℕ → Ran → Bool
on n x = true && in_stage n 5 x.clock

-- forward marks, then descendants and the start of the second ranking
unfoldable pub one : ℕ → List ℕ → List ℕ → List ℕ → Ran → Ran
one n color parent pred x =
    let after = next_clock (last_at n (eqb x.clock.made 1) x.clock) 0 x.clock in
    cond (eqb x.clock.made 0)
    (record {
      forward = forward_round n parent x.sum x.forward;
      nd = x.nd;
      jump = x.jump;
      sum = x.sum;
      clock = after;
      made = x.made + 1;
    })
    (record {
      forward = x.forward;
      nd = nd_round n color parent x.sum x.nd;
      jump = second_jumps n pred x.jump;
      sum = second_sums n parent x.forward x.sum;
      clock = after;
      made = x.made + 1;
    })

-- the state with these tables and clock
abbrev pub into : State → Ran → State
into s x =
    State.with_clock x.clock
    (State.with_order (record { forward = x.forward; nd = x.nd; pre = s.order.pre })
    (State.with_ranking (record { jump = x.jump; sum = x.sum }) s))

pub stage : (s : State)
    → Stage 5 (units s) true (λ (x : Ran). x.clock)
    (one (units s) s.components.color s.tree.parent s.tour.pred) (λ (x : Ran). x.made) (into s)
unfolding one last_at Step.marks Step.marks_forward Step.marks_descendants
stage s =
    record {
      small = omega arith;
      site = λ x. refl;
      clocks = λ x. refl;
      fit = λ x w. refl;
      counts = λ x. counts x (either (eqb x.clock.made 0));
      steps = λ x w e. steps x e (either (eqb x.clock.made 0));
    }
  where
    made : Ran → Ran
    made x = one (units s) s.components.color s.tree.parent s.tour.pred x

    counts : (x : Ran) → (eqb x.clock.made 0 ≡ true) ⊎ (eqb x.clock.made 0 ≡ false) → (made x).made ≡ x.made + 1
    counts x (inl h) = rw h refl
    counts x (inr h) = rw h refl

    steps : (x : Ran) → x.clock.stage ≡ 5 → (eqb x.clock.made 0 ≡ true) ⊎ (eqb x.clock.made 0 ≡ false)
        → into s (made x) ≡ Step.step (into s x)
    steps x e (inl h) = rw (step_by 5 tt (into s x) e, h)
    steps x e (inr h) = rw (step_by 5 tt (into s x) e, h)
