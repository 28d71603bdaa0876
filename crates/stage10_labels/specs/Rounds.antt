-- One round of stage 10 on the tables that it changes, and that it is a step of the state.
use Rattle.std.specs.Prelude.{◌≡◌, refl, Bool, true, false, cond, ◌&&◌, ◌⊎◌, List, ℕ, ◌+◌, eqb}
use Rattle.std.proofs.Common.{inl, inr, arith}
use Rattle.base_lists.specs.All.{cond-keeps}
use Rattle.base_lists.specs.Tests.{either}
use Rattle.spec_rules.specs.Labels.{class_round, label_round}
use Rattle.spec_rules.specs.Fits.{links_fit}
use Rattle.spec_machine.specs.State
use Rattle.spec_machine.specs.State.{State, units, links}
use Rattle.spec_machine.specs.Step
use Rattle.spec_machine.specs.Step.{next_clock}
use Rattle.spec_machine.specs.InStage.{in_stage, last_at}
use Rattle.spec_machine.specs.StageSteps.{Stage, step_by, on-links}
use Rattle.stage10_labels.specs.declared.Ran.{Ran}

-- the stage makes a round: its links fit, and the clock stands in it
abbrev pub on : ℕ → ℕ → List ℕ → Ran → Bool
on n m ends x = links_fit n m ends && in_stage n 10 x.clock

-- round one gives the classes, round two the labels
unfoldable pub one : ℕ → ℕ → List ℕ → List ℕ → List ℕ → List ℕ → Ran → Ran
one n m ends parent pre color x =
    let after = next_clock (last_at n (eqb x.clock.made 1) x.clock) 0 x.clock in
    cond (eqb x.clock.made 0)
    (record {
      class = class_round m ends parent pre color x.class;
      label = x.label;
      clock = after;
      made = x.made + 1;
    })
    (record { class = x.class; label = label_round m x.class x.label; clock = after; made = x.made + 1 })

-- the state with these tables and clock
abbrev pub into : State → Ran → State
into s x = State.with_clock x.clock (State.with_labels (record { class = x.class; label = x.label }) s)

pub stage : (s : State)
    → Stage 10 (units s) (links_fit (units s) (links s) s.table.ends) (λ (x : Ran). x.clock)
    (one (units s) (links s) s.table.ends s.tree.parent s.order.pre s.aux.color) (λ (x : Ran). x.made)
    (into s)
unfolding one last_at Step.labels Step.label_classes Step.label_positions
stage s =
    on-links s (omega arith) (λ x. refl) (λ x. refl)
    (λ x. cond-keeps (λ (y : Ran). y.made ≡ x.made + 1) (eqb x.clock.made 0) _ _ refl refl)
    (λ x w e. steps x e (either (eqb x.clock.made 0)))
  where
    round : Ran → Ran
    round x = one (units s) (links s) s.table.ends s.tree.parent s.order.pre s.aux.color x

    steps : (x : Ran) → x.clock.stage ≡ 10 → (eqb x.clock.made 0 ≡ true) ⊎ (eqb x.clock.made 0 ≡ false) →
        into s (round x) ≡ Step.step (into s x)
    steps x e (inl h) = rw (step_by 10 tt (into s x) e, h)
    steps x e (inr h) = rw (step_by 10 tt (into s x) e, h)
