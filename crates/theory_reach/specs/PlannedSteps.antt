-- T-05: in any table of parents whose entries are absent or name units, whether or not a load would accept it, the
-- distance that stage 2's round stores is the number of steps after which the chain of parents first meets the colour
-- unit, and absent exactly where it never gets there. PlannedStepsProof.antt proves it.
use Rattle.std.specs.Prelude.{◌≡◌, true, ◌↔◌, List, ℕ, ◌≤◌, ◌<◌}
use Rattle.spec_rules.specs.Basics.{ABSENT, at}
use Rattle.spec_machine.specs.State.{State, units}
use Rattle.spec_machine.specs.Kept.{Kept}
use Rattle.spec_machine.specs.Step
use Rattle.theory_reach.specs.Sized.{Sized}
use Rattle.theory_reach.specs.PlanCause.{Climbs}

-- the chain of parents from v meets c after k steps, and not before
pub record Meets (plan : List ℕ) (c k v : ℕ) : Type 0 where
  pub there : Climbs plan c k v
  pub first : (j : ℕ) → Climbs plan c j v → k ≤ j

-- it never does
abbrev pub Never : List ℕ → ℕ → ℕ → Type 0
Never plan c v = (j : ℕ) → Climbs plan c j v → ⊥

-- what x says of the chain from v up to c
pub record StepsTo (plan : List ℕ) (c v x : ℕ) : Type 0 where
  pub steps : (k : ℕ) → k < ABSENT → (x ≡ k) ↔ Meets plan c k v
  pub absent : (x ≡ ABSENT) ↔ Never plan c v

-- T-05's distance: what stage 2's round with a plan stores for each unit, of any kept state
abbrev pub PlannedDistances : Type 0
PlannedDistances =
    (s : State) → Kept s → Sized s → s.clock.stage ≡ 2 → Step.planned s ≡ true → (v : ℕ) → v < units s
    → StepsTo s.plan.parent (at s.components.color v) v (at (Step.step s).tree.dist v)
