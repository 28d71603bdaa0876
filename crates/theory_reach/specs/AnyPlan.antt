-- Document 02, T-05: labels, single points and lone links come out as with the survey's own tree. Stated of any two
-- starts of one table, whichever load made them and whatever levels and plan they took (`SameEnds`), then of a load
-- with a plan beside one without (`AnyPlan`), and of any two plans (`AnyPlans`). AnyPlanProof.antt proves them. All
-- rounds may differ; the first countdown does not.
use Rattle.std.specs.Prelude.{◌≡◌, List, ℕ, ℤ}
use Rattle.table.specs.Table.{link_count}
use Rattle.spec_machine.specs.State.{State, FINISHED}
use Rattle.spec_machine.specs.Load.{Input, links_in, stored_load_refusal, loaded, planned_load_refusal, planned_loaded}
use Rattle.spec_machine.specs.Step.{steps, countdown}
use Rattle.theory_reach.specs.AnyLevels.{with_levels, Alike}
use Rattle.theory_reach.specs.Started.{Started}

-- the same countdown is first shown and, once both surveys are finished, they answer alike
pub record SameEnd (n m : ℕ) (s t : State) : Type 0 where
  pub countdowns : countdown s ≡ countdown t
  pub ends : (k l : ℕ) → (steps k s).clock.stage ≡ FINISHED → (steps l t).clock.stage ≡ FINISHED →
      Alike n m (steps k s) (steps l t)

abbrev pub SameEnds : Type 0
SameEnds =
    (n : ℕ) (words : List ℕ) (one two : List ℤ) (s t : State) → Started (with_levels n words one) s →
    Started (with_levels n words two) t
    → s.clock ≡ t.clock → SameEnd n (link_count words) s t

-- with a plan and without: the table is accepted without it too, as a stored one
abbrev pub AnyPlan : Type 0
AnyPlan =
    (input : Input) (ps : List ℕ) → planned_load_refusal input ps ≡ 0
    → (stored_load_refusal input ≡ 0) × SameEnd input.units (links_in input) (planned_loaded input ps) (loaded input)

-- any two plans, and any levels
abbrev pub AnyPlans : Type 0
AnyPlans =
    (n : ℕ) (words : List ℕ) (one two : List ℤ) (ps qs : List ℕ) → planned_load_refusal (with_levels n words one) ps ≡ 0
    →
    planned_load_refusal (with_levels n words two) qs ≡ 0
    → SameEnd n (link_count words) (planned_loaded (with_levels n words one) ps)
    (planned_loaded (with_levels n words two) qs)
