-- T-05, number 18 whole: a load with a planner's table of parents is refused by 18 exactly where the stored table
-- passes, the parents are n, and the table of parents is not drawn as document 02 asks. PlanRefusedProof.antt proves
-- it.
use Rattle.std.specs.Prelude.{◌≡◌, ◌⊎◌, ◌↔◌, ◌≢◌, List, ℕ, ◌<◌, length}
use Rattle.spec_rules.specs.Basics.{ABSENT, at}
use Rattle.spec_machine.specs.Load.{Input, links_in, stored_load_refusal, planned_load_refusal}
use Rattle.spec_machine.specs.State.{State}
use Rattle.spec_machine.specs.Calls.{number_of, planned_load_answer}
use Rattle.theory_reach.specs.Site.{Link}
use Rattle.theory_reach.specs.Colors.{Colored}
use Rattle.theory_reach.specs.PlannedSteps.{Never}

-- 18's cause of unit v: "a colour unit has a parent, or another unit's parent isn't its neighbour or its chain of
-- parents doesn't end at its colour unit" (document 02)
abbrev pub Misdrawn : ℕ → List ℕ → List ℕ → List ℕ → ℕ → Type 0
Misdrawn m ends color ps v =
    ((at color v ≡ v) × (at ps v ≢ ABSENT))
    ⊎ ((at color v ≢ v) × ((Link m ends v (at ps v) → ⊥) ⊎ Never ps (at color v) v))

-- 18's cause, by the colours that stage 1 ends with
abbrev pub Cause18 : Input → List ℕ → Type 0
Cause18 input ps =
    (stored_load_refusal input ≡ 0)
    × (length ps ≡ input.units)
    × ((color : List ℕ) × Colored input.units (links_in input) input.words color
    × ((v : ℕ) × (v < input.units) × Misdrawn (links_in input) input.words color ps v))

abbrev pub Eighteen : Type 0
Eighteen = (input : Input) (ps : List ℕ) → (planned_load_refusal input ps ≡ 18) ↔ Cause18 input ps

-- as the call replies, on any state
abbrev pub EighteenReplied : Type 0
EighteenReplied = (input : Input) (ps : List ℕ) (s : State) →
    (number_of (planned_load_answer input ps s).reply ≡ 18) ↔ Cause18 input ps
