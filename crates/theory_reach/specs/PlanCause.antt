-- T-05, what 18 asks of a planner's table of parents, in the words of document 02 (`Drawn`), and that 18's test finds
-- it exactly (`PlanCause`): PlanCauseProof.antt proves it.
use Rattle.std.specs.Prelude.{◌≡◌, false, ◌↔◌, ◌≢◌, List, ℕ, zero, suc, ◌<◌}
use Rattle.spec_rules.specs.Basics.{ABSENT, at}
use Rattle.spec_rules.specs.Planned.{plan_unfit}
use Rattle.theory_reach.specs.Site.{Link}
use Rattle.theory_reach.specs.Colors.{Colored}

-- k parents up from v is c
pub data Climbs (plan : List ℕ) (c : ℕ) : ℕ → ℕ → Type 0 where
  here : {v : ℕ} → v ≡ c → Climbs plan c zero v
  up : {k v : ℕ} → at plan v ≢ ABSENT → Climbs plan c k (at plan v) → Climbs plan c (suc k) v

-- a colour unit has no parent; another unit's parent is its neighbour, and its chain of parents ends at its colour unit
pub record Drawn (n m : ℕ) (ends color plan : List ℕ) : Type 0 where
  pub colourless : (v : ℕ) → v < n → at color v ≡ v → at plan v ≡ ABSENT
  pub neighbour : (v : ℕ) → v < n → at color v ≢ v → Link m ends v (at plan v)
  pub arrives : (v : ℕ) → v < n → at color v ≢ v → (k : ℕ) × Climbs plan (at color v) k v

-- 18 is not given exactly where the table is so drawn, by the colours that stage 1 ends with; and there are such
-- colours
pub record PlanCause (n m : ℕ) (ends plan : List ℕ) : Type 0 where
  pub colors : (color : List ℕ) × Colored n m ends color
  pub exact : (color : List ℕ) → Colored n m ends color → (plan_unfit n m ends plan ≡ false) ↔ Drawn n m ends color plan
