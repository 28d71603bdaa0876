-- Document 02, T-02: what "labels, lone links and single points" are does not depend on the levels. Stated of any two
-- loads of one table, whatever their levels: `AnyLevels`, at the end, and AnyLevelsProof.antt proves it. All rounds may
-- differ, since stage 9 follows the tree; the first countdown does not.
use Rattle.std.specs.Prelude.{◌≡◌, List, ℕ, ◌<◌, ℤ}
use Rattle.table.specs.Table.{link_count}
use Rattle.spec_machine.specs.State.{State, FINISHED}
use Rattle.spec_machine.specs.Load.{Input, bare, stored_load_refusal, loaded}
use Rattle.spec_machine.specs.Step.{steps, countdown}
use Rattle.spec_machine.specs.Report.{unit_single, link_label, link_lone}

-- a table of n units, with its links' levels
abbrev pub with_levels : ℕ → List ℕ → List ℤ → Input
with_levels n words levels = record { units = n; words = words; levels = levels }

-- two states answer the questions about n units and m links alike
pub record Alike (n m : ℕ) (e f : State) : Type 0 where
  pub labels : (j : ℕ) → j < m → link_label e j ≡ link_label f j
  pub lones : (j : ℕ) → j < m → link_lone e j ≡ link_lone f j
  pub singles : (u : ℕ) → u < n → unit_single e u ≡ unit_single f u

-- two loads of one table: the same countdown is first shown and, once both surveys are finished, they answer alike
pub record SameSurvey (n : ℕ) (words : List ℕ) (one two : List ℤ) : Type 0 where
  pub countdowns : countdown (loaded (with_levels n words one)) ≡ countdown (loaded (with_levels n words two))
  pub ends : (k l : ℕ) → (steps k (loaded (with_levels n words one))).clock.stage ≡ FINISHED →
      (steps l (loaded (with_levels n words two))).clock.stage ≡ FINISHED
      → Alike n (link_count words) (steps k (loaded (with_levels n words one)))
      (steps l (loaded (with_levels n words two)))

abbrev pub AnyLevels : Type 0
AnyLevels =
    (n : ℕ) (words : List ℕ) (one two : List ℤ) → stored_load_refusal (with_levels n words one) ≡ 0 →
    stored_load_refusal (with_levels n words two) ≡ 0
    → SameSurvey n words one two

-- the same table without levels, which is loaded with the lowest for each link: it is accepted where the table is, and
-- the survey is the same
abbrev pub WithoutLevels : Type 0
WithoutLevels =
    (n : ℕ) (words : List ℕ) (levels : List ℤ) → stored_load_refusal (with_levels n words levels) ≡ 0
    → (stored_load_refusal (bare n words) ≡ 0) × SameSurvey n words levels (bare n words).levels
