-- T-02 of the survey itself: in every kept state at stage 2 without a plan, after its first round, the parent that a
-- round stores for a unit which it visits is "of the neighbours visited in the round before, the one with the highest
-- level, ties to the least number". ParentsByLevelProof.antt proves it.
use Rattle.std.specs.Prelude.{◌≡◌, false, ◌↔◌, ◌≢◌, ℕ, ◌≤◌, ◌<◌}
use Rattle.spec_rules.specs.Basics.{ABSENT, at}
use Rattle.spec_rules.proofs.BestParent.{Offers, Best}
use Rattle.spec_machine.specs.State.{State, units, links}
use Rattle.spec_machine.specs.Kept.{Kept}
use Rattle.spec_machine.specs.Step
use Rattle.theory_reach.specs.Sized.{Sized}

-- what a round of stage 2 does to unit v, from the state s to the state t
pub record TakesBest (s t : State) (v : ℕ) : Type 0 where
  -- an unvisited unit is visited exactly where a link joins it to a neighbour visited in the round before,
  pub visited : at s.tree.dist v ≡ ABSENT
      → (at t.tree.dist v ≢ ABSENT) ↔ ((i : ℕ) × (w : ℕ)
      × Offers (links s) s.clock.made s.table.ends s.tree.dist v i w)
  -- and then takes the best of them
  pub best : at s.tree.dist v ≡ ABSENT → at t.tree.dist v ≢ ABSENT
      → Best (links s) s.clock.made s.table.ends s.table.levels s.tree.dist v (at t.tree.parent v)
  -- a visited one keeps what it has
  pub stays : at s.tree.dist v ≢ ABSENT →
      (at t.tree.parent v ≡ at s.tree.parent v) × (at t.tree.dist v ≡ at s.tree.dist v)

abbrev pub ParentsByLevel : Type 0
ParentsByLevel =
    (s : State) → Kept s → Sized s → s.clock.stage ≡ 2 → Step.planned s ≡ false → 1 ≤ s.clock.made → (v : ℕ) →
    v < units s → TakesBest s (Step.step s) v
