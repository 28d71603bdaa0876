-- The start of a survey: all that is used of a load, as one record. What follows from it holds after every load that
-- builds it. Both do (document 02, T-10): a fresh table that passes passes as a stored one.
use Rattle.std.specs.Prelude.{◌≡◌, refl, true, ℕ, ◌≤◌}
use Rattle.spec_machine.specs.State.{State, MAX-ROUNDS}
use Rattle.spec_machine.specs.WellFormed.{well_formed}
use Rattle.spec_machine.specs.Load.{Input, stored_load_refusal, table_of, begun, loaded}
use Rattle.spec_machine.specs.Step.{countdown}
use Rattle.spec_machine.specs.StepLaws.{loaded-well_formed, first-countdown}
use Rattle.theory_reach.specs.Invariant.{Base, Reached}
use Rattle.theory_reach.specs.Loaded.{base-loaded, reached-loaded}

pub record Started (input : Input) (s : State) : Type 0 where
  -- the table passes the checks of a stored one, and the state holds it
  pub accepted : stored_load_refusal input ≡ 0
  pub table : s.table ≡ table_of input
  -- the site that it draws, and the stage that the state is at
  pub base : Base s
  pub reached : Reached s
  pub kept : well_formed s ≡ true
  -- the countdown first shown is within the limit of all rounds, and none was made
  pub shown : countdown s ≤ MAX-ROUNDS
  pub unmade : s.clock.rounds ≡ 0

pub loaded-started : (input : Input) → stored_load_refusal input ≡ 0 → Started input (loaded input)
unfolding loaded begun
loaded-started input accepted =
    record {
      accepted = accepted;
      table = refl;
      base = base-loaded input accepted;
      reached = reached-loaded input accepted;
      kept = loaded-well_formed input accepted;
      shown = first-countdown input accepted;
      unmade = refl;
    }
