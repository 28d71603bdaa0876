-- What is printed for an accepted table is the report of the finished survey, and that survey is right.
use Rattle.std.specs.Prelude.{◌≡◌, refl, Bool, true, false, ◌⊎◌, List, ℕ, ◌≤◌, ◌<◌}
use Rattle.std.proofs.Common.{sym, ap, ◌∙◌, inl, inr, arith, eqb-true, eq-eqb}
use Rattle.std.proofs.Math.Decide.{dec_lt}
use Rattle.base_lists.specs.Tests.{not_both}
use Rattle.spec_machine.specs.State.{State}
use Rattle.spec_machine.specs.State.{finished, FINISHED}
use Rattle.spec_machine.specs.WellFormed.{well_formed}
use Rattle.spec_machine.specs.Load.{Input, stored_load_refusal, table_of, loaded}
use Rattle.spec_machine.specs.Step.{steps}
use Rattle.spec_machine.specs.StepLaws.{loaded-well_formed, first-countdown}
use Rattle.spec_machine.specs.Run.{ran}
use Rattle.spec_machine.specs.RunLaws.{Made, ran-made, total, total-least, total-countdown, ended-exact}
use Rattle.spec_machine.specs.RunLaws.{steps-well_formed}
use Rattle.theory_reach.specs.Started.{Started, loaded-started}
use Rattle.theory_reach.specs.Reach.{SurveyRight, survey-right, table-steps}
use Rattle.report_program.specs.Printed.{surveyed}

module _ (input : Input) (accepted : stored_load_refusal input ≡ 0) where
  w : well_formed (loaded input) ≡ true
  w = loaded-well_formed input accepted

  S : Started input (loaded input)
  S = loaded-started input accepted

  made : Made 65535 (loaded input) (ran 65535 0 (loaded input)).0 (ran 65535 0 (loaded input)).1
  made = ran-made 65535 (loaded input)

  few : total (loaded input) ≤ 804
  few = omega (arith, total-countdown (loaded input), first-countdown input accepted)

  -- the greatest budget is more than enough
  all_made : (ran 65535 0 (loaded input)).1 ≡ total (loaded input)
  all_made = omega (
    arith,
    at_least made.stops,
    at_most (dec_lt (total (loaded input)) (ran 65535 0 (loaded input)).1),
  )
    where
      at_least : ((ran 65535 0 (loaded input)).1 ≡ 65535) ⊎ (finished (ran 65535 0 (loaded input)).0 ≡ true) →
          total (loaded input) ≤ (ran 65535 0 (loaded input)).1
      at_least (inl e) = omega (arith, few)
      at_least (inr f) =
          (ended-exact (loaded input) w (ran 65535 0 (loaded input)).1).0
          (rw (← made.state) (eqb-true (ran 65535 0 (loaded input)).0.clock.stage FINISHED f))

      at_most : Dec (total (loaded input) < (ran 65535 0 (loaded input)).1) →
          (ran 65535 0 (loaded input)).1 ≤ total (loaded input)
      at_most (yes l) =
          absurd (not_both (finished (steps (total (loaded input)) (loaded input)))
          (eq-eqb _ FINISHED (total-least (loaded input) w).ends) (made.going (total (loaded input)) l))
      at_most (no l) = omega arith

  pub surveyed-end : surveyed input ≡ steps (total (loaded input)) (loaded input)
  surveyed-end = made.state ∙ ap (λ (k : ℕ). steps k (loaded input)) all_made

  pub surveyed-table : (surveyed input).table ≡ table_of input
  surveyed-table = rw surveyed-end (table-steps S (total (loaded input)))

  pub surveyed-finished : (surveyed input).clock.stage ≡ FINISHED
  surveyed-finished = rw surveyed-end (total-least (loaded input) w).ends

  pub surveyed-well_formed : well_formed (surveyed input) ≡ true
  surveyed-well_formed = rw surveyed-end (steps-well_formed (total (loaded input)) (loaded input) w)

  pub surveyed-right : SurveyRight input (surveyed input)
  surveyed-right = rw surveyed-end (survey-right S).3
