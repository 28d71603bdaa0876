-- A finished survey's labels, lone links and single points are the graph's, whichever load it came from.
use Rattle.std.specs.Prelude.{◌≡◌, refl, List, ℕ}
use Rattle.std.proofs.Common.{sym, ap, ◌∙◌}
use Rattle.spec_rules.specs.Ceilings
use Rattle.spec_machine.specs.State.{State, units}
use Rattle.spec_machine.specs.Step.{countdown}
use Rattle.spec_state.specs.declared.groups.Clock.{Clock}
use Rattle.spec_machine.specs.Load.{begun, loaded, planned_loaded}
use Rattle.spec_machine.proofs.PlannedLoad.{plan-accepted}
use Rattle.theory_reach.specs.AnyLevels.{with_levels}
use Rattle.theory_reach.specs.AnyLevelsProof.{both-alike}
use Rattle.theory_reach.specs.Started.{loaded-started}
use Rattle.theory_reach.specs.Reach.{end-right}
use Rattle.theory_reach.specs.PlannedStart.{planned-started}
use Rattle.theory_reach.specs.AnyPlan.{SameEnd, SameEnds, AnyPlan, AnyPlans}

pub same_ends_lem : SameEnds
same_ends_lem n words one two s t S T c =
    record {
      countdowns =
          ap (λ (x : ℕ). Ceilings.countdown x s.clock.stage s.clock.made) (ap (λ t. t.units) S.table
          ∙ sym (ap (λ t. t.units) T.table))
          ∙ ap (λ (c : Clock). Ceilings.countdown (units t) c.stage c.made) c;
      ends = λ k l x y. both-alike n words one two _ _ (end-right S k x) (end-right T l y);
    }

pub any-plan : AnyPlan
unfolding planned_loaded loaded begun
any-plan input ps e =
    let stored = (plan-accepted input ps e).stored in (
      stored,
      same_ends_lem input.units input.words input.levels input.levels _ _ (planned-started input ps e)
          (loaded-started input stored) refl,
    )

pub any-plans : AnyPlans
unfolding planned_loaded loaded begun
any-plans n words one two ps qs e f =
    same_ends_lem n words one two _ _ (planned-started (with_levels n words one) ps e)
    (planned-started (with_levels n words two) qs f) refl
