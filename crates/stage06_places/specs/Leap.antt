-- Stage 6 as a ranking that numbers the places with its last round.
use Rattle.std.specs.Prelude.{refl, true, ◌&&◌, List, ℕ}
use Rattle.std.proofs.Common.{arith}
use Rattle.base_lists.specs.Tests.{refuted}
use Rattle.spec_rules.specs.Order.{pre_round}
use Rattle.spec_state.specs.declared.groups.Clock.{Clock}
use Rattle.spec_machine.specs.InStage.{in_stage, stands}
use Rattle.leap_ranking.specs.Leapt.{Ranks}
use Rattle.stage06_places.specs.declared.Ran.{Ran}
use Rattle.stage06_places.specs.Rounds.{on, one}

-- the tables, the clock and the rounds made
abbrev pub ran : List ℕ → List ℕ → List ℕ → Clock → ℕ → Ran
ran place jump sum c made = record { pre = place; jump = jump; sum = sum; clock = c; made = made }

pub ranks : (n : ℕ) (color parent : List ℕ) → Ranks ran (on n) (one n color parent) n 6 (pre_round n color parent)
unfolding one
ranks n color parent =
    record {
      from = omega arith;
      to = omega arith;
      most = refl;
      runs = λ place jump sum c made inside. inside;
      rests = λ place jump sum c made e. refuted (true && in_stage n 6 c) (λ t. omega (arith, e, stands n 6 c t));
      round = λ place jump sum c made. refl;
    }
