-- Stage 4 as a ranking that numbers no places.
use Rattle.std.specs.Prelude.{refl, true, ◌&&◌, List, ℕ}
use Rattle.std.proofs.Common.{arith}
use Rattle.base_lists.specs.Tests.{refuted}
use Rattle.spec_state.specs.declared.groups.Clock.{Clock}
use Rattle.spec_machine.specs.InStage.{in_stage, stands}
use Rattle.leap_ranking.specs.Leapt.{Ranks}
use Rattle.stage04_ranking.specs.declared.Ran.{Ran}
use Rattle.stage04_ranking.specs.Rounds.{on, one}

-- the tables, the clock and the rounds made; it has no places
abbrev pub ran : List ℕ → List ℕ → List ℕ → Clock → ℕ → Ran
ran place jump sum c made = record { jump = jump; sum = sum; clock = c; made = made }

abbrev pub unnumbered : List ℕ → List ℕ → List ℕ
unnumbered sum place = place

pub ranks : (n : ℕ) → Ranks ran (on n) (one n) n 4 unnumbered
unfolding one
ranks n =
    record {
      from = omega arith;
      to = omega arith;
      most = refl;
      runs = λ place jump sum c made inside. inside;
      rests = λ place jump sum c made e. refuted (true && in_stage n 4 c) (λ t. omega (arith, e, stands n 4 c t));
      round = λ place jump sum c made. refl;
    }
