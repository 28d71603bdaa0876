-- Document 01, stages 4 and 6 of every survey from a load: the stage follows its longest list, of L objects, makes
-- lg(L) rounds with requests, and ends with one round without. RankingStagesProof.antt proves it.
use Rattle.std.specs.Prelude.{◌≡◌, ◌⊎◌, ℕ, ◌+◌, ◌*◌, ◌≤◌, ◌<◌, ◌^◌, ltb}
use Rattle.base_lists.specs.Folds.{count}
use Rattle.base_log2.specs.Lg.{lg}
use Rattle.spec_machine.specs.State.{State, units}
use Rattle.spec_machine.specs.Load.{Input}
use Rattle.spec_machine.specs.Step.{steps, round_requests}
use Rattle.theory_reach.specs.Started.{Started}
use Rattle.theory_reach.specs.RankedLists.{InLists, Longest}

-- before the first round of a ranking
pub record AtRanking (s : State) : Type 0 where
  pub stage : (s.clock.stage ≡ 4) ⊎ (s.clock.stage ≡ 6)
  pub unmade : s.clock.made ≡ 0

-- the ranking from there on
pub record RankingStage (s : State) : Type 0 where
  -- its objects stand in lists: those of the tours; what is no directed tree link stands alone
  pub place : ℕ → ℕ
  pub lists : InLists (2 * units s) place s.ranking.jump
  -- the longest has L
  pub L : ℕ
  pub longest : Longest (2 * units s) L place
  -- the stage makes lg(L) + 1 rounds,
  pub during : (r : ℕ) → r ≤ lg L → ((steps r s).clock.stage ≡ s.clock.stage) × ((steps r s).clock.made ≡ r)
  pub over : ((steps (lg L + 1) s).clock.stage ≡ s.clock.stage + 1) × ((steps (lg L + 1) s).clock.made ≡ 0)
  -- in round r, counted from 0, one request for each object past number 2 ^ r of its list:
  pub requests : (r : ℕ) → r ≤ lg L → round_requests (steps r s)
      ≡ count (2 * units s) (λ (a : ℕ). ltb (2 ^ r) (place a))
  -- some in each but the last, and none in that
  pub asks : (r : ℕ) → r < lg L → 1 ≤ round_requests (steps r s)
  pub silent : round_requests (steps (lg L) s) ≡ 0

abbrev pub RankingStages : Type 0
RankingStages = (input : Input) (s₀ : State) → Started input s₀ → (k : ℕ) → AtRanking (steps k s₀) →
    RankingStage (steps k s₀)
