-- A run: rounds until the end or until its budget is spent.
use Rattle.std.specs.Prelude.{cond, ℕ, zero, suc}
use Rattle.spec_machine.specs.State.{State}
use Rattle.spec_machine.specs.State.{finished}
use Rattle.spec_machine.specs.Step.{step}

-- what a run of at most `budget` further rounds leaves, and the rounds made with those k that came before
unfoldable pub ran : ℕ → ℕ → State → State × ℕ
ran zero k s = (s, k)
ran (suc budget) k s = let further = ran budget (suc k) (step s) in cond (finished s) (s, k) further
