-- The rule or the ceiling.
use Rattle.spec_machine.specs.InStage.{last_at}
use Rattle.stage_clock.proofs.tick.is_last.Goals as goal

pub returns : goal.returns
unfolding last_at
returns c = cc
