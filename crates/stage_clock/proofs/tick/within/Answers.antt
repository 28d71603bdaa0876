-- The tests joined.
use Rattle.std.proofs.Common.{refl}
use Rattle.std.proofs.Math.Bool.{and_assoc}
use Rattle.spec_machine.specs.InStage.{in_stage}
use Rattle.stage_clock.proofs.tick.within.Goals as goal

pub returns : goal.returns
unfolding in_stage
returns c = simp and_assoc refl
