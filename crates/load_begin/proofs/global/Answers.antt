-- The lists that the definition gives.
use mathlib.Core.Path.{refl}
use Rattle.spec_machine.specs.Load.{absents, zeros}
use Rattle.load_begin.proofs.global.Goals as goal

pub returns : goal.returns
unfolding absents zeros
returns c = refl
