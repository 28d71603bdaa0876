-- The list that the definition gives.
use mathlib.Core.Path.{refl}
use Rattle.spec_machine.specs.Load.{absents}
use Rattle.load_begin.proofs.orphans.Goals as goal

pub returns : goal.returns
unfolding absents
returns c = refl
