-- Every level is 0.
use mathlib.Core.Path.{refl}
use Rattle.spec_machine.specs.Load.{silences}
use Rattle.load_begin.proofs.silent.Goals as goal

pub returns : goal.returns
unfolding silences
returns c = refl
