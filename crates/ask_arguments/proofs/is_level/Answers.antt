-- By its size.
use Rattle.std.proofs.Common.{refl}
use Rattle.ask_arguments.specs.Arguments.{is_level}
use Rattle.ask_arguments.proofs.is_level.Goals as goal

pub returns : goal.returns
unfolding is_level
returns c = rw c.size_in-size.ensures refl
