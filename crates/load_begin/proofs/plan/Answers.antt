-- The array beside the mark that it was given.
use mathlib.Core.Path.{refl}
use Rattle.load_begin.proofs.plan.Goals as goal

pub returns : goal.returns
returns c = rw c.drawn.ensures refl
