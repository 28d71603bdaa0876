-- One mark, and none past it.
use Rattle.theory_ears.specs.Present.{one-sure}
use Rattle.ring_tables.proofs.unmarked.Goals as goal

pub returns : goal.returns
returns c = λ j. one-sure j
