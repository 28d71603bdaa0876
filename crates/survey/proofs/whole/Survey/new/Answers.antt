-- The constructor over no unit and no link.
use mathlib.Core.Path.{refl}
use Rattle.spec_machine.specs.Load.{unloaded}
use Rattle.survey.proofs.whole.Survey.new.Goals as goal

pub returns : goal.returns
unfolding unloaded
returns c = rw (c.begun.ensures, c.table.ensures) refl
