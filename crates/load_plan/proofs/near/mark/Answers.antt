-- The one entry.
use mathlib.Core.Path.{refl}
use Rattle.load_plan.specs.Marks.{marked}
use Rattle.load_plan.proofs.near.mark.Goals as goal

pub returns : goal.returns
unfolding marked
returns c = rw (c.store.ensures, c.choose-x.ensures, c.at-up.ensures, c.at-own.ensures) refl
