-- The constructor over the table's words.
use mathlib.Core.Path.{refl}
use lib.Seq.{take_all}
use Rattle.spec_machine.specs.Load.{loaded}
use Rattle.spec_machine.specs.LoadLaws.{passed-fits}
use Rattle.survey.proofs.load.loaded.Goals as goal

pub returns : goal.returns
unfolding loaded
returns c =
    let a = c.args in
    let fits = passed-fits a.units a.table.now a.levels.now c.requires in
    rw (
      c.begun.ensures,
      c.table.ensures,
      take_all 2048 a.table.now fits.0,
      take_all 1024 a.levels.now fits.1,
    ) refl
