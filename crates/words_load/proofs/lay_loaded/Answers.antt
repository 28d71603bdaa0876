-- All groups: nothing is left of the words before.
use mathlib.Core.Path.{refl}
use lib.Seq.{take_all}
use Rattle.spec_machine.specs.Load.{begun, loaded}
use Rattle.spec_machine.specs.LoadLaws.{passed-fits}
use Rattle.words_load.proofs.lay_loaded.Goals as goal

pub returns : goal.returns
unfolding loaded begun
returns c =
    let a = c.args in
    let fits = passed-fits a.units a.table.now a.levels.now c.requires in
    rw (
      c.back.ensures,
      c.front.ensures,
      c.lay_clock.ensures,
      c.clock.ensures,
      c.lay_table.ensures,
      take_all 2048 a.table.now fits.0,
      take_all 1024 a.levels.now fits.1,
    ) refl
