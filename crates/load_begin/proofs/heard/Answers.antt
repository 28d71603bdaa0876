-- The levels that the table holds, copied.
use mathlib.Core.Path.{◌≡◌, refl}
use native.Mathlib.Omega.{arith}
use lib.ListN.{take, length-take}
use Rattle.spec_machine.specs.LoadLaws.{held-words, length-silences}
use Rattle.load_begin.proofs.heard.Goals as goal

pub slice_bounds-levels_in-end : goal.slice_bounds-levels_in-end
slice_bounds-levels_in-end c =
    let w = c.args.levels.now in
    rw (length-take c.held-count.result w) (omega (arith, c.held-count.ensures))

pub levels_in-requires : goal.levels_in-requires
levels_in-requires c =
    let w = c.args.levels.now in
    rw (
      length-take c.held-count.result w,
      c.silent-heard.ensures,
      length-silences 1024,
    ) (omega (arith, c.held-count.ensures))

pub returns : goal.returns
returns c =
    let w = c.args.levels.now in
    let same : take c.held-count.result w ≡ take 1024 w = held-words 1024 c.held-count.result w c.held-count.ensures in
    rw (c.levels_in.ensures, c.silent-heard.ensures, same) refl
