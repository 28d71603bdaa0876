-- The counts, then the field of ends filled and laid.
use mathlib.Core.Path.{refl}
use native.Mathlib.Omega.{arith}
use lib.ListN.{length-take}
use Rattle.words_layout.specs.TableLaid.{ends-laid}
use borrow.Author.Rules.{rules}
use Rattle.words_layout.proofs.lay.lay_ends.Goals as goal

pub slice_bounds-lay-end-3 : goal.slice_bounds-lay-end-3
slice_bounds-lay-end-3 c = rw (length-take c.held-count.result c.args.table.now) (omega (arith, c.held-count.ensures))

pub returns : goal.returns
returns c =
    let a = c.args in
    ends-laid 2048 a.units _ c.held-count.result a.table.now a.words.now _ _ _ refl (search rules)
    (search rules) (search rules) c.held-count.ensures refl c.lay.ensures c.fill.ensures c.lay-2.ensures
