-- The field of levels filled and laid.
use mathlib.Core.Path.{refl}
use native.Mathlib.Omega.{arith}
use lib.ListN.{length-take}
use Rattle.words_layout.specs.TableLaid.{levels-laid}
use borrow.Author.Rules.{rules}
use Rattle.words_layout.proofs.lay.lay_levels.Goals as goal

pub slice_bounds-lay_levels-end : goal.slice_bounds-lay_levels-end
slice_bounds-lay_levels-end c = rw (length-take c.held-count.result c.args.levels.now)
    (omega (arith, c.held-count.ensures))

pub returns : goal.returns
returns c =
    let a = c.args in
    levels-laid 1024 c.held-count.result a.levels.now a.words.now _ _ refl (search rules) (search rules)
    c.held-count.ensures c.fill.ensures c.lay_levels.ensures.words c.lay_levels.ensures.back
