-- The end that says more takes in the lesser.
use borrow.Author.Rules.{rules}
use Rattle.stage01_components.specs.Near.{hears_lesser}
use Rattle.stage01_components.proofs.hear.Goals as goal

pub returns : goal.returns
returns c =
    hears_lesser c.args.n c.args.said.now c.args.t.now c.args.a c.args.b c.requires.0
    c.requires.1 _ _
    c.choose.ensures
    (search rules)
    _
    c.lower.ensures
