-- The tests of units and of links, from marks and tops.
use Rattle.load_plan.specs.Unfit.{unfit_by}
use Rattle.load_plan.proofs.unfit.Goals as goal

pub returns : goal.returns
returns c =
    let a = c.args in
    rw (c.either.ensures, c.splits-apart.ensures, c.strays-astray.ensures)
    (unfit_by a.units a.links a.table.now a.parents.now c.near-near.result c.tops-tops.result
    c.requires.0 c.requires.2 c.near-near.ensures c.tops-tops.ensures)
