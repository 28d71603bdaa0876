-- Labels handed on until they are settled are the least.
use Rattle.theory_min_label.specs.HandLaws.{labels-least}
use Rattle.one_way.proofs.pass.least.Goals as goal

pub returns : goal.returns
returns c = λ first is.
    labels-least c.args.forward c.args.units c.args.links.now c.args.key.now first _ _ c.requires.0 is c.settle.ensures
