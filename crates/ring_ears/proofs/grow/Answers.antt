-- The anchors, the row, then passes.
use Rattle.theory_ears.specs.Present.{sure}
use Rattle.theory_ears.specs.Weaving.{settles}
use Rattle.ring_ears.proofs.grow.Goals as goal

pub returns : goal.returns
returns c =
    let a = c.args in
    settles (sure a.marks.now) a.units a.links a.ends.now a.count a.parent.now a.seq.now a.b
    a.pos.now a.held.now c.hold.new.held
    c.follow.new.pos c.follow.new.held
    c.settle.new.pos c.settle.new.held
    c.hold.ensures c.follow.ensures c.settle.ensures
