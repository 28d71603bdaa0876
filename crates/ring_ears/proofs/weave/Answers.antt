-- Lengths, then what stands past moves on, then both sides of the ear.
use Rattle.theory_ears.specs.Weaving.{woven_in}
use Rattle.ring_ears.proofs.weave.Goals as goal

pub returns : goal.returns
returns c =
    let a = c.args in
    woven_in a.units a.parent.now a.held.now a.u a.v a.pos.now
    c.move_on.new.pos c.lay.new.out
    c.lay-2.new.out
    c.at.result c.at-q.result c.hanging-s.result c.hanging-t.result
    c.bounded_sum-top.result c.bounded_sum.result
    c.bounded_sum-2.result c.at.ensures c.at-q.ensures
    c.hanging-s.ensures c.hanging-t.ensures c.bounded_sum-top.ensures
    c.bounded_sum.ensures c.move_on.ensures c.lay.ensures
    c.bounded_sum-2.ensures c.lay-2.ensures
