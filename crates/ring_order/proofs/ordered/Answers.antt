-- The tree, then the order.
use Rattle.theory_ears.specs.Found.{ordered}
use Rattle.theory_ears.specs.Present.{sure}
use borrow.Author.Rules.{rules}
use Rattle.ring_order.proofs.ordered.Goals as goal

pub returns : goal.returns
returns c =
    let a = c.args in
    ordered (sure a.marks.now) a.units a.links a.ends.now a.i a.pos.now c.store.new.t
    c.store-2.new.t c.grow.new.pos c.end_a-a.result
    c.end_b-b.result c.span-count.result
    c.blank-parent.result c.zeros-seq.result c.span-count.new.parent
    c.span-count.new.seq c.zeros-held.result
    c.grow.new.held c.end_a-a.ensures c.end_b-b.ensures
    (search (c.blank-parent.type_inv, rules)) c.blank-parent.ensures (search (c.zeros-seq.type_inv, rules))
    c.span-count.ensures (search (c.zeros-held.type_inv, rules)) c.store.ensures
    c.store-2.ensures c.grow.ensures
