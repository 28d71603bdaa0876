-- The first two units, the search, then sweeps.
use Rattle.theory_ears.specs.Present.{sure}
use Rattle.theory_ears.specs.Reaching.{rooted}
use Rattle.ring_order.proofs.tree.span.Goals as goal

pub returns : goal.returns
returns c =
    let a = c.args in
    rooted (sure a.marks.now) a.links a.ends.now a.a a.b a.parent.now c.store.new.t
    c.store-2.new.t a.seq.now c.store-3.new.t c.store-4.new.t
    c.deepen-count.new.parent c.deepen-count.new.seq
    c.deepen-count.result c.fill.new.parent c.fill.new.seq
    c.fill.result c.store.ensures c.store-2.ensures c.store-3.ensures
    c.store-4.ensures c.deepen-count.ensures c.fill.ensures
