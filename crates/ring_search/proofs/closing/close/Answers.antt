-- The way up read back, then the way down.
use Rattle.theory_ears.specs.Rows.{closed-row}
use Rattle.ring_search.proofs.closing.close.Goals as goal

pub returns : goal.returns
returns c =
    let a = c.args in
    closed-row a.units a.low.now a.high.now a.a a.b a.c a.d a.out.now
    c.store.new.t c.store-2.new.t c.lay.new.out
    c.lay-2.new.out
    c.steps-s.result c.steps-t.result c.bounded_sum.result
    c.bounded_sum-at.result c.bounded_sum-2.result c.steps-s.ensures
    c.steps-t.ensures c.store.ensures c.store-2.ensures
    c.bounded_sum.ensures c.lay.ensures c.bounded_sum-at.ensures
    c.lay-2.ensures c.bounded_sum-2.ensures
