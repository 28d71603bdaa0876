-- Sweep by sweep; each that is not the last adds a unit.
use Rattle.theory_ears.specs.Present.{sure}
use Rattle.theory_ears.specs.Reaching.{filling_begun, filling_more, filled_same, filled_full}
use Rattle.ring_order.proofs.tree.fill.Goals as goal

pub loop-k-init : goal.loop-k-init
loop-k-init c =
    let a = c.args in
    filling_begun (sure a.marks.now) a.links a.ends.now a.parent.now a.seq.now a.count

pub returns-then-more-c : goal.returns-then-more-c
returns-then-more-c c =
    let a = c.args in
    filled_same (sure a.marks.now) a.links a.ends.now a.parent.now a.seq.now a.count c.loop-k.k
    c.loop-k.parent c.loop-k.seq c.loop-k.c c.loop-k.invariant c.sweep-more.new.parent
    c.sweep-more.new.seq c.sweep-more.result c.sweep-more.ensures c.if-more-c.true

pub loop-k-preserved : goal.loop-k-preserved
loop-k-preserved c =
    let a = c.args in
    filling_more (sure a.marks.now) a.links a.ends.now a.parent.now a.seq.now a.count c.loop-k.k
    c.loop-k.parent c.loop-k.seq c.loop-k.c c.loop-k.invariant c.sweep-more.new.parent
    c.sweep-more.new.seq c.sweep-more.result c.sweep-more.ensures c.if-more-c.false

pub returns : goal.returns
returns c =
    let a = c.args in
    filled_full (sure a.marks.now) a.links a.ends.now a.parent.now a.seq.now a.count c.loop-k.k
    c.loop-k.parent c.loop-k.seq c.loop-k.c c.loop-k.invariant c.loop-k-test.false
