-- Pass by pass; each that is not the last makes the order longer.
use Rattle.theory_ears.specs.Present.{sure}
use Rattle.theory_ears.specs.Weaving.{lengthened_begun, lengthened_more, settling-same, settling-full}
use Rattle.ring_ears.proofs.settle.Goals as goal

pub loop-k-init : goal.loop-k-init
loop-k-init c =
    let a = c.args in
    lengthened_begun (sure a.marks.now) a.units a.links a.ends.now a.count a.parent.now
    a.seq.now a.b a.pos.now a.held.now

pub returns-then-after-before : goal.returns-then-after-before
returns-then-after-before c =
    let a = c.args in
    settling-same (sure a.marks.now) a.units a.links a.ends.now a.count a.parent.now a.seq.now
    a.b a.pos.now a.held.now c.loop-k.k c.loop-k.pos c.loop-k.held c.loop-k.invariant
    c.pass.new.pos c.pass.new.held
    c.at-before.result c.at-after.result c.at-before.ensures c.pass.ensures
    c.at-after.ensures c.if-after-before.true

pub loop-k-preserved : goal.loop-k-preserved
loop-k-preserved c =
    let a = c.args in
    lengthened_more (sure a.marks.now) a.units a.links a.ends.now a.count a.parent.now
    a.seq.now a.b a.pos.now a.held.now c.loop-k.k c.loop-k.pos c.loop-k.held c.loop-k.invariant
    c.pass.new.pos c.pass.new.held
    c.at-before.result c.at-after.result c.at-before.ensures c.pass.ensures
    c.at-after.ensures c.if-after-before.false

pub returns : goal.returns
returns c =
    let a = c.args in
    settling-full (sure a.marks.now) a.units a.links a.ends.now a.count a.parent.now a.seq.now
    a.b a.pos.now a.held.now c.loop-k.k c.loop-k.pos c.loop-k.held c.loop-k.invariant c.loop-k-test.false
