-- Unit by unit.
use Rattle.theory_ears.specs.Weaving.{holding-begun, holding-more, holding-all}
use borrow.Author.Rules.{rules}
use Rattle.ring_ears.proofs.hold.Goals as goal

pub loop-i-init : goal.loop-i-init
loop-i-init c =
    let a = c.args in
    holding-begun a.parent.now a.seq.now a.pos.now a.held.now

pub loop-i-preserved : goal.loop-i-preserved
loop-i-preserved c =
    let a = c.args in
    holding-more a.parent.now a.seq.now a.pos.now a.held.now c.loop-i.held
    c.store.new.t c.loop-i.i c.at-v.result c.at.result c.at-above.result
    c.choose-x.result c.on.result c.loop-i.invariant c.at-v.ensures c.at.ensures
    c.at-above.ensures c.on.ensures c.choose-x.ensures c.store.ensures

pub returns : goal.returns
returns c =
    let a = c.args in
    holding-all a.parent.now a.seq.now a.pos.now a.held.now c.loop-i.held c.loop-i.i a.count (search rules)
    c.loop-i-test.false c.loop-i.invariant
