-- Unit by unit.
use mathlib.Core.Path.{refl}
use Rattle.theory_ears.specs.Weaving.{moved-turn, moved_all}
use borrow.Author.Rules.{rules}
use Rattle.ring_ears.proofs.move_on.Goals as goal

pub loop-v-preserved : goal.loop-v-preserved
loop-v-preserved c =
    let a = c.args in
    moved-turn a.units a.q a.c a.pos.now c.loop-v.pos c.store.new.t c.loop-v.v c.at-p.result
    c.bounded_sum.result c.choose-x.result _ c.loop-v.invariant
    c.at-p.ensures refl c.bounded_sum.ensures c.choose-x.ensures c.store.ensures

pub returns : goal.returns
returns c =
    let a = c.args in
    moved_all a.units a.q a.c a.pos.now c.loop-v.pos c.loop-v.v (search rules) c.loop-v-test.false
    c.loop-v.invariant
