-- Along the chain, place by place.
use mathlib.Core.Path.{refl}
use Prim.Native.Nat.{◌-◌}
use Rattle.lifting_order.specs.Marking.{acts, does, walked, walk_store}
use Rattle.lifting_order.specs.Chains.{along-begun, along-turn, along-less, along-end}
use borrow.Author.Rules.{rules}
use Rattle.lifting_order.proofs.chains.walk.Goals as goal

pub loop-c-init : goal.loop-c-init
loop-c-init c =
    let a = c.args in (
      refl,
      along-begun a.t.now a.v (acts a.t.now (does a.mark)) a.last.now a.next.now c.requires.1
          c.word-c.result a.x.now c.requires.2 c.word-c.ensures,
    )

pub loop-c-smaller : goal.loop-c-smaller
loop-c-smaller c =
    let a = c.args in
    along-less a.t.now a.v (acts a.t.now (does a.mark)) a.last.now a.next.now c.requires.1
    c.loop-c.c c.word-c-in-loop-c.result a.x.now c.loop-c.x
    c.loop-c-test.true c.loop-c.invariant.1 c.word-c-in-loop-c.ensures

pub loop-c-preserved : goal.loop-c-preserved
loop-c-preserved c =
    let a = c.args in
    let new =
    walk_store a.mark a.t.now c.loop-c.x c.put.new.t (c.loop-c.c - 1) c.other.result
    c.word-w.result c.word.result c.saturating_sub-less.result c.choose-new.result
    c.other.ensures c.word-w.ensures c.word.ensures c.saturating_sub-less.ensures
    c.choose-new.ensures c.put.ensures in (
      search rules,
      along-turn a.t.now a.v (acts a.t.now (does a.mark)) a.last.now a.next.now c.requires.1
          c.loop-c.c c.word-c-in-loop-c.result a.x.now c.loop-c.x c.put.new.t
          c.loop-c-test.true c.loop-c.invariant.1 new c.word-c-in-loop-c.ensures,
    )

pub returns : goal.returns
unfolding walked
returns c =
    let a = c.args in
    along-end a.t.now a.v (acts a.t.now (does a.mark)) c.loop-c.c a.x.now c.loop-c.x
    (search rules) c.loop-c.invariant.1
