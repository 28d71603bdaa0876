-- Unit by unit, until all stand or none may stand next.
use Rattle.std.proofs.Common.{◌≡◌, refl, ◌∙◌, ◌+◌, ◌-◌, arith}
use Rattle.lifting_order.specs.Standing.{growing_begun, growing_turn, growing_done, growing_stuck}
use borrow.Author.Rules.{rules}
use Rattle.lifting_order.proofs.growth.grown.Goals as goal

pub loop-left-init : goal.loop-left-init
loop-left-init c =
    let a = c.args in (
      c.requires.1,
      growing_begun a.units a.ends.now a.pairs.now c.requires.0 a.order.now c.reached-near.result
          c.waiting-wait.result (search rules) (search rules) c.reached-near.ensures c.waiting-wait.ensures,
    )

pub returns-in_default : goal.returns-in_default
returns-in_default c =
    let a = c.args in
    let back : c.loop-left.left - 1 + 1 ≡ c.loop-left.left = omega arith in
    rw back
    (growing_stuck a.units a.ends.now a.pairs.now c.requires.0 c.loop-left.order c.loop-left.near
    c.loop-left.wait c.loop-left.left a.units
    (omega arith) c.loop-left.invariant.1 c.in_default.ensures refl)

pub loop-left-preserved : goal.loop-left-preserved
loop-left-preserved c =
    let a = c.args in (
      c.put.auto.t ∙ c.loop-left.invariant.0,
      growing_turn a.units a.ends.now a.pairs.now c.requires.0 c.loop-left.order
          c.loop-left.near c.loop-left.wait _ _ _ _ c.loop-left.left c.in-Some.v
          c.loop-left.invariant.0 (omega arith) c.loop-left.invariant.1 c.in-Some.ensures.1
          c.in-Some.ensures.0 c.put.ensures c.walk.ensures c.walk-in-loop-left.ensures
          c.put-in-loop-left.ensures,
    )

pub returns : goal.returns
returns c =
    let a = c.args in
    let none : c.loop-left.left ≡ 0 = omega arith in
    rw none at
    (growing_done a.units a.ends.now a.pairs.now c.requires.0 c.loop-left.order
    c.loop-left.near c.loop-left.wait c.loop-left.left none c.loop-left.invariant.1)
