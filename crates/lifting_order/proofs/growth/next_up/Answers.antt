-- Unit by unit.
use Rattle.std.proofs.Common.{◌≡◌, sym, ◌∙◌, rules}
use Rattle.lifting_order.specs.Standing.{ready, next_more}
use Rattle.lifting_order.proofs.growth.next_up.Goals as goal

pub loop-v-preserved : goal.loop-v-preserved
loop-v-preserved c =
    let a = c.args in
    next_more a.units c.loop-v.v (ready a.near.now a.wait.now) c.loop-v.least _ c.loop-v.invariant
    (rw (c.choose.ensures, c.word-in-loop-v.ensures, c.word.ensures) at c.min-least.ensures)

pub returns-then-least-units : goal.returns-then-least-units
returns-then-least-units c =
    let e : c.loop-v.v ≡ c.args.units = search rules in
    sym c.if-least-units.true ∙ rw e at c.loop-v.invariant

pub returns-else-least-units : goal.returns-else-least-units
returns-else-least-units c =
    let e : c.loop-v.v ≡ c.args.units = search rules in
    (c.if-least-units.false, rw e at c.loop-v.invariant)
