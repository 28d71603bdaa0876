-- Word by word, from empty chains.
use Rattle.std.proofs.Common.{◌≡◌, length, rules}
use Rattle.lifting_order.specs.Chains.{chained_none, chained_more}
use Rattle.lifting_order.proofs.chains.chained.Goals as goal

pub loop-i-init : goal.loop-i-init
loop-i-init c = (search rules, search rules, chained_none _ _ _ c.zeros-last.ensures)

pub loop-i-preserved : goal.loop-i-preserved
loop-i-preserved c = (
  search rules,
  search rules,
  chained_more c.args.t.now c.loop-i.last c.loop-i.next _ _ c.loop-i.i c.requires
      c.loop-i-test.true c.loop-i.invariant.0 c.loop-i.invariant.1 c.loop-i.invariant.2
      (rw c.word-before.ensures at c.put.ensures) c.put-in-loop-i.ensures,
)

pub returns : goal.returns
returns c =
    let e : c.loop-i.i ≡ length c.args.t.now = search rules in
    rw (← e) c.loop-i.invariant.2
