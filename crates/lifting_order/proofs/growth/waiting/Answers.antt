-- Pair by pair, from none.
use Rattle.std.proofs.Common.{◌≡◌, rules}
use Rattle.table.specs.Table.{link_count}
use Rattle.lifting_order.specs.Standing.{waiting-more}
use Rattle.lifting_order.proofs.growth.waiting.Goals as goal

pub loop-k-init : goal.loop-k-init
loop-k-init c = (search rules, c.zeros-wait.ensures)

pub loop-k-preserved : goal.loop-k-preserved
loop-k-preserved c = (
  search rules,
  waiting-more c.args.p.now c.loop-k.wait _ c.loop-k.k c.requires.0 (search rules) c.loop-k.invariant.0
      c.loop-k.invariant.1
      (rw (c.bounded_sum-more.ensures, c.word.ensures, c.word-w.ensures) at c.put.ensures),
)

pub returns : goal.returns
returns c =
    let e : c.loop-k.k ≡ link_count c.args.p.now = search rules in
    rw (← e) c.loop-k.invariant.1
