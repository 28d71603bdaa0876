-- Step by step, the tree stays one.
use Rattle.std.proofs.Common.{◌/◌}
use Rattle.theory_ears.specs.Present.{sure}
use Rattle.theory_ears.specs.Reaching.{spanned_more}
use Rattle.ring_order.proofs.tree.deepen.Goals as goal

pub loop-init : goal.loop-init
loop-init c = λ n a site T. T

pub loop-preserved : goal.loop-preserved
loop-preserved c =
    let a = c.args in
    spanned_more (sure a.marks.now) a.links a.ends.now (c.in-Some.i / 2) a.parent.now
    a.seq.now 2 c.loop.parent c.loop.seq c.loop.count c.reach-more.new.parent
    c.reach-more.new.seq c.reach-more.result c.loop.invariant c.reach-more.ensures
