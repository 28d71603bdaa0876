-- Link by link.
use mathlib.Core.Path.{◌≡◌, subst}
use Prim.Native.Nat.{ℕ}
use native.Mathlib.Omega.{arith}
use Rattle.theory_ears.specs.Present.{sure}
use Rattle.theory_ears.specs.Reaching.{Swept, swept-begun, swept-more}
use Rattle.ring_order.proofs.tree.sweep.Goals as goal

pub loop-j-init : goal.loop-j-init
loop-j-init c =
    let a = c.args in
    swept-begun (sure a.marks.now) a.links a.ends.now a.parent.now a.seq.now a.count

pub loop-j-preserved : goal.loop-j-preserved
loop-j-preserved c =
    let a = c.args in
    swept-more (sure a.marks.now) a.links a.ends.now c.loop-j.j a.parent.now a.seq.now a.count
    c.loop-j.parent c.loop-j.seq c.loop-j.c c.reach-c.new.parent
    c.reach-c.new.seq c.reach-c.result c.loop-j-test.true c.loop-j.invariant c.reach-c.ensures

pub returns : goal.returns
returns c =
    let a = c.args in
    let e : c.loop-j.j ≡ a.links = omega arith in
    subst (λ (z : ℕ). Swept (sure a.marks.now) a.links a.ends.now z
    a.parent.now a.seq.now a.count c.loop-j.parent c.loop-j.seq c.loop-j.c) e c.loop-j.invariant
