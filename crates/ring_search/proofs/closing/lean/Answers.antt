-- Link by link.
use mathlib.Core.Path.{◌≡◌, subst}
use Prim.Native.Nat.{ℕ}
use native.Mathlib.Omega.{arith}
use Rattle.theory_ears.specs.Found.{Leans, leans_begun, leans_more}
use Rattle.theory_ears.specs.Present.{sure}
use Rattle.ring_search.proofs.closing.lean.Goals as goal

pub loop-j-init : goal.loop-j-init
loop-j-init c =
    let a = c.args in
    leans_begun (sure a.marks.now) a.links a.ends.now a.pos.now a.low.now a.high.now

pub loop-j-preserved : goal.loop-j-preserved
loop-j-preserved c =
    let a = c.args in
    leans_more (sure a.marks.now) a.links a.ends.now a.pos.now c.loop-j.j a.low.now a.high.now
    c.loop-j.low c.loop-j.high c.lean_one.new.low c.lean_one.new.high
    c.loop-j-test.true c.loop-j.invariant c.lean_one.ensures

pub returns : goal.returns
returns c =
    let a = c.args in
    let e : c.loop-j.j ≡ a.links = omega arith in
    subst (λ (z : ℕ). Leans (sure a.marks.now) a.links a.ends.now a.pos.now z
    a.low.now a.high.now c.loop-j.low c.loop-j.high) e c.loop-j.invariant
