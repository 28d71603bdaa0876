-- Link by link.
use mathlib.Core.Path.{◌≡◌, subst}
use Prim.Native.Nat.{ℕ}
use native.Mathlib.Omega.{arith}
use Rattle.theory_ears.specs.Present.{sure}
use Rattle.theory_ears.specs.Weaving.{Passed, passed-begun, passed-more}
use Rattle.ring_ears.proofs.pass.Goals as goal

pub loop-j-init : goal.loop-j-init
loop-j-init c =
    let a = c.args in
    passed-begun (sure a.marks.now) a.units a.links a.ends.now a.count a.parent.now a.seq.now a.pos.now a.held.now

pub loop-j-preserved : goal.loop-j-preserved
loop-j-preserved c =
    let a = c.args in
    passed-more (sure a.marks.now) a.units a.links a.ends.now a.count a.parent.now a.seq.now
    c.loop-j.j a.pos.now a.held.now c.loop-j.pos c.loop-j.held c.visit.new.pos
    c.visit.new.held c.loop-j-test.true c.loop-j.invariant c.visit.ensures

pub returns : goal.returns
returns c =
    let a = c.args in
    let e : c.loop-j.j ≡ a.links = omega arith in
    subst (λ (z : ℕ). Passed (sure a.marks.now) a.units a.links a.ends.now
    a.count a.parent.now a.seq.now z a.pos.now a.held.now c.loop-j.pos c.loop-j.held) e c.loop-j.invariant
