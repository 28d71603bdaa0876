-- Unit by unit.
use Rattle.std.proofs.Common.{◌≡◌, sym, ap, ◌∙◌, arith}
use Prim.Native.Nat.{ℕ}
use lib.ListN.{length}
use Rattle.spec_rules.specs.Basics.{at}
use Rattle.theory_ears.specs.Steps.{on_order, hanging}
use Rattle.theory_ears.specs.Weaving.{chain-begun, chain-turn, chain-stop, chain-full}
use Rattle.ring_ears.proofs.hanging.Goals as goal

pub loop-k-init : goal.loop-k-init
loop-k-init c =
    let a = c.args in
    chain-begun (at a.parent.now) (on_order a.pos.now) c.bounded_sum-limit.result a.v

pub returns-then-on : goal.returns-then-on
returns-then-on c =
    let a = c.args in
    chain-stop (at a.parent.now) (on_order a.pos.now) c.bounded_sum-limit.result
    c.loop-k.k a.v c.loop-k.u (sym c.on.ensures ∙ c.if-on.true) c.loop-k.invariant
    ∙ ap (λ (z : ℕ). length (hanging z a.parent.now a.pos.now a.v))
    c.bounded_sum-limit.ensures

pub loop-k-preserved : goal.loop-k-preserved
loop-k-preserved c =
    let a = c.args in
    rw c.at-u.ensures (chain-turn (at a.parent.now) (on_order a.pos.now)
    c.bounded_sum-limit.result c.loop-k.k a.v c.loop-k.u
    c.loop-k-test.true (sym c.on.ensures ∙ c.if-on.false) c.loop-k.invariant)

pub returns : goal.returns
returns c =
    let a = c.args in
    let all : c.bounded_sum-limit.result ≡ c.loop-k.k = omega arith in
    all
    ∙ chain-full (at a.parent.now) (on_order a.pos.now) c.bounded_sum-limit.result c.loop-k.k a.v
    c.loop-k.u c.loop-k-test.false c.loop-k.invariant
    ∙ ap (λ (z : ℕ). length (hanging z a.parent.now a.pos.now a.v))
    c.bounded_sum-limit.ensures
