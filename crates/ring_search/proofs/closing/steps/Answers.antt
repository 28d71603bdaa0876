-- Unit by unit.
use Rattle.std.proofs.Common.{◌≡◌, ℕ, ◌∙◌, arith}
use lib.Dec.{eqb}
use borrow.Author.Tests.{eq-eqb, ne_eqb}
use Rattle.spec_rules.specs.Basics.{at}
use Rattle.theory_ears.specs.Weaving.{chain-begun, chain-turn, chain-stop, chain-full}
use Rattle.ring_search.proofs.closing.steps.Goals as goal

pub loop-k-init : goal.loop-k-init
loop-k-init c =
    let a = c.args in
    chain-begun (at a.next.now) (λ (z : ℕ). eqb z a.stop) a.limit a.v

pub returns-then-u-stop : goal.returns-then-u-stop
returns-then-u-stop c =
    let a = c.args in
    chain-stop (at a.next.now) (λ (z : ℕ). eqb z a.stop) a.limit c.loop-k.k a.v c.loop-k.u
    (eq-eqb c.loop-k.u a.stop c.if-u-stop.true) c.loop-k.invariant

pub loop-k-preserved : goal.loop-k-preserved
loop-k-preserved c =
    let a = c.args in
    rw c.at-u.ensures (chain-turn (at a.next.now) (λ (z : ℕ). eqb z a.stop) a.limit c.loop-k.k
    a.v c.loop-k.u c.loop-k-test.true (ne_eqb c.loop-k.u a.stop c.if-u-stop.false) c.loop-k.invariant)

pub returns : goal.returns
returns c =
    let a = c.args in
    let all : a.limit ≡ c.loop-k.k = omega arith in
    all
    ∙ chain-full (at a.next.now) (λ (z : ℕ). eqb z a.stop) a.limit c.loop-k.k a.v c.loop-k.u c.loop-k-test.false
    c.loop-k.invariant
