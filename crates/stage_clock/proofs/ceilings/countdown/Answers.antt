-- What is summed and the ceilings from stage k on are together those from this stage on.
use mathlib.Core.Path.{◌≡◌, ◌∙◌, ap}
use Prim.Native.Nat.{◌≤◌, min}
use native.Mathlib.Omega.{arith}
use Rattle.spec_rules.specs.Ceilings.{ceiling, countdown}
use Rattle.spec_rules.specs.CeilingLaws.{ceiling-small}
use Rattle.stage_clock.specs.CeilingSteps.{left-stage, left_end, left-from}
use Rattle.stage_clock.proofs.ceilings.countdown.Goals as goal

pub loop-k-init : goal.loop-k-init
loop-k-init c =
    let a = c.args in
    rw c.max-k.ensures (omega arith, (omega arith, omega (arith, left-from (min a.units 256) a.stage)))

pub overflow_add-sum : goal.overflow_add-sum
overflow_add-sum c =
    let small : c.ceiling-sum.result ≤ 257 = rw c.ceiling-sum.ensures
    (ceiling-small _ c.loop-k.k (omega arith) (omega arith) (omega arith)) in
    omega (arith, small)

pub loop-k-preserved : goal.loop-k-preserved
loop-k-preserved c =
    let small : c.ceiling-sum.result ≤ 257 = rw c.ceiling-sum.ensures
    (ceiling-small _ c.loop-k.k (omega arith) (omega arith) (omega arith)) in
    let a = c.args in
    let exact : c.ceiling-sum.result ≡ ceiling (min a.units 256) c.loop-k.k =
    c.ceiling-sum.ensures ∙ ap (λ n. ceiling n c.loop-k.k) c.min-count.ensures in
    omega (arith, small, left-stage (min a.units 256) c.loop-k.k (omega arith) (omega arith), exact)

pub returns : goal.returns
unfolding countdown
returns c =
    let a = c.args in
    omega (arith, left_end (min a.units 256) c.loop-k.k (omega arith))
