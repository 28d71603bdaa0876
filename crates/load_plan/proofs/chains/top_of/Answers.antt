-- Step by step, until the chain ends, or has gone on for all units.
use mathlib.Core.Path.{sym, ◌∙◌}
use Prim.Native.Nat.{◌-◌}
use Rattle.load_plan.specs.Tops.{rise_begins, rise_ends, rise_on, rise_over}
use Rattle.load_plan.proofs.chains.top_of.Goals as goal

pub loop-far-init : goal.loop-far-init
loop-far-init c = rise_begins _ _ _

pub returns-then-up : goal.returns-then-up
returns-then-up c =
    rise_ends _ _ _ _ _ c.loop-far.invariant c.loop-far-test.true (sym c.at-up.ensures
    ∙ c.if-up.true)

pub loop-far-preserved : goal.loop-far-preserved
loop-far-preserved c =
    rw c.at-up.ensures (rise_on _ _ _ _ _ c.loop-far.invariant c.loop-far-test.true
    (λ q. c.if-up.false (c.at-up.ensures ∙ q)))

pub returns : goal.returns
returns c = rise_over _ _ _ _ _ c.loop-far.invariant c.loop-far-test.false
