-- Step by step, until the colour unit is met, the chain ends, or it has gone on for all units.
use Rattle.std.proofs.Common.{sym, ◌∙◌}
use Rattle.stage02_round.specs.Climb.{climb-begins, climb-arrives, climb-ends, climb-on, climb-over}
use Rattle.stage02_round.proofs.planned.climb.steps.Goals as goal

pub loop-far-init : goal.loop-far-init
loop-far-init c = climb-begins _ _ _ _

pub returns-then-w-c : goal.returns-then-w-c
returns-then-w-c c = climb-arrives _ _ _ _ _ _ c.loop-far.invariant c.loop-far-test.true c.if-w-c.true

pub returns-then-w : goal.returns-then-w
returns-then-w c =
    climb-ends _ _ _ _ _ _ c.loop-far.invariant c.loop-far-test.true c.if-w-c.false
    (sym c.word-w.ensures ∙ c.if-w.true)

pub loop-far-preserved : goal.loop-far-preserved
loop-far-preserved c =
    rw c.word-w.ensures
    (climb-on _ _ _ _ _ _ c.loop-far.invariant c.requires c.loop-far-test.true c.if-w-c.false
    (λ q. c.if-w.false (c.word-w.ensures ∙ q)))

pub returns : goal.returns
returns c = climb-over _ _ _ _ _ _ c.loop-far.invariant c.loop-far-test.false
