-- Round after round: each is one of the definition's, as long as the stage goes on.
use mathlib.Core.Path.{sym, ◌∙◌}
use native.Mathlib.Omega.{arith}
use borrow.Author.Tests.{le-leb}
use Rattle.base_lists.specs.Tests.{cond_true}
use Rattle.spec_rules.specs.Fits.{links_fit, fit-within}
use Rattle.spec_rules.specs.Range.{range_ends}
use Rattle.spec_machine.specs.InStage.{Goes, goes}
use Rattle.spec_machine.specs.StageRun.{turns_begin, turns_on, turns_over}
use Rattle.stage07_range.specs.Rounds.{begun, turned}
use Rattle.stage07_range.proofs.run.Goals as goal

pub begin-requires : goal.begin-requires
begin-requires c =
    let go : (let a = c.args in Goes a.units 7 c.loop-after.made a.budget
    (links_fit a.units a.links a.ends.now) c.loop-after.c) = goes _ _ _ _ _ _ (rw c.links_fit-fits.ensures at
    (sym c.goes_on.ensures ∙ c.loop-after-test.true)) in
    ((go).few, fit-within _ _ _ c.links_fit-arg-1.given (go).fit)

pub loop-after-init : goal.loop-after-init
loop-after-init c = turns_begin _ _ _ _

pub overflow_add-made : goal.overflow_add-made
overflow_add-made c =
    let go : (let a = c.args in Goes a.units 7 c.loop-after.made a.budget
    (links_fit a.units a.links a.ends.now) c.loop-after.c) = goes _ _ _ _ _ _ (rw c.links_fit-fits.ensures at
    (sym c.goes_on.ensures ∙ c.loop-after-test.true)) in
    omega (arith, (go).below, c.ranges.budget)

pub loop-after-smaller-then-c-eq0 : goal.loop-after-smaller-then-c-eq0
loop-after-smaller-then-c-eq0 c =
    let go : (let a = c.args in Goes a.units 7 c.loop-after.made a.budget
    (links_fit a.units a.links a.ends.now) c.loop-after.c) = goes _ _ _ _ _ _ (rw c.links_fit-fits.ensures at
    (sym c.goes_on.ensures ∙ c.loop-after-test.true)) in
    omega (arith, (go).below)

pub loop-after-preserved-then-c-eq0 : goal.loop-after-preserved-then-c-eq0
unfolding range_ends
loop-after-preserved-then-c-eq0 c =
    let go : (let a = c.args in Goes a.units 7 c.loop-after.made a.budget
    (links_fit a.units a.links a.ends.now) c.loop-after.c) = goes _ _ _ _ _ _ (rw c.links_fit-fits.ensures at
    (sym c.goes_on.ensures ∙ c.loop-after-test.true)) in
    let g = go in
    let clock = rw (g.inside, c.lg-most.ensures) at c.ticked-after.ensures in
    turns_on _ _ _ _ _ _ _ c.loop-after.invariant g.test
    (begun _ _ _ _ _ _ _ _ _ _ _ _ _ _ c.if-c-eq0.true c.begin.ensures.low c.begin.ensures.high c.begin.ensures.little
    c.begin.ensures.big c.begin.ensures.least c.begin.ensures.greatest clock)

pub overflow_add-made-in-loop-after : goal.overflow_add-made-in-loop-after
overflow_add-made-in-loop-after c =
    let go : (let a = c.args in Goes a.units 7 c.loop-after.made a.budget
    (links_fit a.units a.links a.ends.now) c.loop-after.c) = goes _ _ _ _ _ _ (rw c.links_fit-fits.ensures at
    (sym c.goes_on.ensures ∙ c.loop-after-test.true)) in
    omega (arith, (go).below, c.ranges.budget)

pub loop-after-smaller : goal.loop-after-smaller
loop-after-smaller c =
    let go : (let a = c.args in Goes a.units 7 c.loop-after.made a.budget
    (links_fit a.units a.links a.ends.now) c.loop-after.c) = goes _ _ _ _ _ _ (rw c.links_fit-fits.ensures at
    (sym c.goes_on.ensures ∙ c.loop-after-test.true)) in
    omega (arith, (go).below)

pub loop-after-preserved : goal.loop-after-preserved
unfolding range_ends
loop-after-preserved c =
    let go : (let a = c.args in Goes a.units 7 c.loop-after.made a.budget
    (links_fit a.units a.links a.ends.now) c.loop-after.c) = goes _ _ _ _ _ _ (rw c.links_fit-fits.ensures at
    (sym c.goes_on.ensures ∙ c.loop-after-test.true)) in
    let g = go in
    let few = le-leb _ _ g.few in
    let clock = rw (g.inside, c.lg-most.ensures) at c.ticked-after.ensures in
    turns_on _ _ _ _ _ _ _ c.loop-after.invariant g.test
    (turned _ _ _ _ _ _ _ _ _ _ _ _ _ _ c.if-c-eq0.false (c.double.ensures.low
    ∙ cond_true _ _ _ few) (c.double.ensures.high
    ∙ cond_true _ _ _ few) (c.double.ensures.little ∙ cond_true _ _ _ few)
    (c.double.ensures.big ∙ cond_true _ _ _ few) (c.double.ensures.least
    ∙ cond_true _ _ _ few) (c.double.ensures.greatest
    ∙ cond_true _ _ _ few) clock)

pub returns : goal.returns
returns c =
    turns_over _ _ _ _ _ _ c.loop-after.invariant
    (rw c.links_fit-fits.ensures at (sym c.goes_on.ensures ∙ c.loop-after-test.false))
