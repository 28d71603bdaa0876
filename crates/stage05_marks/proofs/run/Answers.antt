-- Round after round: each is one of the definition's, as long as the stage goes on.
use mathlib.Core.Path.{sym, ◌∙◌}
use mathlib.Core.Bool.{true}
use native.Mathlib.Omega.{arith}
use borrow.Author.Tests.{eq-eqb, ne_eqb}
use Rattle.spec_machine.specs.InStage.{Goes, goes}
use Rattle.spec_machine.specs.StageRun.{turns_begin, turns_on, turns_over}
use Rattle.stage05_marks.specs.Rounds.{one}
use Rattle.stage05_marks.proofs.run.Goals as goal

pub loop-after-init : goal.loop-after-init
loop-after-init c = turns_begin _ _ _ _

pub mark-requires : goal.mark-requires
mark-requires c =
    let go : Goes c.args.units 5 c.loop-after.made
    c.args.budget true c.loop-after.c = goes _ _ _ _ _ _ (sym c.goes_on.ensures ∙ c.loop-after-test.true) in
    (go).few

pub overflow_add-made : goal.overflow_add-made
overflow_add-made c =
    let go : Goes c.args.units 5 c.loop-after.made
    c.args.budget true c.loop-after.c = goes _ _ _ _ _ _ (sym c.goes_on.ensures ∙ c.loop-after-test.true) in
    omega (arith, (go).below, c.ranges.budget)

pub loop-after-smaller-then-c-eq0 : goal.loop-after-smaller-then-c-eq0
loop-after-smaller-then-c-eq0 c =
    let go : Goes c.args.units 5 c.loop-after.made
    c.args.budget true c.loop-after.c = goes _ _ _ _ _ _ (sym c.goes_on.ensures ∙ c.loop-after-test.true) in
    omega (arith, (go).below)

pub loop-after-preserved-then-c-eq0 : goal.loop-after-preserved-then-c-eq0
unfolding one
loop-after-preserved-then-c-eq0 c =
    let go : Goes c.args.units 5 c.loop-after.made
    c.args.budget true c.loop-after.c = goes _ _ _ _ _ _ (sym c.goes_on.ensures ∙ c.loop-after-test.true) in
    let g = go in
    let first = eq-eqb c.loop-after.c.made 0 c.if-c-eq0.true in
    turns_on _ _ _ _ _ _ _ c.loop-after.invariant g.test
    (rw (c.mark.ensures, c.ticked-after.ensures, g.inside, first))

pub descend-requires : goal.descend-requires
descend-requires c =
    let go : Goes c.args.units 5 c.loop-after.made
    c.args.budget true c.loop-after.c = goes _ _ _ _ _ _ (sym c.goes_on.ensures ∙ c.loop-after-test.true) in
    (go).few

pub second-requires : goal.second-requires
second-requires c =
    let go : Goes c.args.units 5 c.loop-after.made
    c.args.budget true c.loop-after.c = goes _ _ _ _ _ _ (sym c.goes_on.ensures ∙ c.loop-after-test.true) in
    (go).few

pub overflow_add-made-in-loop-after : goal.overflow_add-made-in-loop-after
overflow_add-made-in-loop-after c =
    let go : Goes c.args.units 5 c.loop-after.made
    c.args.budget true c.loop-after.c = goes _ _ _ _ _ _ (sym c.goes_on.ensures ∙ c.loop-after-test.true) in
    omega (arith, (go).below, c.ranges.budget)

pub loop-after-smaller : goal.loop-after-smaller
loop-after-smaller c =
    let go : Goes c.args.units 5 c.loop-after.made
    c.args.budget true c.loop-after.c = goes _ _ _ _ _ _ (sym c.goes_on.ensures ∙ c.loop-after-test.true) in
    omega (arith, (go).below)

pub loop-after-preserved : goal.loop-after-preserved
unfolding one
loop-after-preserved c =
    let go : Goes c.args.units 5 c.loop-after.made
    c.args.budget true c.loop-after.c = goes _ _ _ _ _ _ (sym c.goes_on.ensures ∙ c.loop-after-test.true) in
    let g = go in
    let later = ne_eqb c.loop-after.c.made 0 c.if-c-eq0.false in
    turns_on _ _ _ _ _ _ _ c.loop-after.invariant g.test
    (rw (
      c.second.ensures.jumps,
      c.second.ensures.sums,
      c.descend.ensures,
      c.ticked-after.ensures,
      g.inside,
      later,
    ))

pub returns : goal.returns
returns c = turns_over _ _ _ _ _ _ c.loop-after.invariant (sym c.goes_on.ensures ∙ c.loop-after-test.false)
