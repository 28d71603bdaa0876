-- Round after round: each is one of the definition's, as long as the stage goes on.
use mathlib.Core.Path.{sym, ◌∙◌}
use native.Mathlib.Omega.{arith}
use borrow.Author.Tests.{eq-eqb, ne_eqb}
use Rattle.spec_rules.specs.Fits.{links_fit, fit-few, fit-within}
use Rattle.spec_machine.specs.InStage.{Goes, goes}
use Rattle.spec_machine.specs.StageRun.{turns_begin, turns_on, turns_over}
use Rattle.stage10_labels.specs.Rounds.{one}
use borrow.Author.Rules.{rules}
use Rattle.stage10_labels.proofs.run.Goals as goal

pub loop-after-init : goal.loop-after-init
loop-after-init c = turns_begin _ _ _ _

pub class_round-new-requires : goal.class_round-new-requires
class_round-new-requires c =
    let go : (let a = c.args in Goes a.units 10 c.loop-after.made
    a.budget (links_fit a.units a.links a.ends.now) c.loop-after.c) =
    goes _ _ _ _ _ _ (rw c.links_fit-fits.ensures at (sym c.goes_on.ensures
    ∙ c.loop-after-test.true)) in
    let a = c.args in
    let g = go in (
      g.few,
      fit-few a.units a.links a.ends.now g.fit,
      fit-within a.units a.links a.ends.now (search rules) g.fit,
    )

pub overflow_add-made : goal.overflow_add-made
overflow_add-made c =
    let go : (let a = c.args in Goes a.units 10 c.loop-after.made
    a.budget (links_fit a.units a.links a.ends.now) c.loop-after.c) =
    goes _ _ _ _ _ _ (rw c.links_fit-fits.ensures at (sym c.goes_on.ensures
    ∙ c.loop-after-test.true)) in
    omega (arith, (go).below, c.ranges.budget)

pub loop-after-smaller-then-c-eq0 : goal.loop-after-smaller-then-c-eq0
loop-after-smaller-then-c-eq0 c =
    let go : (let a = c.args in Goes a.units 10 c.loop-after.made
    a.budget (links_fit a.units a.links a.ends.now) c.loop-after.c) =
    goes _ _ _ _ _ _ (rw c.links_fit-fits.ensures at (sym c.goes_on.ensures
    ∙ c.loop-after-test.true)) in
    omega (arith, (go).below)

pub loop-after-preserved-then-c-eq0 : goal.loop-after-preserved-then-c-eq0
unfolding one
loop-after-preserved-then-c-eq0 c =
    let go : (let a = c.args in Goes a.units 10 c.loop-after.made
    a.budget (links_fit a.units a.links a.ends.now) c.loop-after.c) =
    goes _ _ _ _ _ _ (rw c.links_fit-fits.ensures at (sym c.goes_on.ensures
    ∙ c.loop-after-test.true)) in
    let g = go in
    turns_on _ _ _ _ _ _ _ c.loop-after.invariant g.test
    (rw (
      c.class_round-new.ensures,
      c.ticked-after.ensures,
      g.inside,
      eq-eqb c.loop-after.c.made 0 c.if-c-eq0.true,
    ))

pub label_round-new-requires : goal.label_round-new-requires
label_round-new-requires c =
    let go : (let a = c.args in Goes a.units 10 c.loop-after.made
    a.budget (links_fit a.units a.links a.ends.now) c.loop-after.c) =
    goes _ _ _ _ _ _ (rw c.links_fit-fits.ensures at (sym c.goes_on.ensures
    ∙ c.loop-after-test.true)) in
    let a = c.args in
    fit-few a.units a.links a.ends.now (go).fit

pub overflow_add-made-in-loop-after : goal.overflow_add-made-in-loop-after
overflow_add-made-in-loop-after c =
    let go : (let a = c.args in Goes a.units 10 c.loop-after.made
    a.budget (links_fit a.units a.links a.ends.now) c.loop-after.c) =
    goes _ _ _ _ _ _ (rw c.links_fit-fits.ensures at (sym c.goes_on.ensures
    ∙ c.loop-after-test.true)) in
    omega (arith, (go).below, c.ranges.budget)

pub loop-after-smaller : goal.loop-after-smaller
loop-after-smaller c =
    let go : (let a = c.args in Goes a.units 10 c.loop-after.made
    a.budget (links_fit a.units a.links a.ends.now) c.loop-after.c) =
    goes _ _ _ _ _ _ (rw c.links_fit-fits.ensures at (sym c.goes_on.ensures
    ∙ c.loop-after-test.true)) in
    omega (arith, (go).below)

pub loop-after-preserved : goal.loop-after-preserved
unfolding one
loop-after-preserved c =
    let go : (let a = c.args in Goes a.units 10 c.loop-after.made
    a.budget (links_fit a.units a.links a.ends.now) c.loop-after.c) =
    goes _ _ _ _ _ _ (rw c.links_fit-fits.ensures at (sym c.goes_on.ensures
    ∙ c.loop-after-test.true)) in
    let g = go in
    turns_on _ _ _ _ _ _ _ c.loop-after.invariant g.test
    (rw (
      c.label_round-new.ensures,
      c.ticked-after.ensures,
      g.inside,
      ne_eqb c.loop-after.c.made 0 c.if-c-eq0.false,
    ))

pub returns : goal.returns
returns c =
    turns_over _ _ _ _ _ _ c.loop-after.invariant
    (rw c.links_fit-fits.ensures at (sym c.goes_on.ensures ∙ c.loop-after-test.false))
