-- Round after round, each one of the definition's as long as the stage goes on; or the rest at once.
use Rattle.std.proofs.Common.{rules}
use mathlib.Core.Path.{sym, ◌∙◌}
use native.Mathlib.Omega.{arith}
use Rattle.spec_rules.specs.Fits.{links_fit, fit-few, fit-within}
use Rattle.spec_machine.specs.InStage.{Goes, goes}
use Rattle.spec_machine.specs.StageRun.{turns_begin, turns_on, turns_over}
use Rattle.stage02_tree.specs.Rounds.{one}
use Rattle.stage02_tree.proofs.run.Goals as goal

pub loop-rest-init : goal.loop-rest-init
loop-rest-init c = turns_begin _ _ _ _

pub overflow_sub-budget : goal.overflow_sub-budget
overflow_sub-budget c =
    let a = c.args in
    let go : Goes a.units 2 c.loop-rest.made a.budget (links_fit a.units a.links a.ends.now) c.loop-rest.c =
    goes _ _ _ _ _ _ (rw c.links_fit-fits.ensures at (sym c.goes_on.ensures ∙ c.loop-rest-test.true)) in
    omega (arith, go.below)

pub remaining-rest-requires : goal.remaining-rest-requires
remaining-rest-requires c =
    let a = c.args in
    let go : Goes a.units 2 c.loop-rest.made a.budget (links_fit a.units a.links a.ends.now) c.loop-rest.c =
    goes _ _ _ _ _ _ (rw c.links_fit-fits.ensures at (sym c.goes_on.ensures ∙ c.loop-rest-test.true)) in
    let g = go in
    (g.fit, g.inside, omega (arith, g.below, c.ranges.budget))

pub returns-in-Some : goal.returns-in-Some
returns-in-Some c = c.in-Some.ensures ∙ sym c.loop-rest.invariant.left

pub round-new-requires : goal.round-new-requires
round-new-requires c =
    let a = c.args in
    let go : Goes a.units 2 c.loop-rest.made a.budget (links_fit a.units a.links a.ends.now) c.loop-rest.c =
    goes _ _ _ _ _ _ (rw c.links_fit-fits.ensures at (sym c.goes_on.ensures ∙ c.loop-rest-test.true)) in
    let g = go in (
      g.few,
      fit-few a.units a.links a.ends.now g.fit,
      fit-within a.units a.links a.ends.now (search rules) g.fit,
    )

pub overflow_add-made : goal.overflow_add-made
overflow_add-made c =
    let a = c.args in
    let go : Goes a.units 2 c.loop-rest.made a.budget (links_fit a.units a.links a.ends.now) c.loop-rest.c =
    goes _ _ _ _ _ _ (rw c.links_fit-fits.ensures at (sym c.goes_on.ensures ∙ c.loop-rest-test.true)) in
    omega (arith, go.below, c.ranges.budget)

pub loop-rest-smaller : goal.loop-rest-smaller
loop-rest-smaller c =
    let a = c.args in
    let go : Goes a.units 2 c.loop-rest.made a.budget (links_fit a.units a.links a.ends.now) c.loop-rest.c =
    goes _ _ _ _ _ _ (rw c.links_fit-fits.ensures at (sym c.goes_on.ensures ∙ c.loop-rest-test.true)) in
    omega (arith, go.below)

pub loop-rest-preserved : goal.loop-rest-preserved
unfolding one
loop-rest-preserved c =
    let a = c.args in
    let go : Goes a.units 2 c.loop-rest.made a.budget (links_fit a.units a.links a.ends.now) c.loop-rest.c =
    goes _ _ _ _ _ _ (rw c.links_fit-fits.ensures at (sym c.goes_on.ensures ∙ c.loop-rest-test.true)) in
    let g = go in
    turns_on _ _ _ _ _ _ _ c.loop-rest.invariant g.test
    (rw (
      c.ticked-after.ensures,
      g.inside,
      c.round-new.ensures.parents,
      c.round-new.ensures.dists,
      c.round-new.ensures.ends,
    ))

pub returns : goal.returns
returns c =
    turns_over _ _ _ _ _ _ c.loop-rest.invariant
    (rw c.links_fit-fits.ensures at (sym c.goes_on.ensures
    ∙ c.loop-rest-test.false))
