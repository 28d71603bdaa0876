-- Round after round: each is one of the definition's, as long as the stage goes on.
use mathlib.Core.Path.{sym, ◌∙◌}
use native.Mathlib.Omega.{arith}
use borrow.Author.Tests.{eq-eqb, ne_eqb}
use Rattle.base_lists.specs.Folds.{every}
use Rattle.spec_rules.specs.Bounds.{name_ok}
use Rattle.spec_machine.specs.InStage.{Goes, goes}
use Rattle.spec_machine.specs.StageRun.{turns_begin, turns_on, turns_over}
use Rattle.stage03_tour.specs.Rounds.{one}
use Rattle.stage03_tour.proofs.run.Goals as goal

pub next_round-new-requires : goal.next_round-new-requires
next_round-new-requires c =
    let a = c.args in
    let go : Goes a.units 3 c.loop-after.made a.budget (every (name_ok a.units) a.parent.now) c.loop-after.c
    = goes _ _ _ _ _ _ (rw c.names_ok-fits.ensures at (sym c.goes_on.ensures ∙ c.loop-after-test.true)) in
    (go.few, (omega arith, go.fit))

pub pred_round-new-requires : goal.pred_round-new-requires
pred_round-new-requires c =
    let a = c.args in
    let go : Goes a.units 3 c.loop-after.made a.budget (every (name_ok a.units) a.parent.now) c.loop-after.c
    = goes _ _ _ _ _ _ (rw c.names_ok-fits.ensures at (sym c.goes_on.ensures ∙ c.loop-after-test.true)) in
    (go.few, (omega arith, go.fit))

pub loop-after-init : goal.loop-after-init
loop-after-init c = turns_begin _ _ _ _

pub overflow_add-made : goal.overflow_add-made
overflow_add-made c =
    let a = c.args in
    let go : Goes a.units 3 c.loop-after.made a.budget (every (name_ok a.units) a.parent.now) c.loop-after.c
    = goes _ _ _ _ _ _ (rw c.names_ok-fits.ensures at (sym c.goes_on.ensures ∙ c.loop-after-test.true)) in
    omega (arith, go.below, c.ranges.budget)

pub loop-after-smaller-then-c-eq0 : goal.loop-after-smaller-then-c-eq0
loop-after-smaller-then-c-eq0 c =
    let a = c.args in
    let go : Goes a.units 3 c.loop-after.made a.budget (every (name_ok a.units) a.parent.now) c.loop-after.c
    = goes _ _ _ _ _ _ (rw c.names_ok-fits.ensures at (sym c.goes_on.ensures ∙ c.loop-after-test.true)) in
    omega (arith, go.below)

pub loop-after-preserved-then-c-eq0 : goal.loop-after-preserved-then-c-eq0
unfolding one
loop-after-preserved-then-c-eq0 c =
    let a = c.args in
    let go : Goes a.units 3 c.loop-after.made a.budget (every (name_ok a.units) a.parent.now) c.loop-after.c
    = goes _ _ _ _ _ _ (rw c.names_ok-fits.ensures at (sym c.goes_on.ensures ∙ c.loop-after-test.true)) in
    turns_on _ _ _ _ _ _ _ c.loop-after.invariant go.test
    (rw (c.next_round-new.ensures, c.ticked-after.ensures, go.inside, eq-eqb c.loop-after.c.made 0 c.if-c-eq0.true))

pub overflow_add-made-in-loop-after : goal.overflow_add-made-in-loop-after
overflow_add-made-in-loop-after c =
    let a = c.args in
    let go : Goes a.units 3 c.loop-after.made a.budget (every (name_ok a.units) a.parent.now) c.loop-after.c
    = goes _ _ _ _ _ _ (rw c.names_ok-fits.ensures at (sym c.goes_on.ensures ∙ c.loop-after-test.true)) in
    omega (arith, go.below, c.ranges.budget)

pub loop-after-smaller : goal.loop-after-smaller
loop-after-smaller c =
    let a = c.args in
    let go : Goes a.units 3 c.loop-after.made a.budget (every (name_ok a.units) a.parent.now) c.loop-after.c
    = goes _ _ _ _ _ _ (rw c.names_ok-fits.ensures at (sym c.goes_on.ensures ∙ c.loop-after-test.true)) in
    omega (
      arith,
      go.below,
    )

pub loop-after-preserved : goal.loop-after-preserved
unfolding one
loop-after-preserved c =
    let a = c.args in
    let go : Goes a.units 3 c.loop-after.made a.budget (every (name_ok a.units) a.parent.now) c.loop-after.c
    = goes _ _ _ _ _ _ (rw c.names_ok-fits.ensures at (sym c.goes_on.ensures ∙ c.loop-after-test.true)) in
    turns_on _ _ _ _ _ _ _ c.loop-after.invariant go.test
    (rw (
      c.pred_round-new.ensures.preds,
      c.pred_round-new.ensures.jumps,
      c.pred_round-new.ensures.sums,
      c.ticked-after.ensures,
      go.inside,
      ne_eqb c.loop-after.c.made 0 c.if-c-eq0.false,
    ))

pub returns : goal.returns
returns c =
    turns_over _ _ _ _ _ _ c.loop-after.invariant
    (rw c.names_ok-fits.ensures at (sym c.goes_on.ensures ∙ c.loop-after-test.false))
