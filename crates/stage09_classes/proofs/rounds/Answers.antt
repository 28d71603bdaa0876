-- Round after round: each is one of the definition's, as long as the stage goes on.
use mathlib.Core.Path.{sym, ◌∙◌}
use Prim.Native.Nat.{min}
use native.Mathlib.Omega.{arith}
use borrow.Author.Tests.{lt-ltb}
use Rattle.base_lists.specs.Folds.{every}
use Rattle.base_lists.specs.Tests.{and_left, and_right}
use Rattle.spec_rules.specs.Components.{color_ends}
use Rattle.spec_rules.specs.Aux.{aux_ends}
use Rattle.spec_rules.specs.Bounds.{name_ok}
use Rattle.spec_rules.specs.Fits.{links_fit, fit-few, fit-within}
use Rattle.spec_machine.specs.InStage.{Goes, goes}
use Rattle.spec_machine.specs.StageRun.{turns_on, turns_over}
use Rattle.stage09_aux.specs.Heads.{Heads}
use Rattle.stage09_classes.specs.HeadLaws.{heads-exist}
use Rattle.stage09_classes.specs.Rounds.{fits, one}
use Rattle.stage09_classes.proofs.rounds.Goals as goal

pub round-new-requires : goal.round-new-requires
round-new-requires c =
    let a = c.args in
    let go : Goes a.units 9 c.loop-heads.made a.budget (fits a.units a.links a.ends.now a.parent.now) c.loop-heads.c =
    goes _ _ _ _ _ _ (rw c.requires.0 at (sym c.goes_on.ensures ∙ c.loop-heads-test.true)) in
    let by : Heads a.units a.parent.now a.parents.now c.of-heads.result =
    heads-exist a.units a.parent.now a.parents.now c.of-heads.result
    (and_right (links_fit a.units a.links a.ends.now) (every (name_ok a.units) a.parent.now) go.fit)
    (λ u l. rw (lt-ltb u (min a.units 256) (omega (arith, l, go.few))) at
    (c.of-heads.ensures u (omega (arith, l, go.few)))) in
    let links = and_left (links_fit a.units a.links a.ends.now) (every (name_ok a.units) a.parent.now) go.fit in (
      go.few,
      fit-few a.units a.links a.ends.now links,
      fit-within a.units a.links a.ends.now c.requires.1 links,
      by.exist,
    )

pub loop-heads-preserved : goal.loop-heads-preserved
unfolding one aux_ends color_ends
loop-heads-preserved c =
    let a = c.args in
    let go : Goes a.units 9 c.loop-heads.made a.budget (fits a.units a.links a.ends.now a.parent.now) c.loop-heads.c =
    goes _ _ _ _ _ _ (rw c.requires.0 at (sym c.goes_on.ensures ∙ c.loop-heads-test.true)) in
    let by : Heads a.units a.parent.now a.parents.now c.of-heads.result =
    heads-exist a.units a.parent.now a.parents.now c.of-heads.result
    (and_right (links_fit a.units a.links a.ends.now) (every (name_ok a.units) a.parent.now) go.fit)
    (λ u l. rw (lt-ltb u (min a.units 256) (omega (arith, l, go.few))) at
    (c.of-heads.ensures u (omega (arith, l, go.few)))) in
    turns_on _ _ _ _ _ _ _ c.loop-heads.invariant go.test
    (rw (c.ticked-after.ensures, go.inside, c.ends-done.ensures, c.round-new.ensures _ by))

pub returns : goal.returns
returns c =
    turns_over _ _ _ _ _ _ c.loop-heads.invariant
    (rw c.requires.0 at (sym c.goes_on.ensures ∙ c.loop-heads-test.false))
