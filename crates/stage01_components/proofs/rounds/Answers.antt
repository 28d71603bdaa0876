-- Round after round: each is one of the definition's, as long as the stage goes on.
use mathlib.Core.Path.{sym, ◌∙◌}
use borrow.Author.Rules.{rules}
use Rattle.spec_rules.specs.Fits.{links_fit, fit-within}
use Rattle.spec_machine.specs.InStage.{Goes, goes}
use Rattle.spec_machine.specs.StageRun.{turns_on, turns_over}
use Rattle.stage01_components.specs.Rounds.{one}
use Rattle.stage01_components.proofs.rounds.Goals as goal

pub round-new-requires : goal.round-new-requires
round-new-requires c =
    let a = c.args in
    let go : Goes a.units 1 c.loop-value.made a.budget (links_fit a.units a.links a.ends.now) c.loop-value.c =
    goes _ _ _ _ _ _ (rw c.requires at (sym c.goes_on.ensures ∙ c.loop-value-test.true)) in
    (go.few, fit-within a.units a.links a.ends.now (search rules) go.fit)

pub loop-value-preserved : goal.loop-value-preserved
unfolding one
loop-value-preserved c =
    let a = c.args in
    let go : Goes a.units 1 c.loop-value.made a.budget (links_fit a.units a.links a.ends.now) c.loop-value.c =
    goes _ _ _ _ _ _ (rw c.requires at (sym c.goes_on.ensures ∙ c.loop-value-test.true)) in
    turns_on _ _ _ _ _ _ _ c.loop-value.invariant go.test
    (rw (c.ticked-after.ensures, go.inside, c.ends-done.ensures, c.round-new.ensures))

pub returns : goal.returns
returns c =
    turns_over _ _ _ _ _ _ c.loop-value.invariant
    (rw c.requires at (sym c.goes_on.ensures ∙ c.loop-value-test.false))
