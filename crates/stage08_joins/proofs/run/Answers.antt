-- Round after round: each is one of the definition's, as long as the stage goes on.
use mathlib.Core.Path.{sym, ◌∙◌}
use Rattle.spec_rules.specs.Fits.{links_fit, fit-few, fit-within}
use Rattle.spec_machine.specs.InStage.{Goes, goes}
use Rattle.spec_machine.specs.StageRun.{turns_on, turns_over}
use Rattle.stage08_joins.specs.Rounds.{one}
use borrow.Author.Rules.{rules}
use Rattle.stage08_joins.proofs.run.Goals as goal

pub parent_joins-new-requires : goal.parent_joins-new-requires
parent_joins-new-requires c =
    let a = c.args in
    let go : Goes a.units 8 c.loop-new.made a.budget (links_fit a.units a.links a.ends.now) c.loop-new.c
    = goes _ _ _ _ _ _ (rw c.links_fit-fits.ensures at (sym c.goes_on.ensures ∙ c.loop-new-test.true)) in
    go.few

pub link_joins-new_links-requires : goal.link_joins-new_links-requires
link_joins-new_links-requires c =
    let a = c.args in
    let go : Goes a.units 8 c.loop-new.made a.budget (links_fit a.units a.links a.ends.now) c.loop-new.c
    = goes _ _ _ _ _ _ (rw c.links_fit-fits.ensures at (sym c.goes_on.ensures ∙ c.loop-new-test.true)) in (
      go.few,
      fit-few a.units a.links a.ends.now go.fit,
      fit-within a.units a.links a.ends.now (search rules) go.fit,
    )

pub loop-new-preserved : goal.loop-new-preserved
unfolding one
loop-new-preserved c =
    let a = c.args in
    let go : Goes a.units 8 c.loop-new.made a.budget (links_fit a.units a.links a.ends.now) c.loop-new.c
    = goes _ _ _ _ _ _ (rw c.links_fit-fits.ensures at (sym c.goes_on.ensures ∙ c.loop-new-test.true)) in
    turns_on _ _ _ _ _ _ _ c.loop-new.invariant go.test
    (rw (c.ticked-after.ensures, go.inside, c.link_joins-new_links.ensures, c.parent_joins-new.ensures))

pub returns : goal.returns
returns c =
    turns_over _ _ _ _ _ _ c.loop-new.invariant
    (rw c.links_fit-fits.ensures at (sym c.goes_on.ensures ∙ c.loop-new-test.false))
