-- At once by the law of rankings, where what was found is right; then the places.
use Rattle.std.proofs.Common.{true, sym, ◌∙◌}
use Rattle.base_lists.specs.Tests.{and_right}
use Rattle.spec_rules.specs.Order.{pre_round}
use Rattle.spec_machine.specs.InStage.{goes}
use Rattle.leap_ranking.specs.Leapt.{leapt-run}
use Rattle.stage06_places.specs.Leap.{ran, ranks}
use Rattle.stage06_places.specs.Rounds.{on, one}
use Rattle.stage06_places.proofs.run.Goals as goal

pub number-requires : goal.number-requires
number-requires c =
    let a = c.args in
    let on-it = and_right c.tried.result c.goes_on-goes_on.result c.if-tried-goes_on.true in
    (goes a.units 6 0 a.budget true a.clock (sym c.goes_on-goes_on.ensures ∙ on-it)).few

pub returns-in-Some : goal.returns-in-Some
returns-in-Some c =
    let a = c.args in
    let on-it = and_right c.tried.result c.goes_on-goes_on.result c.if-tried-goes_on.true in
    rw c.number.ensures
    (leapt-run ran (on a.units) (one a.units a.color.now a.parent.now) a.units 6
    (pre_round a.units a.color.now a.parent.now) (ranks a.units a.color.now a.parent.now)
    a.budget a.pre a.jump a.sum a.clock _ _ _ _ c.in-Some.ensures.leapt
    (goes a.units 6 0 a.budget true a.clock (sym c.goes_on-goes_on.ensures ∙ on-it)).inside)
