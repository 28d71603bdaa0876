-- At once by the law of rankings, where what was found is right.
use Rattle.std.proofs.Common.{true, [], sym, ◌∙◌}
use Rattle.base_lists.specs.Tests.{and_right}
use Rattle.spec_machine.specs.InStage.{goes}
use Rattle.leap_ranking.specs.Leapt.{leapt-run}
use Rattle.stage04_ranking.specs.Leap.{ran, unnumbered, ranks}
use Rattle.stage04_ranking.specs.Rounds.{on, one}
use Rattle.stage04_ranking.proofs.run.Goals as goal

pub returns-in-Some : goal.returns-in-Some
returns-in-Some c =
    let a = c.args in
    let on-it = and_right c.tried.result c.goes_on-goes_on.result c.if-tried-goes_on.true in
    leapt-run ran (on a.units) (one a.units) a.units 4 unnumbered (ranks a.units) a.budget []
    a.jump a.sum a.clock _ _ _ _
    c.in-Some.ensures.leapt (goes a.units 4 0 a.budget true a.clock (sym c.goes_on-goes_on.ensures ∙ on-it)).inside
