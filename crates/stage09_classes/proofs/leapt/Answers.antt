-- Where the stage makes a round.
use mathlib.Core.Path.{◌≡◌, sym, ◌∙◌}
use mathlib.Core.Bool.{true}
use borrow.Author.Rules.{rules}
use Rattle.spec_machine.specs.InStage.{Goes, goes}
use Rattle.stage09_classes.specs.Rounds.{fits}
use Rattle.stage09_classes.proofs.leapt.Goals as goal

pub over_pairs-requires : goal.over_pairs-requires
over_pairs-requires c =
    let a = c.args in
    let goes_on : c.goes_on-goes_on.result ≡ true = search rules in
    let go : Goes a.units 9 0 a.budget (fits a.units a.links a.ends.now a.parent.now) a.clock =
    goes _ _ _ _ _ _ (rw c.requires at (sym c.goes_on-goes_on.ensures ∙ goes_on)) in
    (go.few, go.fit, go.inside, c.pays.ensures (search rules))
