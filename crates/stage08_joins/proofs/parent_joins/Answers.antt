-- Unit by unit.
use mathlib.Core.Path.{◌≡◌, refl, ◌∙◌}
use Rattle.base_lists.specs.Rounds.{over-more, over-all}
use Rattle.spec_rules.specs.Aux.{parent_join, parent_joins_round}
use borrow.Author.Rules.{rules}
use Rattle.stage08_joins.proofs.parent_joins.Goals as goal

pub loop-u-preserved : goal.loop-u-preserved
loop-u-preserved c =
    let a = c.args in
    let is : c.choose.result ≡ parent_join a.parent.now a.nd.now a.pre.now a.low.now a.high.now
    c.loop-u.u = cc in
    (search rules, search rules, over-more _ _ _ _ _ _ c.loop-u.invariant.2 is refl)

pub returns : goal.returns
unfolding parent_joins_round
returns c = c.loop-u.invariant.2 ∙ over-all _ _ _ _ c.loop-u.invariant.0 c.loop-u-test.false
