-- Link by link.
use mathlib.Core.Path.{refl, ◌∙◌}
use Rattle.base_lists.specs.Rounds.{over-more, over-all}
use Rattle.spec_rules.specs.Aux.{link_joins_round}
use borrow.Author.Rules.{rules}
use Rattle.stage08_joins.proofs.link_joins.Goals as goal

pub loop-j-preserved : goal.loop-j-preserved
loop-j-preserved c = (
  search rules,
  search rules,
  over-more _ _ _ _ _ _ c.loop-j.invariant.2 c.link_join.ensures refl,
)

pub returns : goal.returns
unfolding link_joins_round
returns c = c.loop-j.invariant.2 ∙ over-all _ _ _ _ c.loop-j.invariant.0 c.loop-j-test.false
