-- Entry by entry.
use Rattle.std.proofs.Common.{rules, refl, ◌∙◌}
use Rattle.base_lists.specs.Rounds.{over-more, over-all}
use Rattle.stage07_range.proofs.local.begin_from.Goals as goal

pub loop-v-preserved : goal.loop-v-preserved
loop-v-preserved g c = (
  search rules,
  λ f is. over-more c.loop-v.v f _ _ _ _ (c.loop-v.invariant.1 f is)
      (c.at.ensures ∙ is c.loop-v.v c.unit-u.result c.loop-v-test.true c.unit-u.ensures) refl,
  λ f is. over-more c.loop-v.v f _ _ _ _ (c.loop-v.invariant.2 f is)
      (c.at-in-loop-v.ensures ∙ is c.loop-v.v c.unit-u.result c.loop-v-test.true c.unit-u.ensures) refl,
)

pub returns : goal.returns
returns g c = record {
  low = λ f is. c.loop-v.invariant.1 f is ∙ over-all _ _ _ _ c.loop-v.invariant.0 c.loop-v-test.false;
  high = λ f is. c.loop-v.invariant.2 f is ∙ over-all _ _ _ _ c.loop-v.invariant.0 c.loop-v-test.false;
}
