-- Unit by unit.
use mathlib.Core.Path.{refl, ◌∙◌}
use Prim.Native.Nat.{◌-◌}
use Rattle.base_lists.specs.Tables.{get_d_over}
use Rattle.base_lists.specs.Rounds.{over-more, over-all}
use Rattle.spec_rules.specs.Planned.{top_of}
use borrow.Author.Rules.{rules}
use Rattle.load_plan.proofs.chains.tops.Goals as goal

pub loop-v-preserved : goal.loop-v-preserved
loop-v-preserved c = (
  search rules,
  search rules,
  over-more _ _ _ _ _ _ c.loop-v.invariant.2 c.top_of-top.ensures refl,
)

pub returns : goal.returns
returns c =
    let a = c.args in
    let all = c.loop-v.invariant.2 ∙ over-all _ _ (top_of a.parents.now a.units) c.blank-tops.result
    c.loop-v.invariant.0 c.loop-v-test.false in
    λ v h. rw all (get_d_over a.units (top_of a.parents.now a.units) c.blank-tops.result v 0 h
    (search rules))
