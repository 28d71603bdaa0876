-- Unit by unit.
use mathlib.Core.Path.{◌∙◌}
use Prim.Native.Nat.{◌-◌}
use Rattle.base_lists.specs.Some.{some-all}
use Rattle.load_plan.specs.Unfit.{stray, stray-more}
use borrow.Author.Rules.{rules}
use Rattle.load_plan.proofs.strays.Goals as goal

pub loop-v-preserved : goal.loop-v-preserved
loop-v-preserved c =
    let a = c.args in (
      search rules,
      stray-more a.parents.now a.near.now a.tops.now c.loop-v.v c.loop-v.astray
          c.either-astray.result c.both.result c.either-wrong.result c.at-has.result c.at-bare.result
          c.at-top.result c.loop-v.invariant.1 c.at-has.ensures c.at-bare.ensures c.at-top.ensures
          c.both.ensures c.either-wrong.ensures c.either-astray.ensures,
    )

pub returns : goal.returns
returns c =
    let a =
    c.args in c.loop-v.invariant.1
    ∙ some-all _ _ (stray a.parents.now a.near.now a.tops.now) c.loop-v.invariant.0 c.loop-v-test.false
