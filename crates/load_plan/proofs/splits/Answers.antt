-- Link by link.
use mathlib.Core.Path.{◌∙◌}
use Prim.Native.Nat.{◌-◌}
use Rattle.base_lists.specs.Some.{some-all}
use Rattle.load_plan.specs.Unfit.{tops_differ, differ-more}
use borrow.Author.Rules.{rules}
use Rattle.load_plan.proofs.splits.Goals as goal

pub loop-j-preserved : goal.loop-j-preserved
loop-j-preserved c =
    let a = c.args in (
      search rules,
      differ-more a.table.now a.tops.now c.loop-j.j c.loop-j.apart c.either-apart.result
          c.at-a.result c.at-b.result c.loop-j.invariant.1 (rw c.word.ensures at c.at-a.ensures)
          (rw c.word-in-loop-j.ensures at c.at-b.ensures) c.either-apart.ensures,
    )

pub returns : goal.returns
returns c =
    let a =
    c.args in c.loop-j.invariant.1
    ∙ some-all _ _ (tops_differ a.table.now a.tops.now) c.loop-j.invariant.0 c.loop-j-test.false
