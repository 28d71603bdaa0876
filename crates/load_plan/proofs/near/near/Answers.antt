-- Link by link, from no marks.
use Prim.Native.Nat.{◌-◌}
use Rattle.load_plan.specs.Marks.{marks-none, marks-step, marks-all}
use borrow.Author.Rules.{rules}
use Rattle.load_plan.proofs.near.near.Goals as goal

pub loop-j-init : goal.loop-j-init
loop-j-init c =
    let a = c.args in (
      search rules,
      marks-none a.table.now a.parents.now c.no_marks-near.result (search rules)
          c.no_marks-near.ensures,
    )

pub loop-j-preserved : goal.loop-j-preserved
loop-j-preserved c =
    let a = c.args in (
      search rules,
      marks-step a.table.now a.parents.now c.loop-j.j c.loop-j.near _ _ _ _ c.loop-j.invariant.1
          c.word-a.ensures c.word-b.ensures c.mark.ensures c.mark-in-loop-j.ensures,
    )

pub returns : goal.returns
returns c =
    let a = c.args in
    marks-all a.table.now a.parents.now a.links c.loop-j.j c.loop-j.near c.loop-j.invariant.1
    c.loop-j.invariant.0 c.loop-j-test.false
