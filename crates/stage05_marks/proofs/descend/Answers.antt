-- Unit by unit, from the buckets.
use borrow.Author.Rules.{rules}
use mathlib.Core.Path.{refl, ◌∙◌}
use native.Mathlib.Nat.{le_antisymm}
use Rattle.base_lists.specs.Rounds.{over-more}
use Rattle.spec_rules.specs.OrderLaws.{nd-round}
use Rattle.stage05_marks.proofs.descend.Goals as goal

pub loop-v-preserved : goal.loop-v-preserved
loop-v-preserved c = (
  search rules,
  over-more _ _ _ _ _ _ c.loop-v.invariant.1
      (rw (c.half_span-span.ensures, c.count_by-size.ensures) at c.choose.ensures) refl,
)

pub returns : goal.returns
returns c =
    let a = c.args in
    rw (le_antisymm c.loop-v.invariant.0 c.loop-v-test.false) at c.loop-v.invariant.1
    ∙ nd-round a.units a.color.now c.equal_table-bucket.result c.count_at-absent.result c.equal_table-bucket.ensures
    c.count_at-absent.ensures a.parent.now
    a.rank.now a.nd.now
