-- Unit by unit, from the buckets.
use Rattle.std.proofs.Common.{◌≡◌, refl, ◌∙◌, arith}
use Rattle.base_lists.specs.Rounds.{over-more}
use Rattle.spec_rules.specs.OrderLaws.{pre-round}
use Rattle.stage06_places.proofs.number.Goals as goal

pub loop-v-preserved : goal.loop-v-preserved
loop-v-preserved c =
    over-more _ _ _ _ _ _ c.loop-v.invariant
    (rw (c.choose-own.ensures, c.count_by-before.ensures) at c.bounded_sum.ensures) refl

pub returns : goal.returns
returns c =
    let a = c.args in
    let ended : c.loop-v.v ≡ a.units = omega arith in
    rw ended at c.loop-v.invariant
    ∙ pre-round a.units a.color.now c.below_table-bucket.result c.count_at-absent.result c.below_table-bucket.ensures
    c.count_at-absent.ensures a.parent.now a.sum.now a.pre.now
