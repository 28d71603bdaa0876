-- Entry by entry, from the tables as they were, as far as there are entries.
use Rattle.std.proofs.Common.{◌≡◌, length, min, get_or, refl, ◌∙◌, arith, rules}
use Rattle.base_lists.specs.Rounds.{over-more, over-least}
use Rattle.spec_rules.specs.Ranking.{jump_after, jump_round, sum_after, sum_round}
use Rattle.stage04_ranking.specs.Asking.{jump-taken, sum-taken, jump-past, sum_past, jump-stays, sum-stays}
use Rattle.stage04_ranking.proofs.double.Goals as goal
use Rattle.stage04_ranking.proofs.double.Goals.{then-before-lt512, else-before-lt512+then-before}
use Rattle.stage04_ranking.proofs.double.Goals.{else-before-lt512+else-before}

pub loop-a-preserved : goal.loop-a-preserved
loop-a-preserved c =
    let jump = c.args.jump.now in
    let sum = c.args.sum.now in
    let a = c.loop-a.a in
    let before = get_or jump a 0 in
    let own = get_or sum a 0 in
    let full-jump : length jump ≡ 512 = search rules in
    let full-sum : length sum ≡ 512 = search rules in
    elim c.if-before-lt512.branch [
      | then-before-lt512 w ↦ (
        over-more a _ jump _ _ _ c.loop-a.invariant.0
            (jump-taken jump sum a before own refl refl _ refl (λ e. omega arith)) w.jump-is,
        over-more a _ sum _ _ _ c.loop-a.invariant.1
            (sum-taken jump sum a before own refl refl _ w.bounded_sum.ensures (λ e. omega arith)) w.sum-is,
      )
      | else-before-lt512+then-before w ↦ (
        over-more a _ jump _ _ _ c.loop-a.invariant.0
            (jump-past jump sum a before own refl refl w.if-before.true (omega arith)) w.jump-is,
        over-more a _ sum _ _ _ c.loop-a.invariant.1
            (sum_past jump sum a before own refl refl w.if-before.true (omega arith) _
            w.bounded_sum-then-before.ensures) w.sum-is,
      )
      | else-before-lt512+else-before w ↦ (
        jump-stays jump sum a before own refl refl w.if-before.false _ (w.jump-is ∙ c.loop-a.invariant.0),
        sum-stays jump sum a before own refl refl w.if-before.false _ (w.sum-is ∙ c.loop-a.invariant.1),
      )
    ]

pub returns-clause-jumps : goal.returns-clause-jumps
unfolding jump_round
returns-clause-jumps c =
    let jump = c.args.jump.now in
    let full : length jump ≡ 512 = search rules in
    let ended : c.loop-a.a ≡ min c.args.objects 512 = omega arith in
    over-least c.args.objects 512 (jump_after jump) jump _ (omega arith) (rw ended at c.loop-a.invariant.0)

pub returns-clause-sums : goal.returns-clause-sums
unfolding sum_round
returns-clause-sums c =
    let sum = c.args.sum.now in
    let full : length sum ≡ 512 = search rules in
    let ended : c.loop-a.a ≡ min c.args.objects 512 = omega arith in
    over-least c.args.objects 512 (sum_after c.args.jump.now sum) sum _ (omega arith) (rw ended at c.loop-a.invariant.1)
