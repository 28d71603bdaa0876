-- Unit by unit, from the buckets.
use mathlib.Core.Path.{◌≡◌, refl, ◌∙◌}
use Prim.Native.Nat.{◌+◌, ◌*◌}
use native.Mathlib.Nat.{le_antisymm}
use Rattle.base_lists.specs.Rounds.{over-pair}
use Rattle.spec_rules.specs.Tour.{predecessor, pred_round, first_jumps, first_sum, first_sums}
use Rattle.stage03_tour.specs.Predecessors.{into-right, out-right, sum-into, sum-out}
use borrow.Author.Rules.{rules}
use Rattle.stage03_tour.proofs.predecessors.pred_round.Goals as goal

pub loop-v-preserved : goal.loop-v-preserved
loop-v-preserved c =
    let a = c.args in
    let f = predecessor a.units a.parent.now a.next.now in
    let is-in : c.pred_in-x.result ≡ f (2 * c.loop-v.v) =
    c.pred_in-x.ensures
    ∙ into-right a.units a.parent.now a.next.now c.fill-child.result c.fill-first.result c.requires
    c.fill-child.ensures c.fill-first.ensures c.loop-v.v c.loop-v-test.true in
    let is-out : c.pred_out-y.result ≡ f (2 * c.loop-v.v + 1) =
    c.pred_out-y.ensures
    ∙ out-right a.units a.parent.now a.next.now c.fill-child.result c.fill-first.result c.requires
    c.fill-child.ensures c.fill-first.ensures c.loop-v.v c.loop-v-test.true in (
      search rules,
      search rules,
      search rules,
      search rules,
      over-pair c.loop-v.v f _ _ _ _ _ c.loop-v.invariant.4 (λ _. is-in) (λ _. is-out) refl,
      over-pair c.loop-v.v f _ _ _ _ _ c.loop-v.invariant.5 (λ _. is-in) (λ _. is-out) refl,
      over-pair c.loop-v.v (first_sum a.parent.now) _ _ _ _ _ c.loop-v.invariant.6 (λ _. c.choose-z.ensures
          ∙ sum-into a.parent.now c.loop-v.v)
          (λ _. c.choose-z.ensures ∙ sum-out a.parent.now c.loop-v.v) refl,
    )

pub returns : goal.returns
unfolding pred_round first_jumps first_sums
returns c =
    let end = le_antisymm c.loop-v.invariant.0 c.loop-v-test.false in
    record {
      preds = rw end at c.loop-v.invariant.4;
      jumps = rw end at c.loop-v.invariant.5;
      sums = rw end at c.loop-v.invariant.6;
    }
