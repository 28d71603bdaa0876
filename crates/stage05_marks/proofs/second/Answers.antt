-- Unit by unit, both arcs.
use borrow.Author.Rules.{rules}
use mathlib.Core.Path.{◌≡◌, refl, ◌∙◌}
use Prim.Native.Nat.{◌+◌, ◌*◌}
use native.Mathlib.Nat.{le_antisymm}
use Rattle.base_lists.specs.Rounds.{over-pair}
use Rattle.spec_rules.specs.Order.{second_sum, second_sums, second_jumps}
use Rattle.stage05_marks.specs.Pairs.{second-into, second-out}
use Rattle.stage05_marks.proofs.second.Goals as goal

pub loop-v-preserved : goal.loop-v-preserved
loop-v-preserved c =
    let a = c.args in
    let x : c.second_sum.result ≡ second_sum a.parent.now a.forward.now (2 * c.loop-v.v)
    = c.second_sum.ensures ∙ second-into a.parent.now c.loop-v.v a.forward.now in
    let y : c.second_sum-in-loop-v.result ≡ second_sum a.parent.now a.forward.now (2 * c.loop-v.v + 1)
    = c.second_sum-in-loop-v.ensures ∙ second-out a.parent.now c.loop-v.v a.forward.now in (
      search rules,
      over-pair c.loop-v.v _ _ _ _ _ _ c.loop-v.invariant.1 (λ _. refl) (λ _. refl) refl,
      over-pair c.loop-v.v _ _ _ _ _ _ c.loop-v.invariant.2 (λ _. x) (λ _. y) refl,
    )

pub returns : goal.returns
unfolding second_sums second_jumps
returns c =
    let ended = le_antisymm c.loop-v.invariant.0 c.loop-v-test.false in
    record {
      jumps = rw ended at c.loop-v.invariant.1;
      sums = rw ended at c.loop-v.invariant.2;
    }
