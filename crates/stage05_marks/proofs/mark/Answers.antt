-- Unit by unit, both arcs.
use borrow.Author.Rules.{rules}
use mathlib.Core.Path.{◌≡◌, refl, ◌∙◌}
use Prim.Native.Nat.{◌+◌, ◌*◌}
use native.Mathlib.Nat.{le_antisymm}
use Rattle.base_lists.specs.Rounds.{over-pair}
use Rattle.spec_rules.specs.Order.{forward_mark, forward_round}
use Rattle.stage05_marks.specs.Pairs.{forward-into, forward-out}
use Rattle.stage05_marks.proofs.mark.Goals as goal

pub loop-v-preserved : goal.loop-v-preserved
loop-v-preserved c =
    let a = c.args in
    let x : c.forward_mark.result ≡ forward_mark a.parent.now a.rank.now (2 * c.loop-v.v)
    = c.forward_mark.ensures ∙ forward-into a.parent.now c.loop-v.v a.rank.now in
    let y : c.forward_mark-in-loop-v.result ≡ forward_mark a.parent.now a.rank.now (2 * c.loop-v.v + 1)
    = c.forward_mark-in-loop-v.ensures ∙ forward-out a.parent.now c.loop-v.v a.rank.now in
    (search rules, over-pair c.loop-v.v _ _ _ _ _ _ c.loop-v.invariant.1 (λ _. x) (λ _. y) refl)

pub returns : goal.returns
unfolding forward_round
returns c = rw (le_antisymm c.loop-v.invariant.0 c.loop-v-test.false) at c.loop-v.invariant.1
