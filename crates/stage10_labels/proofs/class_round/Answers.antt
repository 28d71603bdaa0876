-- Link by link.
use mathlib.Core.Path.{refl, ◌∙◌}
use Prim.Native.Nat.{◌*◌, ◌+◌}
use native.Mathlib.Omega.{arith}
use Rattle.base_lists.specs.Rounds.{over-more, over-all}
use Rattle.spec_rules.specs.Labels.{class_round}
use borrow.Author.Rules.{rules}
use Rattle.stage10_labels.proofs.class_round.Goals as goal

pub naming-u-requires : goal.naming-u-requires
naming-u-requires c =
    let one = c.requires.2.1 (2 * c.loop-j.j) (omega (arith, c.loop-j-test.true)) in
    let two = c.requires.2.1 (2 * c.loop-j.j + 1) (omega (arith, c.loop-j-test.true)) in
    (omega (arith, one, c.requires.0), omega (arith, two, c.requires.0))

pub loop-j-preserved : goal.loop-j-preserved
loop-j-preserved c = (
  search rules,
  search rules,
  over-more _ _ _ _ _ _ c.loop-j.invariant.2
      (rw c.naming-u.ensures.exact) refl,
)

pub returns : goal.returns
unfolding class_round
returns c = c.loop-j.invariant.2 ∙ over-all _ _ _ _ c.loop-j.invariant.0 c.loop-j-test.false
