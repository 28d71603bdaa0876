-- Unit by unit.
use borrow.Author.Rules.{rules}
use mathlib.Core.Path.{refl}
use native.Mathlib.Nat.{le_antisymm}
use Rattle.base_lists.specs.Rounds.{over-more}
use Rattle.spec_rules.specs.Range.{little_first, big_first}
use Rattle.stage07_range.proofs.local.ends_begin.Goals as goal

pub loop-v-preserved : goal.loop-v-preserved
loop-v-preserved c = (
  search rules,
  over-more _ _ _ _ _ _ c.loop-v.invariant.1 refl refl,
  over-more _ _ _ _ _ _ c.loop-v.invariant.2 (rw c.end_place.ensures at c.last_place.ensures) refl,
)

pub returns : goal.returns
unfolding little_first big_first
returns c =
    let ended = le_antisymm c.loop-v.invariant.0 c.loop-v-test.false in
    record {
      little = rw ended at c.loop-v.invariant.1;
      big = rw ended at c.loop-v.invariant.2;
    }
