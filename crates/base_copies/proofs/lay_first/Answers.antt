-- Word by word.
use Prim.Native.Nat.{ℕ}
use lib.ListN.{get_or}
use Rattle.base_lists.specs.Rounds.{over-more}
use borrow.Author.Rules.{rules}
use Rattle.base_copies.proofs.lay_first.Goals as goal

pub loop-v-preserved : goal.loop-v-preserved
loop-v-preserved c = (
  search rules,
  search rules,
  over-more _ (λ (i : ℕ). get_or c.args.table.now i 0) _ _ _ _
      c.loop-v.invariant.2 c.word.ensures c.put.ensures,
)
