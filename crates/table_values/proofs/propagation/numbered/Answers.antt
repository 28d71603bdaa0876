-- Entry by entry.
use Rattle.std.proofs.Common.{ℕ, refl, rules}
use Rattle.base_lists.specs.Rounds.{over-more}
use Rattle.table_values.proofs.propagation.numbered.Goals as goal

pub loop-v-preserved : goal.loop-v-preserved
loop-v-preserved c = (
  search rules,
  search rules,
  over-more _ (λ (i : ℕ). i) _ _ _ _ c.loop-v.invariant.2 refl
      c.store.ensures,
)
