-- Entry by entry.
use Rattle.std.proofs.Common.{refl}
use Rattle.base_lists.specs.Rounds.{over-more}
use Rattle.one_way_tables.proofs.clear.Goals as goal

pub loop-v-preserved : goal.loop-v-preserved
loop-v-preserved c = over-more _ _ _ _ _ _ c.loop-v.invariant refl c.put.ensures
