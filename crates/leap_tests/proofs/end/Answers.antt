-- Unit by unit.
use Rattle.std.proofs.Common.{ℕ, get_or, refl}
use Rattle.base_lists.specs.Rounds.{over-more}
use Rattle.leap_tests.specs.Found.{last_in}
use Rattle.leap_tests.proofs.end.Goals as goal

pub loop-v-preserved : goal.loop-v-preserved
loop-v-preserved c =
    over-more c.loop-v.v (λ (u : ℕ). last_in (get_or c.args.key.now u 0)) _ _ _ _ c.loop-v.invariant c.last_in.ensures
    refl
