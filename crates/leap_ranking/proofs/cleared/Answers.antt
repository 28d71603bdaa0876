-- Object by object.
use Rattle.std.proofs.Common.{ℕ, refl}
use Rattle.base_lists.specs.Rounds.{over-more}
use Rattle.spec_rules.specs.Basics.{ABSENT}
use Rattle.leap_ranking.proofs.cleared.Goals as goal

pub loop-a-preserved : goal.loop-a-preserved
loop-a-preserved c = over-more c.loop-a.a (λ (a : ℕ). ABSENT) _ _ _ _ c.loop-a.invariant refl refl
