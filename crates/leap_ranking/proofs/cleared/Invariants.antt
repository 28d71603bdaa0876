-- Object by object.
use Rattle.std.proofs.Common.{◌≡◌, ℕ}
use Rattle.base_lists.specs.Tables.{over}
use Rattle.spec_rules.specs.Basics.{ABSENT}
use Rattle.leap_ranking.proofs.cleared.Given as goal

abbrev pub invariant-loop-a : goal.invariant-loop-a
invariant-loop-a l = l.jump ≡ over l.a (λ (k : ℕ). ABSENT) l.initial.jump
