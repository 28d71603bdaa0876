-- Object by object.
use Rattle.std.proofs.Common.{◌≡◌, ℕ, get_or}
use Rattle.base_lists.specs.Tables.{over}
use Rattle.leap_ranking.proofs.tests.of_keys.Given as goal

abbrev pub invariant-loop-a : goal.invariant-loop-a
invariant-loop-a g l =
    (f : ℕ → ℕ) → ((k x : ℕ) → goal.F-post g l.part k x → x ≡ f k)
    → l.table ≡ over l.a (λ (i : ℕ). f (get_or l.key i 0)) l.initial.table
