-- Object by object.
use Rattle.std.proofs.Common.{◌≡◌, ℕ, ◌<◌, true}
use Rattle.leap_ranking.specs.Keys.{key_right}
use Rattle.leap_ranking.proofs.tests.keys_right.Given as goal

abbrev pub invariant-loop-a : goal.invariant-loop-a
invariant-loop-a l =
    ((i : ℕ) → i < l.a → key_right l.arcs l.jump l.sum l.key i ≡ true)
