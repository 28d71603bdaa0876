-- By the test of both ends.
use mathlib.Core.Path.{◌≡◌}
use mathlib.Core.Bool.{false, ◌||◌}
use Prim.Native.Nat.{◌%◌}
use native.Mathlib.Omega.{arith}
use mir.Syntax.{w16}
use mir.ValLaws.{to_z-of_z}
use Rattle.base_lists.specs.Tests.{or_false-left, or_false-right}
use Rattle.spec_rules.specs.Tree.{visited_before}
use Rattle.spec_rules.specs.TreeLaws.{linked}
use Rattle.stage02_round.specs.Chosen.{passed_over}
use Rattle.stage02_round.proofs.offer_both.Goals as goal

pub returns-then-from_a-from_b : goal.returns-then-from_a-from_b
returns-then-from_a-from_b c =
    let a = c.args in
    let level = to_z-of_z w16 a.level c.ranges.level in
    let first : a.a % 256 ≡ a.a = omega (arith, c.requires.0) in
    let second : a.b % 256 ≡ a.b = omega (arith, c.requires.1) in
    let to-a = rw (c.was_visited-from_b.ensures, level, first) at c.offer_if.ensures in
    let to-b = rw (c.was_visited-from_a.ensures, level, second) at c.offer_if-then-from_a-from_b.ensures in
    linked (visited_before a.made a.dist.now) a.level a.a a.b _ _ _ _ _ _ (omega (arith, c.requires.0))
    (omega (arith, c.requires.1)) to-a.levels to-a.units to-b.levels to-b.units

pub returns-else-from_a-from_b : goal.returns-else-from_a-from_b
returns-else-from_a-from_b c =
    let a = c.args in
    let passes = visited_before a.made a.dist.now in
    let none : (passes a.a || passes a.b) ≡ false =
    rw (c.was_visited-from_a.ensures, c.was_visited-from_b.ensures) at c.if-from_a-from_b.false in
    passed_over passes a.level a.a a.b _ _ (or_false-left (passes a.a) (passes a.b) none)
    (or_false-right (passes a.a) (passes a.b) none)
