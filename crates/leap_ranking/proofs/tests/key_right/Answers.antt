-- The first of a list, or one that follows.
use Rattle.std.proofs.Common.{get_or, refl, arith, le-ltb, lt-ltb, eq-eqb, ne_eqb}
use Rattle.spec_rules.specs.Basics.{ABSENT}
use Rattle.leap_ranking.specs.Keys.{key_right}
use Rattle.leap_ranking.proofs.tests.key_right.Goals as goal

pub returns-then-before : goal.returns-then-before
unfolding key_right
returns-then-before c = let a = c.args in rw (eq-eqb (get_or a.jump.now a.a 0) ABSENT c.if-before.true) refl

pub returns-then-at-arcs : goal.returns-then-at-arcs
unfolding key_right
returns-then-at-arcs c =
    let a = c.args in
    let before = get_or a.jump.now a.a 0 in
    rw (
      ne_eqb before ABSENT c.if-before.false,
      lt-ltb before a.arcs (omega arith),
      c.comes_after.ensures,
    ) refl

pub returns-else-at-arcs : goal.returns-else-at-arcs
unfolding key_right
returns-else-at-arcs c =
    let a = c.args in
    let before = get_or a.jump.now a.a 0 in
    rw (
      ne_eqb before ABSENT c.if-before.false,
      le-ltb before a.arcs (omega arith),
    ) refl
