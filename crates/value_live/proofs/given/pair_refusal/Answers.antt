-- By the tests in order.
use mathlib.Core.Path.{refl}
use borrow.Author.Tests.{le-leb, lt-leb, eq-eqb, ne_eqb}
use Rattle.value_live.proofs.given.pair_refusal.Goals as goal

pub returns-then-units-a : goal.returns-then-units-a
returns-then-units-a c = let a = c.args in rw (le-leb a.units a.a c.if-units-a.true) refl

pub returns-then-units-b : goal.returns-then-units-b
returns-then-units-b c =
    let a = c.args in
    rw (lt-leb a.units a.a c.if-units-a.false, le-leb a.units a.b c.if-units-b.true) refl

pub returns-then-a-b : goal.returns-then-a-b
returns-then-a-b c =
    let a = c.args in
    rw (
      lt-leb a.units a.a c.if-units-a.false,
      lt-leb a.units a.b c.if-units-b.false,
      eq-eqb a.a a.b c.if-a-b.true,
    ) refl

pub returns-then-joined : goal.returns-then-joined
returns-then-joined c =
    let a = c.args in
    rw (
      lt-leb a.units a.a c.if-units-a.false,
      lt-leb a.units a.b c.if-units-b.false,
      ne_eqb a.a a.b c.if-a-b.false,
      c.if-joined.true,
    ) refl

pub returns-else-joined : goal.returns-else-joined
returns-else-joined c =
    let a = c.args in
    rw (
      lt-leb a.units a.a c.if-units-a.false,
      lt-leb a.units a.b c.if-units-b.false,
      ne_eqb a.a a.b c.if-a-b.false,
      c.if-joined.false,
    ) refl
