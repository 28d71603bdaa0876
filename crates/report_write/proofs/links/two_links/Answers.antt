-- By the tests in order.
use mathlib.Core.Path.{refl}
use borrow.Author.Tests.{eq-eqb, ne_eqb, lt-ltb, le-ltb}
use Rattle.report_write.proofs.links.two_links.Goals as goal

pub returns-then-not-well : goal.returns-then-not-well
returns-then-not-well c = rw c.if-not-well.true refl

pub returns-then-stage-ne-FINISHED : goal.returns-then-stage-ne-FINISHED
returns-then-stage-ne-FINISHED c =
    let a = c.args in
    rw (c.if-not-well.false, ne_eqb a.stage 11 c.if-stage-ne-FINISHED.true) refl

pub returns-then-links-first : goal.returns-then-links-first
returns-then-links-first c =
    let a = c.args in
    rw (
      c.if-not-well.false,
      eq-eqb a.stage 11 c.if-stage-ne-FINISHED.false,
      le-ltb a.first a.links c.if-links-first.true,
    ) refl

pub returns-then-links-second : goal.returns-then-links-second
returns-then-links-second c =
    let a = c.args in
    rw (
      c.if-not-well.false,
      eq-eqb a.stage 11 c.if-stage-ne-FINISHED.false,
      lt-ltb a.first a.links c.if-links-first.false,
      le-ltb a.second a.links c.if-links-second.true,
    ) refl

pub returns-then-own : goal.returns-then-own
returns-then-own c =
    let a = c.args in
    rw (
      c.if-not-well.false,
      eq-eqb a.stage 11 c.if-stage-ne-FINISHED.false,
      lt-ltb a.first a.links c.if-links-first.false,
      lt-ltb a.second a.links c.if-links-second.false,
      c.if-own.true,
    ) refl

pub returns-else-own : goal.returns-else-own
returns-else-own c =
    let a = c.args in
    rw (
      c.if-not-well.false,
      eq-eqb a.stage 11 c.if-stage-ne-FINISHED.false,
      lt-ltb a.first a.links c.if-links-first.false,
      lt-ltb a.second a.links c.if-links-second.false,
      c.if-own.false,
    ) refl
