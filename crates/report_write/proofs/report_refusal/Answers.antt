-- By the three tests in order.
use mathlib.Core.Path.{refl}
use borrow.Author.Tests.{eq-eqb, ne_eqb, lt-ltb, le-ltb}
use Rattle.spec_machine.specs.Report.{report_length}
use Rattle.report_write.proofs.report_refusal.Goals as goal

pub returns-then-not-well : goal.returns-then-not-well
returns-then-not-well c = rw c.if-not-well.true refl

pub returns-then-stage-ne-FINISHED : goal.returns-then-stage-ne-FINISHED
returns-then-stage-ne-FINISHED c =
    rw (
      c.if-not-well.false,
      ne_eqb c.args.stage 11 c.if-stage-ne-FINISHED.true,
    ) refl

pub returns-then-places-units : goal.returns-then-places-units
returns-then-places-units c =
    let a = c.args in
    rw (
      c.if-not-well.false,
      eq-eqb a.stage 11 c.if-stage-ne-FINISHED.false,
      lt-ltb a.places (report_length a.units a.links) c.if-places-units.true,
    ) refl

pub returns : goal.returns
returns c =
    let a = c.args in
    rw (
      c.if-not-well.false,
      eq-eqb a.stage 11 c.if-stage-ne-FINISHED.false,
      le-ltb a.places (report_length a.units a.links) c.if-places-units.false,
    ) refl
