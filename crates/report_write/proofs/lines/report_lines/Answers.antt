-- The tests in their order, then the parts.
use mathlib.Core.Path.{◌∙◌}
use Rattle.report_write.specs.ReportWritten.{parts-units, parts-links, parts-short, parts-fit}
use Rattle.report_write.proofs.lines.report_lines.Goals as goal

pub returns-then-units-gt256 : goal.returns-then-units-gt256
returns-then-units-gt256 c =
    let a = c.args in
    parts-units a.units a.links a.rounds a.requests a.ends.now a.label.now a.color.now
    a.parent.now a.place.now a.out.now c.if-units-gt256.true

pub returns-then-links-gt1024 : goal.returns-then-links-gt1024
returns-then-links-gt1024 c =
    let a = c.args in
    parts-links a.units a.links a.rounds a.requests a.ends.now a.label.now a.color.now
    a.parent.now a.place.now a.out.now c.if-units-gt256.false c.if-links-gt1024.true

pub returns-then-out-units : goal.returns-then-out-units
returns-then-out-units c =
    let a = c.args in
    parts-short a.units a.links a.rounds a.requests a.ends.now a.label.now a.color.now
    a.parent.now a.place.now a.out.now c.if-units-gt256.false c.if-links-gt1024.false
    c.if-out-units.true

pub returns : goal.returns
returns c =
    let a = c.args in
    c.all.ensures
    ∙ parts-fit a.units a.links a.rounds a.requests a.ends.now a.label.now a.color.now
    a.parent.now a.place.now a.out.now c.if-units-gt256.false c.if-links-gt1024.false c.if-out-units.false
