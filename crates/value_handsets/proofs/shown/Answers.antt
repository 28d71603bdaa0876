-- By whether the state is well formed, and then by what the line's writer tells.
use mathlib.Core.Path.{sym, ◌∙◌}
use Rattle.survey.specs.View.{of}
use Rattle.handset_lines.specs.Lines.{line_needed, line_in}
use Rattle.handset_lines.specs.LineLaws.{line_in_lem, told_malformed, told-refused, told-written}
use Rattle.value_handsets.proofs.shown.Goals as goal

pub returns-then-not-well_formed : goal.returns-then-not-well_formed
returns-then-not-well_formed c =
    let a = c.args in
    let told = told_malformed (line_needed a.service) (of a.survey) (line_in a.service (of a.survey)) a.out.now
    (sym c.well_formed-2.ensures ∙ c.if-not-well_formed.true) in
    record { reply = told.0; lent = told.1 }

pub status_of-requires : goal.status_of-requires
status_of-requires c = sym c.well_formed-2.ensures ∙ c.if-not-well_formed.false

pub returns-then-refused-ne0 : goal.returns-then-refused-ne0
returns-then-refused-ne0 c =
    let a = c.args in
    let well = sym c.well_formed-2.ensures ∙ c.if-not-well_formed.false in
    let told = told-refused (line_needed a.service) (of a.survey) (line_in a.service (of a.survey)) a.out.now
    c.write-refused.result _ well c.write-refused.ensures.number
    (rw (c.status_of.ensures, line_in_lem a.service (of a.survey)) at c.write-refused.ensures.bytes)
    c.if-refused-ne0.true in
    record { reply = told.0; lent = told.1 }

pub returns : goal.returns
returns c =
    let a = c.args in
    let well = sym c.well_formed-2.ensures ∙ c.if-not-well_formed.false in
    let told = told-written (line_needed a.service) (of a.survey) (line_in a.service (of a.survey)) a.out.now
    c.write-refused.result _ well c.write-refused.ensures.number
    (rw (c.status_of.ensures, line_in_lem a.service (of a.survey)) at c.write-refused.ensures.bytes)
    c.if-refused-ne0.false in
    record { reply = rw c.length.ensures told.0; lent = told.1 }
