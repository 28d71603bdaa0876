-- By what a status says, and then by what the line's writer tells.
use mathlib.Core.Path.{◌≡◌, sym, ap, ◌∙◌}
use Rattle.words_layout.specs.Layout.{state_of}
use Rattle.handset_lines.specs.Lines.{status_of, line_needed, line_in}
use Rattle.handset_lines.specs.LineLaws.{line_in_lem}
use Rattle.words_handsets.specs.Reply.{record_of, status-kept, status_record, told-status, told_line}
use Rattle.words_handsets.proofs.shown.Goals as goal

pub returns-then-refused-ne0 : goal.returns-then-refused-ne0
returns-then-refused-ne0 c =
    let a = c.args in
    let s = state_of a.state.now in let all =
    told-status s (line_needed a.service) (line_in a.service s) a.out.now c.status-refused.result
    c.status-refused.ensures.number
    c.if-refused-ne0.true in record { number = all.0; bytes = all.1 }

pub returns : goal.returns
returns c =
    let a = c.args in
    let s = state_of a.state.now in
    let well = status-kept s (sym c.status-refused.ensures.number ∙ c.if-refused-ne0.false) in
    let same : c.record_of.result ≡ status_of s =
    c.record_of.ensures ∙ (ap record_of c.status-refused.ensures.said ∙ status_record s _ well) in let all =
    told_line s (line_needed a.service) (line_in a.service s) a.out.now well c.write.result _
    c.write.ensures.number (rw (same, line_in_lem a.service s) at c.write.ensures.bytes) in
    record { number = all.0; bytes = all.1 }
