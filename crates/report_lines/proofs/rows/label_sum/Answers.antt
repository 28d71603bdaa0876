-- Part by part.
use Rattle.std.proofs.Common.{refl}
use Rattle.report_lines.specs.Pairs.{label_sum}
use Rattle.report_lines.proofs.rows.label_sum.Goals as goal

pub returns : goal.returns
returns c =
    let a = c.args in
    label_sum a.position a.label a.lone c.with_word.result c.with_word-2.result _
    c.with_word.ensures c.with_word-2.ensures refl
