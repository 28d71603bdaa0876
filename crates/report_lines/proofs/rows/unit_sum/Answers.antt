-- Part by part.
use Rattle.std.proofs.Common.{refl}
use Rattle.report_lines.specs.Pairs.{unit-sum}
use Rattle.report_lines.proofs.rows.unit_sum.Goals as goal

pub returns : goal.returns
returns c =
    let a = c.args in
    unit-sum a.unit a.color a.parent a.place a.single c.with_word.result c.with_word-named.result
    c.with_word-2.result c.with_word-3.result _
    c.with_word.ensures c.with_word-named.ensures c.with_word-2.ensures c.with_word-3.ensures refl
