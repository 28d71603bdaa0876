-- Each part past those before it.
use Rattle.report_lines.specs.Pairs.{label_laid}
use Rattle.report_lines.proofs.rows.label_row.Goals as goal

pub returns : goal.returns
returns c =
    let a = c.args in
    rw (
      c.close.ensures,
      c.put-2.ensures,
      c.put_word-2.ensures,
      c.put_word.ensures,
      c.put.ensures,
      c.label_sum-sum.ensures,
    ) (label_laid a.position a.label a.lone a.out.now c.requires.1)
