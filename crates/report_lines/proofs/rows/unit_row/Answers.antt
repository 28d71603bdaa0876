-- Each part past those before it.
use Rattle.report_lines.specs.Pairs.{unit-laid}
use Rattle.report_lines.proofs.rows.unit_row.Goals as goal

pub returns : goal.returns
returns c =
    let a = c.args in
    rw (
      c.close.ensures,
      c.put-2.ensures,
      c.put_word-4.ensures,
      c.put_word-3.ensures,
      c.put_word-2.ensures,
      c.put_word.ensures,
      c.put.ensures,
      c.unit_sum-sum.ensures,
    ) (unit-laid a.unit a.color a.parent a.place a.single a.out.now c.requires.1)
