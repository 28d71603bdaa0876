-- Row after row.
use Rattle.small_tables.specs.SmallLaws.{rows_turn, table_done}
use borrow.Author.Rules.{rules}
use Rattle.small_tables.proofs.table.Goals as goal

pub loop-a-preserved : goal.loop-a-preserved
loop-a-preserved c = (search rules, rows_turn _ _ _ _ _ c.loop-a.invariant.1 c.loop-a-test.true c.row-x.ensures)

pub returns : goal.returns
returns c =
    let all = table_done _ _ _ _ _ _ c.min-n.ensures c.none_of-x.ensures c.loop-a.invariant.1
    c.loop-a-test.false in record { words = all.0; count = all.1 }
