-- One unit after another.
use mathlib.Core.Path.{sym, ◌∙◌}
use Rattle.small_tables.specs.SmallLaws.{row-turn, row_done}
use borrow.Author.Rules.{rules}
use Rattle.small_tables.proofs.row.Goals as goal

pub loop-b-preserved : goal.loop-b-preserved
loop-b-preserved c = (search rules, row-turn _ _ _ _ _ _ c.loop-b.invariant.1 (search rules) c.taken-x.ensures)

pub returns : goal.returns
returns c = sym (c.loop-b.invariant.1 ∙ row_done _ _ _ _ c.loop-b-test.false)
