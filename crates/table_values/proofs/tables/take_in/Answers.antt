-- By the test of the target.
use Rattle.std.proofs.Common.{le-ltb, lt-ltb}
use Rattle.base_lists.specs.Scatter.{takes_in}
use Rattle.table_values.proofs.tables.take_in.Goals as goal

pub returns-then-a-n : goal.returns-then-a-n
unfolding takes_in
returns-then-a-n c = rw (lt-ltb c.args.a c.args.n c.if-a-n.true) (cc)

pub returns-else-a-n : goal.returns-else-a-n
unfolding takes_in
returns-else-a-n c = rw (le-ltb c.args.a c.args.n c.if-a-n.false)
