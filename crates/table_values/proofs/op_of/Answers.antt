-- By the flag.
use Rattle.table_values.proofs.op_of.Goals as goal

pub returns-then-greatest : goal.returns-then-greatest
returns-then-greatest c = rw c.if-greatest.true c.max.ensures

pub returns-else-greatest : goal.returns-else-greatest
returns-else-greatest c = rw c.if-greatest.false c.min.ensures
