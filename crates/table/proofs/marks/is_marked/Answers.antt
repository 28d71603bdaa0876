-- The bit read at the place tells.
use Rattle.table.specs.Marks.{marked}
use Rattle.table.proofs.marks.is_marked.Goals as goal

pub returns : goal.returns
unfolding marked
returns c = rw c.byte.ensures
