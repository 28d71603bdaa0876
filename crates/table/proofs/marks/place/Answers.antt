-- By which way the pair is read.
use Rattle.table.proofs.marks.place.Goals as goal

-- src/marks.rt:17:1
pub returns-then-ordered : goal.returns-then-ordered
returns-then-ordered c = rw c.if-ordered.true

-- src/marks.rt:17:1
pub returns-else-ordered : goal.returns-else-ordered
returns-else-ordered c = rw c.if-ordered.false c.pair_at.ensures
