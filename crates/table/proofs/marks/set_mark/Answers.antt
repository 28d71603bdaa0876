-- The byte read, with one bit more, stored where it stood.
use Rattle.table.specs.Marks.{mark}
use Rattle.table.proofs.marks.set_mark.Goals as goal

pub returns : goal.returns
unfolding mark
returns c = cc
