-- At most 127 when raised by 127.
use Rattle.table_values.specs.TopLaws.{level-within}
use Rattle.table_values.proofs.bounds.levels.Goals as goal

pub returns : goal.returns
returns c = level-within
