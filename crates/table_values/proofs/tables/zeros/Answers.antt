-- Every entry is the one value.
use lib.ListN.{get_or-replicate}
use Rattle.table_values.proofs.tables.zeros.Goals as goal

pub returns : goal.returns
returns c = λ i h. get_or-replicate 512 i 0 0 h
