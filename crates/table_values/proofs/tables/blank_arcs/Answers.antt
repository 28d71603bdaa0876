-- Every entry is the one value.
use lib.ListN.{get_or-replicate}
use Rattle.table_values.proofs.tables.blank_arcs.Goals as goal

pub returns : goal.returns
returns c = λ i h. get_or-replicate 512 i 65535 0 h
