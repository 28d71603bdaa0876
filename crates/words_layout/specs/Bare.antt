-- A table of links without its levels.
use Rattle.spec_state.specs.declared.groups.Table.{Table}
use Rattle.words_layout.specs.declared.take.BareTable.{BareTable}

abbrev pub bare_of : Table → BareTable
bare_of t = record { units = t.units; links = t.links; ends = t.ends }
