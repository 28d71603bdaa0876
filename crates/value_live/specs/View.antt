-- The struct and what a call hands back, seen as the records of the definitions.
use Rattle.live_table.specs.Live as table
use Rattle.live_table.specs.LiveCalls as calls
use Rattle.value_live.specs.declared.whole.Live.{Live}
use Rattle.value_live.specs.declared.whole.Answer.{Answer}

abbrev pub of : Live → table.Live
of l = record { units = l.units; links = l.links; ends = l.ends; levels = l.levels; counts = l.counts }

abbrev pub answer_of : Answer → calls.Answer
answer_of a = record { live = of a.live; number = a.number }
