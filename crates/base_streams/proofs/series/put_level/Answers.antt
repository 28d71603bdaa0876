-- Past the end there is no place to store to, and the list stays.
use mathlib.Core.Path.{sym}
use lib.Seq.{set_out}
use Rattle.base_streams.proofs.series.put_level.Goals as goal

pub returns-else-i-levels : goal.returns-else-i-levels
returns-else-i-levels c = sym (set_out _ _ _ c.if-i-levels.false)
