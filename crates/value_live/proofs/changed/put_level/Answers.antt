-- Past the end nothing is stored.
use mathlib.Core.Path.{sym}
use lib.Seq.{set_out}
use Rattle.value_live.proofs.changed.put_level.Goals as goal

pub returns-else-i-levels : goal.returns-else-i-levels
returns-else-i-levels c = sym (set_out c.args.levels.now c.args.i c.args.level c.if-i-levels.false)
