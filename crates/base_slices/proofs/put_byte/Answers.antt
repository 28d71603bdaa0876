-- Past the end there is no place to store to, and the list stays.
use mathlib.Core.Path.{sym}
use lib.Seq.{set_out}
use Rattle.base_slices.proofs.put_byte.Goals as goal

pub returns-else-i-s : goal.returns-else-i-s
returns-else-i-s c = sym (set_out _ _ _ c.if-i-s.false)
