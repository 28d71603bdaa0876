-- lg of at most 2 * 256 - 2 is at most 9.
use native.Mathlib.Omega.{arith}
use Rattle.base_log2.specs.LgLaws.{lg-least}
use Rattle.stage_clock.proofs.ceilings.ranking_ceiling.Goals as goal

pub overflow_add-result : goal.overflow_add-result
overflow_add-result c = omega (arith, lg-least c.saturating_sub.result 9 (omega arith))

pub returns : goal.returns
returns c = rw (c.lg.ensures, c.saturating_sub.ensures)
