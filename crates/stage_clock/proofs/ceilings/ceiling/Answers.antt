-- An arm for each stage whose ceiling is its own; the stages left are 3, 5 and 10.
use native.Mathlib.Omega.{arith}
use Rattle.base_log2.specs.LgLaws.{lg-least}
use Rattle.stage_clock.proofs.ceilings.ceiling.Goals as goal

pub overflow_add-result-in-7 : goal.overflow_add-result-in-7
overflow_add-result-in-7 c = omega (arith, lg-least c.args.units 8 (omega arith))
