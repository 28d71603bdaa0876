-- Of 16 digits x − 1 leaves as many as lg counts; there are at most 16 leading zeros.
use native.Mathlib.Omega.{arith}
use Rattle.base_log2.specs.LgLaws.{lg-small, lg-by_zeros}
use Rattle.base_log2.proofs.lg.Goals as goal

pub returns-then-x-le1 : goal.returns-then-x-le1
returns-then-x-le1 c = lg-small c.args.x c.if-x-le1.true

pub returns-else-x-le1 : goal.returns-else-x-le1
returns-else-x-le1 c = lg-by_zeros 16 c.args.x c.if-x-le1.false (omega arith)
