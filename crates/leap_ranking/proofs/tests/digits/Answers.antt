-- Of 16 digits the rank leaves as many as are counted.
use Rattle.std.proofs.Common.{◌≡◌, ◌+◌, ◌-◌, sym, ap, ◌∙◌, arith}
use Rattle.base_log2.specs.LgLaws.{lg-by_zeros}
use Rattle.leap_ranking.specs.Ranked.{digits, digits-none}
use Rattle.leap_ranking.proofs.tests.digits.Goals as goal

pub returns-then-rank-eq0-clause-are : goal.returns-then-rank-eq0-clause-are
returns-then-rank-eq0-clause-are c = sym (ap digits c.if-rank-eq0.true ∙ digits-none)

pub returns-else-rank-eq0-clause-are : goal.returns-else-rank-eq0-clause-are
returns-else-rank-eq0-clause-are c =
    let rank = c.args.rank in
    let same : rank + 1 - 1 ≡ rank = omega arith in
    rw same at (lg-by_zeros 16 (rank + 1) (omega (arith, c.if-rank-eq0.false)) (omega arith))
