-- A stage before the first counts as the first.
use Rattle.std.proofs.Common.{◌≡◌, ◌-◌, max, arith}
use Rattle.stage_clock.proofs.ceilings.stage_ceiling.Goals as goal

pub returns-else-stage-gt10 : goal.returns-else-stage-gt10
returns-else-stage-gt10 c =
    let from_first : max c.args.stage 1 - 1 ≡ c.args.stage - 1 = omega arith in
    rw (c.ceiling.ensures, c.min.ensures, c.max.ensures, from_first)
