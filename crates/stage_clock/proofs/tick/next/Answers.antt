-- Each field by its own choice; a sum that no word holds is past the limit.
use Rattle.std.proofs.Common.{◌≡◌, ◌+◌, min, arith}
use Rattle.spec_machine.specs.Step.{next_clock}
use Rattle.stage_clock.proofs.tick.next.Goals as goal

pub returns : goal.returns
unfolding next_clock
returns c =
    let a = c.args in
    let most : c.min-2.result ≡ min (a.c.requests + a.requests) 8158 = omega (
      arith,
      c.min-2.ensures,
      c.saturating_add.ensures,
    ) in
    rw (c.choose.ensures, c.choose-2.ensures, c.min.ensures, most)
