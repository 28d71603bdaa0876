-- Seat by seat.
use Rattle.std.proofs.Common.{◌<◌, ◌≢◌, ◌∙◌, length, arith, rules, below_more, get_or-set_other, get_or-set_same}
use Rattle.words_seat_tests.proofs.flags.Goals as goal

pub loop-i-preserved : goal.loop-i-preserved
loop-i-preserved c = (
  search rules,
  below_more _ _
      (λ k h. let ne : k ≢ c.loop-i.i = omega (arith, h) in rw get_or-set_other (c.loop-i.invariant.1 k h))
      (let lt : c.loop-i.i < length c.loop-i.waits = omega (arith, c.loop-i.invariant.0, c.loop-i-test.true) in
      rw get_or-set_same c.waiting.ensures),
)
