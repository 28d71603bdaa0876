-- Seat by seat.
use Rattle.std.proofs.Common.{below_more, arith}
use Rattle.words_known.proofs.seats.Goals as goal

pub loop-i-init : goal.loop-i-init
loop-i-init c = λ k h. absurd (omega (arith, h))

pub loop-i-preserved : goal.loop-i-preserved
loop-i-preserved c = below_more _ _ c.loop-i.invariant c.state.ensures

pub returns : goal.returns
returns c =
    record {
      eight = c.eight-arg-1.given;
      each = λ i h. c.loop-i.invariant i (omega (arith, h, c.loop-i-test.false));
    }
