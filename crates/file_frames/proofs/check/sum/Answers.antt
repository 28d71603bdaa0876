-- The sum so far, with what the bytes from the index on add, is the sum of all.
use Rattle.std.proofs.Common.{arith}
use Rattle.file_frames.specs.FrameRests.{sum-later, sum-end}
use Rattle.file_frames.proofs.check.sum.Goals as goal

pub loop-b-preserved : goal.loop-b-preserved
loop-b-preserved c = omega (arith, sum-later c.args.f.now c.loop-b.b-index c.loop-b-test.true)

pub returns : goal.returns
returns c = omega (arith, sum-end c.args.f.now c.loop-b.b-index c.loop-b-test.false)
