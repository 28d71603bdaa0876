-- The wrapping difference brings the sum to 0, and one byte alone does.
use Rattle.std.proofs.Common.{arith}
use Rattle.file_frames.specs.FrameLaws.{check_unique}
use Rattle.file_frames.proofs.check.check_byte.Goals as goal

pub returns : goal.returns
returns c = check_unique c.args.f.now _ (omega arith) (omega arith)
