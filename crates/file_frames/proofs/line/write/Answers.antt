-- Where the line fits, its parts are laid down one after the other.
use Rattle.std.proofs.Common.{sym, arith}
use Rattle.file_frames.specs.FrameRests.{line_over-short, line-laid}
use Rattle.file_frames.proofs.line.write.Goals as goal
use Rattle.file_frames.proofs.line.write.Goals.{then-out-lt3-via-then-out-lt3}
use Rattle.file_frames.proofs.line.write.Goals.{then-out-lt3-via-else-out-lt3+then-out-body}

pub returns-then-out-lt3 : goal.returns-then-out-lt3
returns-then-out-lt3 c =
    let a = c.args in
    elim c.then-out-lt3.branch [
      | then-out-lt3-via-then-out-lt3 w ↦ sym (line_over-short a.body.now a.out.now (omega arith))
      | then-out-lt3-via-else-out-lt3+then-out-body w ↦ sym (line_over-short a.body.now a.out.now (omega arith))
    ]

pub returns : goal.returns
returns c =
    let a = c.args in
    rw (c.put_byte.ensures, c.put_bytes.ensures, c.check_byte.ensures)
    (line-laid a.body.now a.out.now (omega arith))
