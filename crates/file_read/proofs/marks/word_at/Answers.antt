-- Two bytes make the number.
use Rattle.std.proofs.Common.{◌≡◌, ◌+◌, arith}
use Rattle.file_read.proofs.marks.word_at.Goals as goal

pub returns : goal.returns
returns c =
    let i = c.args.i in
    let further : i + 2 + 1 ≡ i + 3 = omega arith in
    rw (c.byte-high.ensures, c.byte-low.ensures, further)
