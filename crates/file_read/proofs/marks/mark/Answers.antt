-- The table has the mark of each character.
use Rattle.std.proofs.Common.{rules}
use Rattle.file_read.proofs.marks.mark.Goals as goal

pub returns : goal.returns
returns c = c.requires.1 c.args.c (search rules)
