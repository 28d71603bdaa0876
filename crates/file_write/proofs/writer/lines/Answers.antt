-- The three parts, each over the front of what is left.
use Rattle.file_write.specs.WriteLaws.{file-laid}
use Rattle.file_write.proofs.writer.lines.Goals as goal

pub returns : goal.returns
returns c =
    rw (c.one_number-2.ensures, c.link_lines.ensures, c.one_number.ensures)
    (file-laid c.args.units c.args.words.now c.args.levels.now c.args.out.now
    c.requires.0.one c.requires.1)
