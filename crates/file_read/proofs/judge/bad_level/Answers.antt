-- Only 0 and the bytes above 128 are levels of a table.
use Rattle.table_levels.specs.LevelLaws.{byte_zero, byte_bad}
use Rattle.file_read.proofs.judge.bad_level.Goals as goal

pub returns-then-b-eq0 : goal.returns-then-b-eq0
returns-then-b-eq0 c = rw (c.if-b-eq0.true, byte_zero)

pub returns-else-b-eq0 : goal.returns-else-b-eq0
returns-else-b-eq0 c = byte_bad c.args.b c.ranges.b.fits c.if-b-eq0.false
