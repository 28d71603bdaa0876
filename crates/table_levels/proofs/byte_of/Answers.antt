-- The low byte of the level's word.
use mir.Syntax.{w16}
use mir.ValLaws.{to_z-of_z}
use Rattle.table_levels.proofs.Bits.{word-byte}
use Rattle.table_levels.proofs.byte_of.Goals as goal

pub returns : goal.returns
returns c =
    let z = c.args.level in
    rw (c.word_of.ensures, to_z-of_z w16 z c.ranges.level) (word-byte z c.ranges.level.sfits)
