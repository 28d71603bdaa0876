-- The bits of the level.
use mir.Syntax.{w16}
use mir.ValLaws.{to_z-of_z}
use Rattle.table_levels.proofs.Bits.{word-bits}
use Rattle.table_levels.proofs.word_of.Goals as goal

pub returns : goal.returns
returns c =
    let z = c.args.level in
    rw (c.cast_unsigned.ensures, to_z-of_z w16 z c.ranges.level) (word-bits z c.ranges.level.sfits)
