-- The number that has these bits.
use Rattle.std.proofs.Common.{◌∙◌}
use mir.Syntax.{w16}
use mir.ValLaws.{to_z-of_z}
use Rattle.table_levels.proofs.Bits.{signed-word}
use Rattle.table_levels.proofs.of_word.Goals as goal

pub returns : goal.returns
returns c =
    rw (to_z-of_z w16 c.cast_signed.result (record { sfits = c.cast_signed.type_inv }))
    (c.cast_signed.ensures ∙ signed-word c.args.w)
