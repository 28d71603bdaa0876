-- The number that has these bits.
use Rattle.std.proofs.Common.{◌∙◌}
use mir.Syntax.{w8, w16}
use mir.ValLaws.{to_z-of_z}
use Rattle.table_levels.proofs.Bits.{signed-byte}
use Rattle.table_levels.proofs.of_byte.Goals as goal

pub returns : goal.returns
returns c =
    rw (
      to_z-of_z w16 c.from.result (record { sfits = c.from.type_inv }),
      c.from.ensures,
      to_z-of_z w8 c.cast_signed.result (record { sfits = c.cast_signed.type_inv }),
    ) (c.cast_signed.ensures ∙ signed-byte c.args.b)
