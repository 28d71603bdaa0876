-- The sign and the size.
use mathlib.Core.Path.{refl, ◌∙◌}
use mir.Syntax.{w16}
use mir.ValLaws.{to_z-of_z}
use Rattle.ask_arguments.specs.Arguments.{level_in}
use Rattle.ask_arguments.proofs.level.Goals as goal

pub returns : goal.returns
unfolding level_in
returns c =
    to_z-of_z w16 c.signed.result (record { sfits = c.signed.type_inv })
    ∙ (c.signed.ensures ∙ rw (c.byte-negative.ensures, c.near.ensures.0, c.size_in.ensures) refl)
