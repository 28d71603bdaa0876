-- The marks start blank.
use mathlib.Core.Path.{refl, ◌∙◌}
use Rattle.table.specs.MarkLaws.{found-blank}
use Rattle.table.proofs.repeated.Goals as goal

pub returns : goal.returns
returns c h =
    c.found.ensures ∙ (let a = c.args in found-blank
    a.ordered 8192 refl a.table.now h)
