-- Of two or more units the search by marks is exact, from blank marks.
use mathlib.Core.Path.{◌∙◌}
use borrow.Author.Rules.{rules}
use Rattle.table.specs.SeenLaws.{blank_unlinked}
use Rattle.table.proofs.unlinked.Goals as goal

pub returns : goal.returns
returns c =
    let a = c.args in
    c.some_blank.ensures ∙ (rw c.mark_ends.ensures
    (blank_unlinked a.units 256 a.table.now c.requires (search rules)))
