-- The machine reads the level back from its bits; one bound after the other.
use mathlib.Core.Path.{◌≡◌, sym, ap, ◌∙◌}
use lib.IntN.{ℤ}
use lib.Signed.{le_z}
use mir.Syntax.{w16}
use mir.Val.{to_z, of_z}
use mir.ValLaws.{to_z-of_z}
use Rattle.table_levels.specs.Level.{LOWEST, HIGHEST}
use Rattle.table_levels.specs.LevelLaws.{range-low, range-high}
use Rattle.table_levels.proofs.in_range.Goals as goal

pub returns-then-level-ge-LOWEST : goal.returns-then-level-ge-LOWEST
returns-then-level-ge-LOWEST c =
    let read : to_z w16 (of_z w16 c.args.level) ≡ c.args.level = to_z-of_z w16 c.args.level c.ranges.level in
    ap (λ (z : ℤ). le_z z HIGHEST) (read)
    ∙ sym (range-high c.args.level (ap (le_z LOWEST) (sym (read)) ∙ c.if-level-ge-LOWEST.true))

pub returns-else-level-ge-LOWEST : goal.returns-else-level-ge-LOWEST
returns-else-level-ge-LOWEST c =
    let read : to_z w16 (of_z w16 c.args.level) ≡ c.args.level = to_z-of_z w16 c.args.level c.ranges.level in
    c.if-level-ge-LOWEST.false
    ∙ sym (range-low c.args.level (ap (le_z LOWEST) (sym (read)) ∙ c.if-level-ge-LOWEST.false))
