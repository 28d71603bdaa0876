-- One store, past the levels that are kept.
use mathlib.Core.Path.{◌≡◌}
use native.Mathlib.Omega.{arith}
use lib.ListN.{length}
use mir.Syntax.{w16}
use mir.ValLaws.{to_z-of_z}
use Rattle.value_live.specs.ChangedLaws.{more-levels}
use borrow.Author.Rules.{rules}
use Rattle.value_live.proofs.changed.longer_levels.Goals as goal

pub returns : goal.returns
returns c =
    let full : length c.args.levels ≡ 1024 = search rules in
    rw (c.put_level.ensures, to_z-of_z w16 c.args.level c.ranges.level)
    (more-levels c.args.levels c.args.m c.args.level (omega (arith, full, c.requires)))
