-- What has moved down so far, and the rest as it was.
use Prim.Native.Nat.{◌-◌}
use lib.IntN.{pos}
use mir.Syntax.{w16}
use mir.ValLaws.{to_z-of_z}
use Rattle.value_live.specs.ChangedLaws.{close-start, close-next, close-end}
use borrow.Author.Rules.{rules}
use Rattle.value_live.proofs.changed.closed_levels.Goals as goal

pub loop-i-init : goal.loop-i-init
loop-i-init c = (
  search rules,
  search rules,
  search rules,
  search rules,
  close-start c.args.at 1 c.args.levels (search rules),
)

pub loop-i-preserved : goal.loop-i-preserved
loop-i-preserved c =
    let a = c.args in (
      search rules,
      search rules,
      search rules,
      search rules,
      rw (
        c.put_level.ensures,
        to_z-of_z w16 c.level_at-later.result (record { sfits = c.level_at-later.type_inv }),
        c.level_at-later.ensures,
        c.loop-i.invariant.4,
      )
          (close-next a.at 1 a.levels c.loop-i.i (pos 0) c.loop-i.invariant.0 (search rules)),
    )

pub returns : goal.returns
returns c =
    let a = c.args in
    rw c.loop-i.invariant.4 (close-end a.at 1 a.levels c.loop-i.i a.count (pos 0) (search rules) (search rules)
    (search rules))
