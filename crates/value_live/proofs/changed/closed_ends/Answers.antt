-- What has moved down so far, and the rest as it was.
use Prim.Native.Nat.{◌-◌}
use Rattle.value_live.specs.ChangedLaws.{close-start, close-next, close-end}
use borrow.Author.Rules.{rules}
use Rattle.value_live.proofs.changed.closed_ends.Goals as goal

pub loop-i-init : goal.loop-i-init
loop-i-init c = (
  search rules,
  search rules,
  search rules,
  search rules,
  close-start c.args.at 2 c.args.ends (search rules),
)

pub loop-i-preserved : goal.loop-i-preserved
loop-i-preserved c =
    let a = c.args in (
      search rules,
      search rules,
      search rules,
      search rules,
      rw (c.put.ensures, c.word-later.ensures, c.loop-i.invariant.4)
          (close-next a.at 2 a.ends c.loop-i.i 0 c.loop-i.invariant.0 (search rules)),
    )

pub returns : goal.returns
returns c =
    let a = c.args in
    rw c.loop-i.invariant.4 (close-end a.at 2 a.ends c.loop-i.i a.count 0 (search rules) (search rules)
    (search rules))
