-- A line a turn.
use Prim.Native.Nat.{◌-◌}
use native.Mathlib.Omega.{arith}
use Rattle.small_sites.specs.SitesLaws.{lines_none, lines_next, lines-all}
use borrow.Author.Rules.{rules}
use Rattle.small_sites.proofs.lines.Goals as goal

pub loop-i-init : goal.loop-i-init
loop-i-init c = (search rules, search rules, search rules, lines_none _)

pub loop-i-preserved : goal.loop-i-preserved
loop-i-preserved c =
    let out = c.args.out.now in (
      search rules,
      search rules,
      search rules,
      rw (c.line_at.ensures, c.loop-i.invariant.3)
          (lines_next c.loop-i.i out (omega (
            arith,
            c.loop-i.invariant.1,
            c.loop-i-test.true,
          ))),
    )

pub returns : goal.returns
returns c = lines-all c.loop-i.i _ _ c.loop-i.invariant.3 (omega (arith, c.loop-i.invariant.0, c.loop-i-test.false))
