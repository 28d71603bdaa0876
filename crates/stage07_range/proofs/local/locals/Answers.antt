-- Link by link, from the places.
use borrow.Author.Rules.{rules}
use mathlib.Core.Bool.{true, false}
use Prim.Native.Nat.{◌+◌, ◌*◌}
use native.Mathlib.Nat.{le_antisymm}
use native.Mathlib.Omega.{arith}
use Rattle.spec_rules.specs.RangeLaws.{local-none, local-more}
use Rattle.stage07_range.proofs.local.locals.Goals as goal

pub loop-j-init : goal.loop-j-init
loop-j-init c =
    let a = c.args in (
      search rules,
      local-none false a.ends.now a.parent.now a.pre.now,
      local-none true a.ends.now a.parent.now a.pre.now,
    )

pub hear_off-requires : goal.hear_off-requires
hear_off-requires c =
    let one = c.requires.1.1 (2 * c.loop-j.j) (omega (arith, c.loop-j-test.true)) in
    let two = c.requires.1.1 (2 * c.loop-j.j + 1) (omega (arith, c.loop-j-test.true)) in
    (omega (arith, one, c.requires.0), omega (arith, two, c.requires.0))

pub loop-j-preserved : goal.loop-j-preserved
loop-j-preserved c =
    let a = c.args in (
      search rules,
      local-more false a.ends.now a.parent.now a.pre.now c.loop-j.j _ _ c.loop-j.invariant.1
          c.hear_off.ensures.low,
      local-more true a.ends.now a.parent.now a.pre.now c.loop-j.j _ _ c.loop-j.invariant.2
          c.hear_off.ensures.high,
    )

pub returns : goal.returns
returns c =
    let ended = le_antisymm c.loop-j.invariant.0 c.loop-j-test.false in
    record {
      low = rw ended at c.loop-j.invariant.1;
      high = rw ended at c.loop-j.invariant.2;
    }
