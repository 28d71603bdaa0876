-- Link by link, from the values as they were.
use Prim.Native.Nat.{◌+◌, ◌*◌}
use native.Mathlib.Omega.{arith}
use Rattle.spec_rules.specs.ComponentsLaws.{heard-none, heard-more}
use Rattle.stage01_components.specs.Near.{hearer}
use Rattle.stage01_components.proofs.heard.Goals as goal

pub loop-j-init : goal.loop-j-init
loop-j-init c = heard-none c.args.n c.args.ends.now c.args.value

pub hear-requires : goal.hear-requires
hear-requires c =
    let a = c.args in
    let one = c.requires.1.1 (2 * c.loop-j.j) (omega (arith, c.loop-j-test.true)) in
    let two = c.requires.1.1 (2 * c.loop-j.j + 1) (omega (arith, c.loop-j-test.true)) in (
      hearer a.n c.loop-j.j a.ends.now a.value c.loop-j.new _ one (omega (arith, one, c.requires.0))
          c.loop-j.invariant,
      hearer a.n c.loop-j.j a.ends.now a.value c.loop-j.new _ two (omega (arith, two, c.requires.0))
          c.loop-j.invariant,
    )

pub loop-j-preserved : goal.loop-j-preserved
loop-j-preserved c =
    heard-more c.args.n c.loop-j.j c.args.ends.now c.args.value _ _ c.loop-j.invariant c.hear.ensures
