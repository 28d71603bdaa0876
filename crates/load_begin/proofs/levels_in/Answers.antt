-- The levels passed are laid down, and the rest is as it was.
use mathlib.Core.Path.{◌≡◌, refl, ◌∙◌}
use Prim.Native.Nat.{◌-◌}
use native.Mathlib.Omega.{arith}
use lib.ListN.{length, get_or}
use lib.IntN.{pos}
use mir.Syntax.{w16}
use mir.ValLaws.{to_z-of_z}
use lib.Seq.{take-length}
use borrow.Author.Rules.{rules}
use Rattle.spec_machine.specs.LoadLaws.{copy_one}
use Rattle.load_begin.proofs.levels_in.Goals as goal

pub loop-i-init : goal.loop-i-init
loop-i-init c = (omega arith, refl, refl)

pub loop-i-preserved : goal.loop-i-preserved
loop-i-preserved c =
    let a = c.args in
    let z = get_or a.levels.now c.loop-i.i (pos 0) in (
      search rules,
      search rules,
      rw (
        to_z-of_z w16 z (record { sfits = c.level-1.given }),
        c.loop-i.invariant.2,
      ) (copy_one a.levels.now a.heard.now c.loop-i.i (pos 0) (search rules)
          c.requires),
    )

pub returns : goal.returns
returns c =
    let e : c.loop-i.i ≡ length c.args.levels.now = omega arith in
    c.loop-i.invariant.2 ∙ rw (e, take-length c.args.levels.now) refl
