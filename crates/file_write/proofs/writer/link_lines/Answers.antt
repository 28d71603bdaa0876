-- The lines of the links passed are laid down, and the rest is as it was.
use mathlib.Core.Path.{◌≡◌, refl, ap, ◌∙◌}
use mathlib.Core.List.{[], List, ◌++◌}
use Prim.Native.Nat.{ℕ, ◌-◌}
use native.Mathlib.Omega.{arith}
use lib.ListN.{get_or}
use lib.IntN.{pos}
use mir.Syntax.{w16}
use mir.ValLaws.{to_z-of_z}
use Rattle.table_levels.specs.Level.{level_byte}
use Rattle.table.specs.Table.{link_count}
use Rattle.file_spec.specs.File.{link_lines}
use Rattle.file_write.specs.WriteLaws.{lines_next, link_lines-all}
use borrow.Author.Rules.{rules}
use Rattle.file_write.proofs.writer.link_lines.Goals as goal

start : (out : List ℕ) → out ≡ link_lines [] [] ++ out
unfolding link_lines
start out = refl

pub loop-j-init : goal.loop-j-init
loop-j-init c = (omega arith, refl, start c.args.out.now)

pub loop-j-preserved : goal.loop-j-preserved
loop-j-preserved c =
    let a = c.args in
    let z = get_or a.levels.now c.loop-j.j (pos 0) in
    let p = c.requires in
    let byte = c.byte_of-byte.ensures
    ∙ ap level_byte (to_z-of_z w16 z (record { sfits = c.level-1.given })) in (
      omega (arith, p.0.one, c.loop-j-test.true),
      search rules,
      rw (
        c.two_numbers_and_byte.ensures,
        c.word-a.ensures,
        c.word-b.ensures,
        byte,
        c.loop-j.invariant.2,
      )
          (lines_next a.words.now a.levels.now a.out.now c.loop-j.j p.0.one
          (omega (arith, p.0.one, c.loop-j-test.true)) (omega (arith, p.1))),
    )

pub returns : goal.returns
returns c =
    let a = c.args in
    let one = c.requires.0.one in
    let e : c.loop-j.j ≡ link_count a.words.now = omega (arith, one, c.loop-j.invariant.0, c.loop-j-test.false) in
    c.loop-j.invariant.2 ∙ rw (e, link_lines-all a.words.now a.levels.now one)
