-- The words passed are laid down, and the rest is as it was.
use mathlib.Core.Path.{refl, ◌∙◌}
use native.Mathlib.Omega.{arith}
use borrow.Author.Rules.{rules}
use Rattle.base_copies.specs.CopyLaws.{carry_begin, carry_next, carry_end}
use Rattle.base_copies.proofs.carry.Goals as goal

pub loop-i-init : goal.loop-i-init
loop-i-init c =
    let a = c.args in
    (omega arith, refl, carry_begin a.from.now a.words.now a.at a.count a.place c.requires.0)

pub loop-i-preserved : goal.loop-i-preserved
loop-i-preserved c =
    let a = c.args in (
      search rules,
      search rules,
      rw c.loop-i.invariant.2
          (carry_next a.from.now a.words.now a.at a.count a.place c.requires.0 c.loop-i.i
          (search rules)
          c.requires.1),
    )

pub returns : goal.returns
returns c =
    let a = c.args in
    c.loop-i.invariant.2 ∙ carry_end a.from.now a.words.now a.at a.count a.place c.requires.0 c.loop-i.i
    (omega arith)
