-- Byte by byte.
use mathlib.Core.Path.{refl, sym, ◌∙◌}
use Rattle.ask_arguments.specs.ArgumentLaws.{same-long, same_more, same_ends_lem, same-all}
use borrow.Author.Rules.{rules}
use Rattle.ask_arguments.proofs.names.same.Goals as goal

pub returns-then-word-name : goal.returns-then-word-name
returns-then-word-name c = let a = c.args in sym (same-long a.word.now a.name.now c.if-word-name.true)

pub loop-i-init : goal.loop-i-init
loop-i-init c = (search rules, refl)

pub returns-then-word-i : goal.returns-then-word-i
returns-then-word-i c =
    let a = c.args in
    sym (c.loop-i.invariant.1
    ∙ same_ends_lem a.word.now a.name.now c.loop-i.i (search rules) (search rules) c.if-word-i.true)

pub loop-i-preserved : goal.loop-i-preserved
loop-i-preserved c =
    let a = c.args in (
      search rules,
      c.loop-i.invariant.1
          ∙ same_more a.word.now a.name.now c.loop-i.i (search rules) (search rules) c.if-word-i.false,
    )

pub returns : goal.returns
returns c =
    let a = c.args in
    sym (c.loop-i.invariant.1 ∙ same-all a.word.now a.name.now c.loop-i.i (search rules) (search rules))
