-- One call after the other; what is still to be played makes the whole.
use mathlib.Core.Path.{refl, ◌∙◌}
use Prim.Native.Nat.{◌+◌, ◌*◌, ◌-◌}
use native.Mathlib.Omega.{arith}
use lib.ListN.{drop}
use borrow.Author.Rules.{rules}
use Rattle.survey.specs.View.{of, answer_of}
use Rattle.value_player.specs.WordSteps.{next-call, call-made, last-call}
use Rattle.value_player.proofs.play.Goals as goal

pub loop-i-init : goal.loop-i-init
loop-i-init c = (c.well_formed.1.0.1, omega arith, refl, refl, refl)

pub loop-i-preserved : goal.loop-i-preserved
loop-i-preserved c =
    let a = c.args in
    let next = next-call a.calls.now c.loop-i.i (of c.loop-i.s) c.loop-i.replies c.loop-i.out
    (omega (arith, c.loop-i-test.true)) in
    let made =
    call-made (drop (3 * (c.loop-i.i + 1)) a.calls.now) c.loop-i.i _ _ _ (of c.loop-i.s) c.loop-i.replies c.loop-i.out _
    _ _
    (answer_of c.call-answer.result) _ _ c.word-kind.ensures c.word-a.ensures c.word-b.ensures
    c.call-answer.ensures.answer c.store.ensures c.call-answer.ensures.bytes in
    (c.loop-i.invariant.0, search rules, search rules, search rules, c.loop-i.invariant.4 ∙ next ∙ made)

pub returns : goal.returns
returns c =
    let a = c.args in
    let e = c.loop-i.invariant.4
    ∙ last-call a.calls.now c.loop-i.i (of c.loop-i.s) c.loop-i.replies c.loop-i.out (search rules) in
    rw e (record {
      state = refl;
      answers = refl;
      bytes = refl;
    })
