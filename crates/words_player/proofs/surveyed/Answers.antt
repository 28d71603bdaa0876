-- By the load, then by the calls.
use mathlib.Core.Path.{refl, sym, ◌∙◌}
use borrow.Author.Tests.{ne_eqb}
use Rattle.spec_machine.specs.Load.{Input}
use Rattle.words_player.specs.PlayLaws.{claimed-from, bytes-from}
use Rattle.words_player.proofs.surveyed.Goals as goal

pub returns-then-number-ne0 : goal.returns-then-number-ne0
returns-then-number-ne0 c =
    record {
      number = c.load-number.ensures.number;
      claim = λ z. absurd (c.if-number-ne0.true z);
      bytes = rw (ne_eqb _ 0 c.if-number-ne0.true) refl;
      refused = λ h. c.load-number.ensures.left.refused (λ z. h (c.load-number.ensures.number ∙ z));
    }

pub returns : goal.returns
returns c =
    let a = c.args in
    let input : Input = record { units = a.units; words = a.table.now; levels = a.levels.now } in
    let n = sym c.if-number-ne0.false ∙ c.load-number.ensures.number in
    record {
      number = n;
      claim = λ _. claimed-from input a.state.now _ _ a.calls.now a.out.now n c.load-number.ensures.left
          c.play.ensures.claim;
      bytes = bytes-from input a.state.now _ a.calls.now a.out.now _ n c.load-number.ensures.left c.play.ensures.bytes;
      refused = λ h. absurd (h refl);
    }
