-- By whether the call is refused.
use mathlib.Core.Path.{refl, sym, ap, ◌∙◌}
use Prim.Native.Nat.{ℕ}
use borrow.Author.Tests.{ne_eqb}
use Rattle.spec_machine.specs.State.{State}
use Rattle.spec_machine.specs.RunAnswers.{accepted}
use Rattle.spec_machine.specs.Calls.{run_answer}
use Rattle.words_run.proofs.run.Goals as goal

pub returns-then-refused-ne0 : goal.returns-then-refused-ne0
unfolding run_answer
returns-then-refused-ne0 c =
    rw (sym c.refusal-refused.ensures, ne_eqb c.refusal-refused.result 0 c.if-refused-ne0.true) (record {
      number = refl;
      words = refl;
      made = refl;
    })

pub go-requires : goal.go-requires
go-requires c = (accepted _ (sym c.refusal-refused.ensures ∙ c.if-refused-ne0.false)).0

pub returns : goal.returns
unfolding run_answer
returns c =
    let none = sym c.refusal-refused.ensures ∙ c.if-refused-ne0.false in
    rw none (record {
      number = refl;
      words = sym (ap (λ (p : State × ℕ). p.0) c.go.ensures);
      made = sym (ap (λ (p : State × ℕ). p.1) c.go.ensures);
    })
