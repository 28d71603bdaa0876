-- By whether the call is refused.
use mathlib.Core.Path.{◌≡◌, refl, sym, ◌∙◌}
use Rattle.spec_machine.specs.State.{State}
use Rattle.spec_machine.specs.Calls.{round_refusal, run_answer}
use Rattle.spec_machine.specs.AnswerLaws.{answered-refused, answered-made}
use Rattle.spec_machine.specs.RunAnswers.{refusal-told, accepted}
use Rattle.survey.specs.View.{of}
use Rattle.survey.proofs.whole.Survey.run.Goals as goal

pub returns-then-refused-ne0 : goal.returns-then-refused-ne0
unfolding run_answer
returns-then-refused-ne0 c =
    let given : State = of c.args.self in
    let told : c.refusal-refused.result ≡ round_refusal (given) =
    refusal-told (given) _ _ c.kept-well.ensures c.refusal-refused.ensures in
    rw (sym (told)) (answered-refused c.refusal-refused.result c.refusal-refused.result _ _ _ refl
    c.if-refused-ne0.true)

pub go-r-requires : goal.go-r-requires
go-r-requires c =
    let given : State = of c.args.self in
    let told : c.refusal-refused.result ≡ round_refusal (given) =
    refusal-told (given) _ _ c.kept-well.ensures c.refusal-refused.ensures in
    (accepted (given) (sym (told) ∙ c.if-refused-ne0.false)).0

pub returns : goal.returns
unfolding run_answer
returns c =
    let given : State = of c.args.self in
    let told : c.refusal-refused.result ≡ round_refusal (given) =
    refusal-told (given) _ _ c.kept-well.ensures c.refusal-refused.ensures in
    let none = sym (told) ∙ c.if-refused-ne0.false in
    rw c.go-r.ensures (answered-made _ _ _ _ none)
