-- By whether the call is refused.
use mathlib.Core.Path.{◌≡◌, refl, sym, ap, ◌∙◌}
use Rattle.spec_machine.specs.State.{State}
use Rattle.spec_machine.specs.Calls.{round_refusal, round_answer}
use Rattle.spec_machine.specs.AnswerLaws.{answered-refused, answered-made}
use Rattle.spec_machine.specs.RunAnswers.{refusal-told, accepted}
use Rattle.spec_machine.specs.Going.{ran-one}
use Rattle.survey.specs.View.{of}
use Rattle.survey.proofs.whole.Survey.round.Goals as goal

pub returns-then-refused-ne0 : goal.returns-then-refused-ne0
unfolding round_answer
returns-then-refused-ne0 c =
    let given : State = of c.args.self in
    let told : c.refusal-refused.result ≡ round_refusal (given) =
    refusal-told (given) _ _ c.well_formed-2.ensures c.refusal-refused.ensures in
    rw (sym (told)) (answered-refused c.refusal-refused.result c.refusal-refused.result _ _ _ refl
    c.if-refused-ne0.true)

pub go-r-requires : goal.go-r-requires
go-r-requires c =
    let given : State = of c.args.self in
    let told : c.refusal-refused.result ≡ round_refusal (given) =
    refusal-told (given) _ _ c.well_formed-2.ensures c.refusal-refused.ensures in
    (accepted (given) (sym (told) ∙ c.if-refused-ne0.false)).0

pub returns : goal.returns
unfolding round_answer
returns c =
    let given : State = of c.args.self in
    let told : c.refusal-refused.result ≡ round_refusal (given) =
    refusal-told (given) _ _ c.well_formed-2.ensures c.refusal-refused.ensures in
    let none = sym (told) ∙ c.if-refused-ne0.false in
    let one = sym (ran-one (given) (accepted (given) none).1) ∙ ap (λ p. p.0) c.go-r.ensures in
    rw one (answered-made _ _ _ _ none)
