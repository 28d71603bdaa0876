-- By whether the question is refused.
use mathlib.Core.Path.{sym, ◌∙◌}
use Rattle.spec_machine.specs.Calls.{unit_answer, unit_refusal}
use Rattle.spec_machine.specs.AnswerLaws.{answered-refused, answered-made}
use Rattle.value_calls.proofs.questions.unit.Goals as goal

pub returns-then-refused-ne0 : goal.returns-then-refused-ne0
unfolding unit_answer unit_refusal
returns-then-refused-ne0 c =
    answered-refused _ c.question_refusal-refused.result _ _ _ c.question_refusal-refused.ensures c.if-refused-ne0.true

pub returns : goal.returns
unfolding unit_answer unit_refusal
returns c = rw c.unit_reply.ensures (answered-made _ _ _ _ (sym c.question_refusal-refused.ensures
    ∙ c.if-refused-ne0.false))
