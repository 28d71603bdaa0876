-- By whether the question is refused.
use mathlib.Core.Path.{sym, ◌∙◌}
use Rattle.spec_machine.specs.Calls.{link_answer, link_refusal}
use Rattle.spec_machine.specs.AnswerLaws.{answered-refused, answered-made}
use Rattle.value_calls.proofs.questions.link.Goals as goal

pub returns-then-refused-ne0 : goal.returns-then-refused-ne0
unfolding link_answer link_refusal
returns-then-refused-ne0 c =
    answered-refused _ c.question_refusal-refused.result _ _ _ c.question_refusal-refused.ensures c.if-refused-ne0.true

pub returns : goal.returns
unfolding link_answer link_refusal
returns c = rw c.link_reply.ensures (answered-made _ _ _ _ (sym c.question_refusal-refused.ensures
    ∙ c.if-refused-ne0.false))
