-- By whether the table and the parents pass.
use mathlib.Core.Path.{sym, ◌∙◌}
use Rattle.spec_machine.specs.Load.{planned_load_refusal}
use Rattle.spec_machine.specs.Calls.{planned_load_answer}
use Rattle.spec_machine.specs.AnswerLaws.{answered-refused, answered-made}
use Rattle.survey.specs.View.{of}
use Rattle.survey.proofs.whole.Survey.load_planned.Goals as goal

pub returns-then-refused-ne0 : goal.returns-then-refused-ne0
unfolding planned_load_answer
returns-then-refused-ne0 c =
    let a = c.args in
    answered-refused (planned_load_refusal (record { units = a.units; words = a.table.now; levels = a.levels.now })
    a.parents.now) c.refusal-refused.result (of a.self) _ _ c.refusal-refused.ensures c.if-refused-ne0.true

pub drawn-requires : goal.drawn-requires
drawn-requires c = sym c.refusal-refused.ensures ∙ c.if-refused-ne0.false

pub returns : goal.returns
unfolding planned_load_answer
returns c = rw c.drawn.ensures (answered-made _ _ _ _ (sym c.refusal-refused.ensures ∙ c.if-refused-ne0.false))
