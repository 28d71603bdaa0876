-- By whether the table passes.
use mathlib.Core.Path.{sym, ◌∙◌}
use Rattle.table.specs.Table.{refusal_as}
use Rattle.table.proofs.FreshReplies.{as_accepted}
use Rattle.spec_machine.specs.AnswerLaws.{answered-refused, answered-made}
use Rattle.survey.specs.View.{of}
use Rattle.survey.proofs.whole.Survey.load_as.Goals as goal

pub returns-then-refused-ne0 : goal.returns-then-refused-ne0
returns-then-refused-ne0 c =
    let a = c.args in
    answered-refused (refusal_as a.fresh a.units a.table.now a.levels.now) c.refusal-refused.result (of a.self) _ _
    c.refusal-refused.ensures c.if-refused-ne0.true

pub loaded-requires : goal.loaded-requires
loaded-requires c =
    let a = c.args in
    as_accepted a.fresh a.units a.table.now a.levels.now (sym c.refusal-refused.ensures
    ∙ c.if-refused-ne0.false)

pub returns : goal.returns
returns c = rw c.loaded.ensures (answered-made _ _ _ _ (sym c.refusal-refused.ensures ∙ c.if-refused-ne0.false))
