-- By the three tests in order.
use mathlib.Core.Path.{sym, ◌∙◌}
use Rattle.survey.specs.View.{of}
use Rattle.report_write.specs.AskLaws.{question_malformed, question_early, question_none, question_missing}
use Rattle.value_calls.proofs.questions.question_refusal.Goals as goal

pub returns-then-not-well_formed : goal.returns-then-not-well_formed
returns-then-not-well_formed c = question_malformed (of c.args.s) _ (sym c.well_formed-2.ensures
    ∙ c.if-not-well_formed.true)

pub returns-then-s-ne-FINISHED : goal.returns-then-s-ne-FINISHED
returns-then-s-ne-FINISHED c =
    question_early (of c.args.s) _ (sym c.well_formed-2.ensures
    ∙ c.if-not-well_formed.false) c.if-s-ne-FINISHED.true

pub returns-then-exists : goal.returns-then-exists
returns-then-exists c =
    question_none (of c.args.s) _ (sym c.well_formed-2.ensures
    ∙ c.if-not-well_formed.false) c.if-s-ne-FINISHED.false c.if-exists.true

pub returns-else-exists : goal.returns-else-exists
returns-else-exists c =
    question_missing (of c.args.s) _ (sym c.well_formed-2.ensures
    ∙ c.if-not-well_formed.false) c.if-s-ne-FINISHED.false c.if-exists.false
