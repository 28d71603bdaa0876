-- By the tests in order.
use mathlib.Core.Path.{sym, ◌∙◌}
use Rattle.report_write.specs.AskLaws.{question_malformed, question_early, question_none, question_missing}
use Rattle.words_calls.proofs.questions.refusal.Goals as goal

pub returns-then-not-kept : goal.returns-then-not-kept
returns-then-not-kept c = question_malformed _ _ (sym c.kept.ensures ∙ c.if-not-kept.true)

pub returns-then-clock_at-ne-FINISHED : goal.returns-then-clock_at-ne-FINISHED
returns-then-clock_at-ne-FINISHED c =
    question_early _ _ (sym c.kept.ensures
    ∙ c.if-not-kept.false) (rw c.clock_at.ensures at c.if-clock_at-ne-FINISHED.true)

pub returns-then-exists : goal.returns-then-exists
returns-then-exists c =
    question_none _ _ (sym c.kept.ensures
    ∙ c.if-not-kept.false) (rw c.clock_at.ensures at c.if-clock_at-ne-FINISHED.false) c.if-exists.true

pub returns-else-exists : goal.returns-else-exists
returns-else-exists c =
    question_missing _ _ (sym c.kept.ensures
    ∙ c.if-not-kept.false) (rw c.clock_at.ensures at c.if-clock_at-ne-FINISHED.false) c.if-exists.false
