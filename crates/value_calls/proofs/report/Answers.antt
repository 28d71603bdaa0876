-- By whether the report is refused.
use mathlib.Core.Path.{◌≡◌, sym, ◌∙◌}
use lib.ListN.{length}
use Rattle.spec_machine.specs.Report.{report}
use Rattle.spec_machine.specs.Calls.{report_refusal, report_answer, reported}
use Rattle.spec_machine.specs.AnswerLaws.{answered-refused, answered-made}
use Rattle.survey.specs.View.{of}
use Rattle.report_write.specs.AskLaws.{report-told, written-refused}
use Rattle.report_write.specs.ReportCalled.{reported-parts}
use Rattle.value_calls.proofs.report.Goals as goal

pub returns-then-refused-ne0 : goal.returns-then-refused-ne0
unfolding report_answer reported
returns-then-refused-ne0 c =
    let told : c.report_refusal-refused.result
    ≡ report_refusal (of c.args.survey) (length c.args.out.now) =
    report-told (of c.args.survey) _ _ _ c.well_formed-2.ensures
    c.report_refusal-refused.ensures in
    let a = c.args in
    record {
      reply = answered-refused _ c.report_refusal-refused.result (of a.survey) _ _ (told) c.if-refused-ne0.true;
      lent = written-refused _ (report (of a.survey)) a.out.now (λ z. c.if-refused-ne0.true (told ∙ z));
    }

pub returns : goal.returns
unfolding report_answer
returns c =
    let told : c.report_refusal-refused.result
    ≡ report_refusal (of c.args.survey) (length c.args.out.now) =
    report-told (of c.args.survey) _ _ _ c.well_formed-2.ensures
    c.report_refusal-refused.ensures in
    let s = c.args in
    let none = sym (told) ∙ c.if-refused-ne0.false in record {
      reply = answered-made _ _ _ _ none;
      lent = c.report_lines.ensures
          ∙ reported-parts (of s.survey) s.out.now none;
    }
