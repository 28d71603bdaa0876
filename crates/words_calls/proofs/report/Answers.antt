-- By whether the report is refused.
use mathlib.Core.Path.{◌≡◌, refl, sym, ◌∙◌}
use lib.ListN.{length}
use borrow.Author.Tests.{ne_eqb}
use Rattle.spec_machine.specs.Report.{report}
use Rattle.spec_machine.specs.Calls.{report_refusal, report_answer, reported}
use Rattle.report_write.specs.AskLaws.{report-told, written-refused}
use Rattle.report_write.specs.ReportCalled.{reported-parts}
use Rattle.words_layout.specs.Layout.{state_of}
use Rattle.words_calls.proofs.report.Goals as goal

pub returns-then-refused-ne0 : goal.returns-then-refused-ne0
unfolding report_answer reported
returns-then-refused-ne0 c =
    let told : c.report_refusal-refused.result ≡ report_refusal (state_of c.args.state.now)
    (length c.args.out.now) = report-told (state_of c.args.state.now) _ _ _ c.kept.ensures
    (rw (
      c.clock_at-c.ensures,
      c.table_at-table.ensures,
    ) at c.report_refusal-refused.ensures) in
    let a = c.args in record {
      number = rw (sym (told), ne_eqb c.report_refusal-refused.result 0 c.if-refused-ne0.true) refl;
      bytes = written-refused _ (report (state_of a.state.now)) a.out.now (λ z. c.if-refused-ne0.true (told ∙ z));
    }

pub returns : goal.returns
unfolding report_answer
returns c =
    let told : c.report_refusal-refused.result ≡ report_refusal (state_of c.args.state.now)
    (length c.args.out.now) = report-told (state_of c.args.state.now) _ _ _ c.kept.ensures
    (rw (
      c.clock_at-c.ensures,
      c.table_at-table.ensures,
    ) at c.report_refusal-refused.ensures) in
    let a = c.args in
    let none = sym (told) ∙ c.if-refused-ne0.false in record {
      number = rw none refl;
      bytes = rw (
        c.order_at-order.ensures,
        c.tree_at-tree.ensures,
        c.components_at-components.ensures,
        c.labels_at-labels.ensures,
        c.clock_at-c.ensures,
        c.table_at-table.ensures,
      ) at c.report_lines.ensures
          ∙ reported-parts (state_of a.state.now) a.out.now none;
    }
