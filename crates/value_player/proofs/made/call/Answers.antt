-- By the call's kind.
use mathlib.Core.Path.{◌∙◌}
use Rattle.survey.specs.View.{of}
use Rattle.value_player.specs.KindLaws.{means_round, means_run, means_unit, means_link, means_report}
use Rattle.value_player.specs.KindLaws.{means_status}
use Rattle.std.proofs.Common.{arith}
use Rattle.value_player.proofs.made.call.Goals as goal

pub returns-in-1 : goal.returns-in-1
returns-in-1 c =
    let a = c.args in
    let m = means_round a.kind a.a a.b a.out.now (of a.s) c.in-1.is in
    record {
      answer = c.round.ensures ∙ m.0;
      bytes = m.1;
    }

pub returns-in-2 : goal.returns-in-2
returns-in-2 c =
    let a = c.args in
    let m = means_run a.kind a.a a.b a.out.now (of a.s) c.in-2.is in
    record {
      answer = c.run.ensures ∙ m.0;
      bytes = m.1;
    }

pub returns-in-4 : goal.returns-in-4
returns-in-4 c =
    let a = c.args in
    let m = means_unit a.kind a.a a.b a.out.now (of a.s) c.in-4.is in
    record {
      answer = c.unit.ensures ∙ m.0;
      bytes = m.1;
    }

pub returns-in-5 : goal.returns-in-5
returns-in-5 c =
    let a = c.args in
    let m = means_link a.kind a.a a.b a.out.now (of a.s) c.in-5.is in
    record {
      answer = c.link.ensures ∙ m.0;
      bytes = m.1;
    }

pub returns-in-6 : goal.returns-in-6
returns-in-6 c =
    let a = c.args in
    let m = means_report a.kind a.a a.b a.out.now (of a.s)
    c.in-6.is in
    record {
      answer = c.report_into.ensures.answer ∙ m.0;
      bytes = c.report_into.ensures.bytes ∙ m.1;
    }

pub returns-in_default : goal.returns-in_default
returns-in_default c =
    let a = c.args in
    let m = means_status a.kind a.a a.b a.out.now (of a.s) (λ e. omega (arith, e)) (λ e. omega (arith, e))
    (λ e. omega (arith, e)) (λ e. omega (arith, e)) (λ e. omega (arith, e)) in
    record {
      answer = c.status.ensures ∙ m.0;
      bytes = m.1;
    }
