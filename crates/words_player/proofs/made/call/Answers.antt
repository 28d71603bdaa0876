-- By the call's kind.
use mathlib.Core.Path.{◌∙◌}
use Rattle.words_player.specs.OneLaws.{means_round, means_run, means_unit, means_link, means_report, means_status}
use Rattle.std.proofs.Common.{rules}
use Rattle.words_player.proofs.made.call.Goals as goal

pub returns-in-1 : goal.returns-in-1
returns-in-1 c =
    let a = c.args in
    let all = means_round a.kind a.a a.out.now a.state.now _ c.in-1.is c.round.ensures in
    record { made = all.0; bytes = all.1 }

pub returns-in-2 : goal.returns-in-2
returns-in-2 c =
    let a = c.args in
    let all = means_run a.kind a.a a.out.now a.state.now _ c.in-2.is c.run.ensures in
    record { made = all.0; bytes = all.1 }

pub returns-in-4 : goal.returns-in-4
returns-in-4 c =
    let a = c.args in
    let all = means_unit a.kind a.a a.out.now a.state.now _ c.in-4.is c.unit.ensures in
    record { made = all.0; bytes = all.1 }

pub returns-in-5 : goal.returns-in-5
returns-in-5 c =
    let a = c.args in
    let all = means_link a.kind a.a a.out.now a.state.now _ c.in-5.is c.link.ensures in
    record { made = all.0; bytes = all.1 }

pub returns-in-6 : goal.returns-in-6
returns-in-6 c =
    let a = c.args in
    let m = means_report a.kind a.a a.out.now a.state.now _ c.in-6.is c.report.ensures.made in
    record {
      made = m.0;
      bytes = c.report.ensures.bytes ∙ m.1;
    }

pub returns-in_default : goal.returns-in_default
returns-in_default c =
    let a = c.args in
    let all = means_status a.kind a.a a.out.now a.state.now _ (search rules) (search rules) (search rules)
    (search rules) (search rules) c.status.ensures in
    record { made = all.0; bytes = all.1 }
