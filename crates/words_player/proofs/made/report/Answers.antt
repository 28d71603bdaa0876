-- By the contract of the call.
use Rattle.words_player.specs.OneLaws.{one-report}
use Rattle.words_player.proofs.made.report.Goals as goal

pub returns : goal.returns
returns c =
    let a = c.args in
    record {
      made = one-report a.state.now a.out.now c.report.result _ c.report.ensures.number c.report.ensures.bytes;
      bytes = c.report.ensures.bytes;
    }
