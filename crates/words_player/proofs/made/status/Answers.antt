-- By the contract of the call.
use Rattle.words_player.specs.OneLaws.{one-status}
use Rattle.words_player.proofs.made.status.Goals as goal

pub returns : goal.returns
returns c =
    let a = c.args in
    one-status a.state.now _ c.status.result _ c.status.ensures.number c.status.ensures.said
