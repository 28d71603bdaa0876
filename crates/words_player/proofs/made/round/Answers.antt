-- By the contract of the call.
use Rattle.words_player.specs.OneLaws.{one-round}
use Rattle.words_player.proofs.made.round.Goals as goal

pub returns : goal.returns
returns c =
    let a = c.args in
    one-round a.state.now _ c.round.result c.round.ensures.number c.round.ensures.left
