-- By the contract of the call.
use Rattle.words_player.specs.OneLaws.{one_link}
use Rattle.words_player.proofs.made.link.Goals as goal

pub returns : goal.returns
returns c =
    let a = c.args in
    one_link a.state.now _ c.link.result _ a.position c.link.ensures.number c.link.ensures.said
