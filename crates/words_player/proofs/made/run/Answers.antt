-- By the contract of the call.
use Rattle.words_player.specs.OneLaws.{one-run}
use Rattle.words_player.proofs.made.run.Goals as goal

pub returns : goal.returns
returns c =
    let a = c.args in
    one-run a.state.now _ c.run.result a.budget 0 _ c.run.ensures.number c.run.ensures.left
    c.run.ensures.made
