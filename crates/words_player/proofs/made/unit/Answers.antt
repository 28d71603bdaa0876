-- By the contract of the call.
use Rattle.words_player.specs.OneLaws.{one_unit}
use Rattle.words_player.proofs.made.unit.Goals as goal

pub returns : goal.returns
returns c =
    let a = c.args in
    one_unit a.state.now _ c.unit.result _ a.unit c.unit.ensures.number c.unit.ensures.said
