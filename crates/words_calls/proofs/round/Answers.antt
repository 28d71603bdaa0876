-- The words by the state.
use Rattle.words_known.proofs.LeftLaws.{left-round}
use Rattle.words_calls.proofs.round.Goals as goal

pub returns : goal.returns
returns c =
    let a = c.args in
    record {
      number = c.round-number.ensures.number;
      left = left-round a.state.now _ c.state.ensures c.state-2.ensures c.round-number.ensures.words;
    }
