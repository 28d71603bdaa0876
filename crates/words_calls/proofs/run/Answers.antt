-- The words by the state.
use Rattle.words_known.proofs.LeftLaws.{left-run}
use Rattle.words_calls.proofs.run.Goals as goal

pub returns : goal.returns
returns c =
    let a = c.args in record {
      number = c.run-number.ensures.number;
      left = left-run a.state.now _ c.state.ensures c.state-2.ensures a.budget c.run-number.ensures.words;
      made = c.run-number.ensures.made;
    }
