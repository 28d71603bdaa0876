-- By what the call by value hands back.
use Rattle.value_live.specs.View.{answer_of}
use Rattle.words_live.proofs.LayoutLaws.{left_by_lem}
use Rattle.words_live.proofs.opened.Goals as goal

pub returns : goal.returns
returns c =
    let left = left_by_lem (answer_of c.opened.result) _ c.args.live.now _ _ c.opened.ensures
    (c.put.ensures.number, (c.put.ensures.words, c.put.ensures.live)) in
    record { number = left.0; words = left.1.0; live = left.1.1 }
