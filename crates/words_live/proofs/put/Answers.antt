-- By whether the call was refused.
use Rattle.value_live.specs.View.{answer_of}
use Rattle.words_live.proofs.LayoutLaws.{left-refused, left-made}
use Rattle.words_live.proofs.put.Goals as goal

pub returns-then-number-ne0 : goal.returns-then-number-ne0
returns-then-number-ne0 c =
    let a = c.args in
    let left = left-refused (answer_of a.made) a.words.now c.if-number-ne0.true in
    record { number = left.0; words = left.1.0; live = left.1.1 }

pub returns : goal.returns
returns c =
    let a = c.args in
    let left = left-made (answer_of a.made) a.words.now _ c.if-number-ne0.false c.lay_live.ensures.words
    c.lay_live.ensures.live in
    record { number = left.0; words = left.1.0; live = left.1.1 }
