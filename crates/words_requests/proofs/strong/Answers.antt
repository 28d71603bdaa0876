-- The reply of `one_way`, told word by word.
use Rattle.words_requests.specs.NumbersSaid.{strong-said}
use Rattle.words_requests.proofs.strong.Goals as goal

pub returns-in-Refused : goal.returns-in-Refused
returns-in-Refused c =
    let a = c.args in let all = strong-said a.units a.links.now a.numbers.now a.passes.now c.strong-told.result _ _
    c.in-Refused.is c.strong-told.ensures.reply c.strong-told.ensures.lent c.strong-told.ensures.number in record
    { number = all.0; lent = all.1.0; passes = all.1.1 }

pub returns-in-Passes : goal.returns-in-Passes
returns-in-Passes c =
    let a = c.args in let all = strong-said a.units a.links.now a.numbers.now a.passes.now c.strong-told.result _ _
    c.in-Passes.is c.strong-told.ensures.reply c.strong-told.ensures.lent c.strong-told.ensures.number in record
    { number = all.0; lent = all.1.0; passes = all.1.1 }
