-- By the number of the ring's units.
use Rattle.theory_ears.specs.Present.{sure}
use Rattle.ring_search.specs.Front.{ringed_told}
use borrow.Author.Rules.{rules}
use Rattle.ring_search.proofs.ringed.Goals as goal

pub returns : goal.returns
returns c =
    let a = c.args in
    ringed_told a.units a.links a.ends.now a.i a.j (sure a.marks.now) c.zeros-row.result
    c.found.new.out c.found.result (search (c.zeros-row.type_inv, rules)) c.found.ensures
