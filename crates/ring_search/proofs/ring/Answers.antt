-- What was found, laid at the front of the slice.
use Rattle.theory_ears.specs.Present.{sure}
use Rattle.ring_search.specs.Front.{over-past, ring-front}
use borrow.Author.Rules.{rules}
use Rattle.ring_search.proofs.ring.Goals as goal

pub returns : goal.returns
returns c =
    let a = c.args in record {
      told = ring-front (sure a.marks.now) a.units a.links a.ends.now a.i a.j c.zeros-row.result
          c.found-count.new.out c.found-count.result (search (c.zeros-row.type_inv, rules)) c.found-count.ensures
          a.out.now _ c.lay_first.ensures;
      past = over-past c.found-count.result c.found-count.new.out a.out.now _ c.lay_first.ensures;
    }
