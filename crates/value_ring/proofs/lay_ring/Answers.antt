-- By what is told of the site where every link counts.
use Rattle.value_ring.specs.ShownRightProof.{ring_laid}
use Rattle.value_ring.proofs.lay_ring.Goals as goal

pub returns : goal.returns
returns c =
    let a = c.args in record {
      laid = ring_laid a.units a.links a.ends.now a.first a.second a.out.now c.unmarked-marks.result _
          c.ring.result c.unmarked-marks.ensures c.ring.ensures.told c.ring.ensures.past;
      past = c.ring.ensures.past;
    }
