-- By what is told of the sure links and of all.
use mathlib.Core.Path.{refl}
use borrow.Author.Rules.{rules}
use Rattle.value_doubtful.specs.DoubtRightProof.{told-always, told-never}
use Rattle.value_doubtful.proofs.judged.Goals as goal

pub returns-then-sure : goal.returns-then-sure
returns-then-sure c =
    let a = c.args in record {
      number = refl;
      told = told-always a.units a.links a.ends.now a.first a.second a.marks.now c.ringed-sure.result
          c.ringed-sure.ensures c.if-sure.true;
    }

pub returns : goal.returns
returns c =
    let a = c.args in record {
      number = refl;
      told = told-never a.units a.links a.ends.now a.first a.second a.marks.now c.ringed-sure.result
          c.ringed-sure.ensures c.if-sure.false c.unmarked-none.result c.ringed-all.result c.unmarked-none.ensures
          c.ringed-all.ensures (search rules);
    }
