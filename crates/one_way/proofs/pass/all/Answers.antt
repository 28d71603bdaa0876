-- From no numbers.
use Rattle.theory_min_label.specs.MinLabel.{min_label}
use Rattle.one_way.proofs.pass.all.Goals as goal

pub returns : goal.returns
unfolding min_label
returns c = rw c.clear.ensures at c.passes.ensures
