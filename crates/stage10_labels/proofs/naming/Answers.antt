-- The four entries read tell.
use mathlib.Core.Path.{◌≡◌}
use Rattle.spec_rules.specs.Labels.{naming_unit}
use Rattle.stage10_labels.specs.Naming.{naming-within}
use Rattle.stage10_labels.proofs.naming.Goals as goal

pub returns : goal.returns
unfolding naming_unit
returns c =
    let a = c.args in
    let is : c.named.result ≡ naming_unit a.parent.now a.pre.now a.a a.b = cc in
    record {
      exact = is;
      within = rw is (naming-within a.parent.now a.pre.now a.a a.b 256 c.requires.0 c.requires.1);
    }
