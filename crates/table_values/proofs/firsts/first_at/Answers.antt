-- One item more at a time.
use Rattle.std.proofs.Common.{refl, rules}
use Rattle.spec_rules.specs.FirstLaws.{first_at, scan_more}
use Rattle.table_values.proofs.firsts.first_at.Goals as goal

pub loop-k-init : goal.loop-k-init
unfolding first_at
loop-k-init c = (search rules, refl)

pub loop-k-preserved : goal.loop-k-preserved
loop-k-preserved c =
    let a = c.args in
    (search rules, scan_more a.key.now c.loop-k.k a.q _ _ c.loop-k.invariant.1 (cc))
