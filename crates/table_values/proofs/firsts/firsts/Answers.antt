-- Item by item, from empty buckets.
use Rattle.std.proofs.Common.{◌≡◌, min, rules}
use Rattle.base_lists.specs.Scatter.{takes_in}
use Rattle.spec_rules.specs.Basics.{at}
use Rattle.spec_rules.specs.Buckets.{BUCKETS}
use Rattle.spec_rules.specs.FirstLaws.{first-none, first_more, first-all}
use Rattle.table_values.proofs.firsts.firsts.Goals as goal

pub loop-k-init : goal.loop-k-init
loop-k-init c = (search rules, search rules, first-none _ _ c.blank_arcs-first.ensures)

pub loop-k-preserved : goal.loop-k-preserved
loop-k-preserved c =
    let a = c.args in
    let put : c.take_in.new.t
    ≡ takes_in min BUCKETS c.loop-k.first (at a.key.now c.loop-k.k) c.loop-k.k = cc in
    (search rules, search rules, first_more a.key.now c.loop-k.k _ _ _ c.loop-k.invariant.2 put)

pub returns : goal.returns
returns c =
    let a = c.args in
    λ q h. first-all a.key.now a.count c.loop-k.k _ _ (search rules) c.loop-k.invariant.2 c.loop-k.invariant.0
    c.loop-k-test.false q h
