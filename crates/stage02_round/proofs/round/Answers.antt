-- Each table from the chosen parents.
use mathlib.Core.Path.{◌∙◌}
use Prim.Native.Nat.{◌≤◌}
use native.Mathlib.Omega.{arith}
use lib.ListN.{length}
use Rattle.table.specs.Table.{max_units}
use Rattle.spec_rules.specs.TreeLaws.{parent-round, dist_round_lem, tree-ends}
use Rattle.stage02_round.specs.Wrapped.{wrapped}
use Rattle.stage02_round.proofs.round.Goals as goal

pub returns : goal.returns
returns c =
    let a = c.args in
    let full : length a.dist ≤ max_units = omega arith in
    let small : length a.parent ≤ max_units = omega arith in
    let k = c.chosen-cand in
    let e = wrapped a.ends.now in
    rw (← c.min-count.ensures, ← c.min-most.ensures) (record {
      parents = c.visit.ensures.parents
          ∙ parent-round _ a.made e a.levels.now a.color.now a.dist k.result full k.ensures _
          a.parent small;
      dists = c.visit.ensures.dists ∙ dist_round_lem _ a.made e a.levels.now a.color.now a.dist k.result full
          k.ensures _;
      ends = c.visit.ensures.ends ∙ tree-ends _ a.made e a.levels.now a.color.now a.dist k.result full
          k.ensures _;
    })
