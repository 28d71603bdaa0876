-- The planner's tree where one is given, else the search's.
use mathlib.Core.Path.{◌≡◌, ◌∙◌}
use Prim.Native.Nat.{min}
use native.Mathlib.Omega.{arith}
use Rattle.spec_rules.specs.Fits.{EndsWithin}
use Rattle.stage02_round.specs.Wrapped.{parents-wrapped, dists-wrapped, ends-wrapped}
use Rattle.stage02_tree.specs.Rounds.{after-plan, after_search}
use Rattle.stage02_tree.proofs.round.Goals as goal

pub returns-then-given-ne0 : goal.returns-then-given-ne0
returns-then-given-ne0 c =
    let units : min c.args.units 256 ≡ c.args.units = omega (arith, c.requires.0) in
    let a = c.args in
    let e = rw units at c.take_over-new.ensures in
    let l = after-plan a.units a.links a.made a.given a.plan.now a.ends.now a.levels.now
    a.color.now a.dist a.parent c.if-given-ne0.true in
    record {
      parents = e.parents ∙ l.0;
      dists = e.dists ∙ l.1.0;
      ends = l.1.1;
    }

pub returns : goal.returns
returns c =
    let units : min c.args.units 256 ≡ c.args.units = omega (arith, c.requires.0) in
    let links : min c.args.links 1024 ≡ c.args.links = omega (arith, c.requires.1) in
    let within : EndsWithin 256 c.args.links c.args.ends.now =
    (c.requires.2.0, λ i h. omega (arith, c.requires.2.1 i h, c.requires.0)) in
    let a = c.args in
    let e = rw (units, links) at c.round.ensures in
    let l = after_search a.units a.links a.made a.given a.plan.now a.ends.now a.levels.now
    a.color.now a.dist a.parent c.if-given-ne0.false in
    record {
      parents = e.parents ∙ parents-wrapped a.links a.made a.ends.now a.levels.now a.color.now a.dist within a.units
          a.parent ∙ l.0;
      dists = e.dists ∙ dists-wrapped a.links a.made a.ends.now a.levels.now a.color.now a.dist within
          a.units ∙ l.1.0;
      ends = e.ends ∙ ends-wrapped a.links a.made a.ends.now a.levels.now a.color.now a.dist within
          a.units ∙ l.1.1;
    }
