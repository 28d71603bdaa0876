-- The tests passed say that the distances are right.
use Rattle.std.proofs.Common.{◌≡◌, ◌<◌, ◌≤◌, ℕ, true, ◌&&◌, List, length, ltb, leb, sym, refl, rules, arith}
use Rattle.std.proofs.Common.{ltb-true, leb-true}
use Rattle.base_lists.specs.Tests.{and_left, and_right, and-true}
use Rattle.spec_rules.specs.Fits.{links_fit, EndsWithin, fit-within}
use Rattle.stage02_leap.specs.Nearer.{leapt_tested}
use Rattle.stage02_leap.proofs.distances.tested.Goals as goal

-- links and units fit, and the unit reached last and its distance are within the units
record Fine (units links tip top : ℕ) (ends : List ℕ) : Type 0 where
  pub few : units ≤ 256
  pub within : EndsWithin units links ends
  pub tip_in : tip < units
  pub top_in : top < units

fine : (units links tip top : ℕ) (ends : List ℕ) → length ends ≡ 2048
    → ((leb units 256 && links_fit units links ends) && (ltb tip units && ltb top units)) ≡ true →
    Fine units links tip top ends
fine units links tip top ends long all =
    let few = leb units 256 in
    let fit = links_fit units links ends in
    let under = ltb tip units in
    let room = ltb top units in
    let fits = and_left (few && fit) (under && room) all in
    let inside = and_right (few && fit) (under && room) all in
    record {
      few = leb-true units 256 (and_left few fit fits);
      within = fit-within units links ends long (and_right few fit fits);
      tip_in = ltb-true tip units (and_left under room inside);
      top_in = ltb-true top units (and_right under room inside);
    }

pub nearest-requires : goal.nearest-requires
nearest-requires c =
    let a = c.args in
    let f = fine a.units a.links a.tip c.word-top.result a.ends.now (search rules)
    (rw c.links_fit.ensures at c.if-not-fits-within.false) in
    (search rules, (f.within.0, λ i h. omega (arith, f.within.1 i h, f.few)), search rules, search rules)

pub returns : goal.returns
returns c =
    let a = c.args in
    let f = fine a.units a.links a.tip c.word-top.result a.ends.now (search rules)
    (rw c.links_fit.ensures at c.if-not-fits-within.false) in
    record {
      leapt = leapt_tested a.units a.links a.made _ _ a.ends.now a.levels.now a.parent a.dist _
          c.in_ok-best.best _ _ _ _ _ f.few (search rules) f.within f.tip_in f.top_in c.word-top.ensures
          c.in_ok-best.ensures.units (sym c.in_ok-best.ensures.apart) c.in_ok-new.ensures.parents
          c.in_ok-new.ensures.dists (sym c.in_ok-new.ensures.strays) refl
          (and-true _ _ c.if-not-begun.false refl);
    }
