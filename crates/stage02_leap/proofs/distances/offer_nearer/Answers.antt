-- By which end is nearer.
use Rattle.std.proofs.Common.{◌≡◌, ◌+◌, ◌%◌, true, false, eqb, sym, refl, ◌∙◌, arith, w16, eqb-true}
use mir.ValLaws.{to_z-of_z}
use borrow.Author.Tests.{eqb-false}
use Rattle.spec_rules.specs.Basics.{at}
use Rattle.stage02_leap.specs.Nearer.{first-linked, second-linked, neither-linked}
use Rattle.stage02_leap.proofs.distances.offer_nearer.Goals as goal

pub returns-then-one_more : goal.returns-then-one_more
returns-then-one_more c =
    let a = c.args in
    let level = to_z-of_z w16 a.level c.ranges.level in
    let first : eqb (at a.far.now a.a + 1) (at a.far.now a.b) ≡ true =
    sym c.one_more.ensures ∙ c.if-one_more.true in
    let unit : a.b % 256 ≡ a.b = omega (arith, c.requires.1) in
    let put = rw (level, unit) at c.offer.ensures in record {
      units = first-linked a.far.now a.level a.a a.b _ _ _ _ (omega (arith, c.requires.1))
          (eqb-true (at a.far.now a.a + 1) (at a.far.now a.b) first) put.levels put.units;
      apart = rw first refl;
    }

pub returns-then-one_more-2 : goal.returns-then-one_more-2
returns-then-one_more-2 c =
    let a = c.args in
    let level = to_z-of_z w16 a.level c.ranges.level in
    let first : eqb (at a.far.now a.a + 1) (at a.far.now a.b) ≡ false =
    sym c.one_more.ensures ∙ c.if-one_more.false in
    let second : eqb (at a.far.now a.b + 1) (at a.far.now a.a) ≡ true =
    sym c.one_more-2.ensures ∙ c.if-one_more-2.true in
    let unit : a.a % 256 ≡ a.a = omega (arith, c.requires.0) in
    let put = rw (level, unit) at c.offer-then-one_more-2.ensures in record {
      units = second-linked a.far.now a.level a.a a.b _ _ _ _ (omega (arith, c.requires.0))
          (eqb-true (at a.far.now a.b + 1) (at a.far.now a.a) second) put.levels put.units;
      apart = rw (first, second) refl;
    }

pub returns : goal.returns
returns c =
    let a = c.args in
    let first : eqb (at a.far.now a.a + 1) (at a.far.now a.b) ≡ false =
    sym c.one_more.ensures ∙ c.if-one_more.false in
    let second : eqb (at a.far.now a.b + 1) (at a.far.now a.a) ≡ false =
    sym c.one_more-2.ensures ∙ c.if-one_more-2.false in record {
      units = neither-linked a.far.now a.level a.a a.b _ _
          (eqb-false (at a.far.now a.a + 1) (at a.far.now a.b) first)
          (eqb-false (at a.far.now a.b + 1) (at a.far.now a.a) second);
      apart = rw (first, second) refl;
    }
