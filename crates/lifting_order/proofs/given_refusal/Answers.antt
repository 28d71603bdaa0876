-- By the tests in order.
use mathlib.Core.Path.{refl, sym, ◌∙◌}
use borrow.Author.Tests.{lt-ltb, le-ltb}
use Rattle.lifting_order.specs.Written.{given_refusal}
use borrow.Author.Rules.{rules}
use Rattle.lifting_order.proofs.given_refusal.Goals as goal

pub returns-then-not-site_fits : goal.returns-then-not-site_fits
unfolding given_refusal
returns-then-not-site_fits c = rw (sym c.site_fits.ensures ∙ c.if-not-site_fits.true) refl

pub returns-then-places-units : goal.returns-then-places-units
unfolding given_refusal
returns-then-places-units c =
    let a = c.args in
    rw (
      sym c.site_fits.ensures ∙ c.if-not-site_fits.false,
      lt-ltb a.places a.units c.if-places-units.true,
    ) refl

pub returns-then-bad_pairs : goal.returns-then-bad_pairs
unfolding given_refusal
returns-then-bad_pairs c =
    let a = c.args in
    rw (
      sym c.site_fits.ensures
          ∙ c.if-not-site_fits.false,
      le-ltb a.places a.units (search rules),
      sym c.bad_pairs.ensures ∙ c.if-bad_pairs.true,
    ) refl

pub returns : goal.returns
unfolding given_refusal
returns c =
    let a = c.args in
    rw (
      sym c.site_fits.ensures
          ∙ c.if-not-site_fits.false,
      le-ltb a.places a.units (search rules),
      sym c.bad_pairs.ensures ∙ c.if-bad_pairs.false,
    ) refl
