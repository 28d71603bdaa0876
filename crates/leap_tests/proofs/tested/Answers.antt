-- All tests hold.
use Rattle.std.proofs.Common.{arith}
use Rattle.leap_tests.specs.Found.{found}
use Rattle.leap_tests.proofs.tested.Goals as goal

pub returns-clause-found : goal.returns-clause-found
returns-clause-found c =
    let a = c.args in
    let fits = c.fits.ensures c.if-not-fits.false in
    found a.units a.pairs a.ends.now a.value.now a.key.now a.via.now _ _
    (omega (arith, fits.0)) fits.2 (omega (arith, c.furthest-rounds.type_inv, c.if-rounds.false))
    (c.pairs_right-over_pairs.ensures c.if-not-over_pairs.false)
    (c.units_right-over_units.ensures c.if-not-over_units.false)
    c.furthest-rounds.ensures c.end.ensures
