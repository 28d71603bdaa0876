-- Each return is the first check that fails: the tests passed on the way are false, and the last one is true.
use mathlib.Core.Path.{◌≡◌}
use mathlib.Core.Bool.{false}
use mathlib.Core.Logic.{inl, inr}
use Prim.Native.Nat.{◌/◌, ◌%◌}
use lib.ListN.{length}
use borrow.Author.Tests.{eq-eqb, ne_eqb, lt-ltb, le-ltb}
use Rattle.table.specs.Table.{max_links, bad_unit_count, odd_words}
use Rattle.table.specs.TableLaws.{unit_count_bad, unit_count_good, refused_4, refused_5, refused_6, counts-passed}
use Rattle.table.proofs.counts.Goals as goal

pub returns-then-units-eq0 : goal.returns-then-units-eq0
returns-then-units-eq0 c =
    let a = c.args in
    refused_4 a.units a.table.now (unit_count_bad a.units (inl c.if-units-eq0.true))

pub returns-then-units-gt-MAX_UNITS : goal.returns-then-units-gt-MAX_UNITS
returns-then-units-gt-MAX_UNITS c =
    let a = c.args in
    refused_4 a.units a.table.now (unit_count_bad a.units (inr c.if-units-gt-MAX_UNITS.true))

pub returns-then-table-eq1 : goal.returns-then-table-eq1
returns-then-table-eq1 c =
    let p4 : bad_unit_count c.args.units
    ≡ false = unit_count_good c.args.units c.if-units-eq0.false c.if-units-gt-MAX_UNITS.false in
    let a = c.args in
    refused_5 a.units a.table.now (p4) (eq-eqb (length a.table.now % 2) 1 c.if-table-eq1.true)

pub returns-then-table-gt-MAX_LINKS : goal.returns-then-table-gt-MAX_LINKS
returns-then-table-gt-MAX_LINKS c =
    let p4 : bad_unit_count c.args.units
    ≡ false = unit_count_good c.args.units c.if-units-eq0.false c.if-units-gt-MAX_UNITS.false in
    let p5 : odd_words c.args.table.now ≡ false = ne_eqb (length c.args.table.now % 2) 1 c.if-table-eq1.false in
    let a = c.args in
    refused_6 a.units a.table.now (p4) (p5)
    (lt-ltb max_links (length a.table.now / 2) c.if-table-gt-MAX_LINKS.true)

pub returns : goal.returns
returns c =
    let p4 : bad_unit_count c.args.units
    ≡ false = unit_count_good c.args.units c.if-units-eq0.false c.if-units-gt-MAX_UNITS.false in
    let p5 : odd_words c.args.table.now ≡ false = ne_eqb (length c.args.table.now % 2) 1 c.if-table-eq1.false in
    let a = c.args in
    counts-passed a.units a.table.now (p4) (p5)
    (le-ltb max_links (length a.table.now / 2) c.if-table-gt-MAX_LINKS.false)
