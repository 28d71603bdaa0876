-- By the checks in order.
use mathlib.Core.Path.{sym, ◌∙◌}
use mathlib.Core.Logic.{inl, inr}
use Prim.Native.Nat.{◌*◌}
use native.Mathlib.Omega.{arith}
use lib.Seq.{length-take-le}
use Rattle.table.specs.TableLaws.{unit_count_bad, unit_count_good}
use Rattle.live_table.specs.GivenLaws.{given_4, given_6, given-held}
use Rattle.value_live.proofs.given.refusal.Goals as goal

pub returns-then-units-eq0 : goal.returns-then-units-eq0
returns-then-units-eq0 c =
    let a = c.args in
    given_4 (record {
      units = a.units;
      links = a.links;
      ends = a.ends.now;
      levels = a.levels.now;
      counts = a.counts.now;
    }) (unit_count_bad a.units (inl c.if-units-eq0.true))

pub returns-then-units-gt-MAX_UNITS : goal.returns-then-units-gt-MAX_UNITS
returns-then-units-gt-MAX_UNITS c =
    let a = c.args in
    given_4 (record {
      units = a.units;
      links = a.links;
      ends = a.ends.now;
      levels = a.levels.now;
      counts = a.counts.now;
    }) (unit_count_bad a.units (inr c.if-units-gt-MAX_UNITS.true))

pub returns-then-links-gt1024 : goal.returns-then-links-gt1024
returns-then-links-gt1024 c =
    let a = c.args in
    given_6 (record {
      units = a.units;
      links = a.links;
      ends = a.ends.now;
      levels = a.levels.now;
      counts = a.counts.now;
    }) (unit_count_good a.units c.if-units-eq0.false c.if-units-gt-MAX_UNITS.false)
    c.if-links-gt1024.true

pub slice_bounds-held_refusal-end : goal.slice_bounds-held_refusal-end
slice_bounds-held_refusal-end c =
    sym (length-take-le (2 * c.args.links) c.args.ends.now (omega (arith, c.requires.0, c.if-links-gt1024.false)))

pub slice_bounds-held_refusal-end-2 : goal.slice_bounds-held_refusal-end-2
slice_bounds-held_refusal-end-2 c =
    sym (length-take-le c.args.links c.args.levels.now
    (omega (arith, c.requires.1, c.if-links-gt1024.false)))

pub returns : goal.returns
returns c =
    let a = c.args in
    c.held_refusal.ensures
    ∙ given-held (record {
      units = a.units;
      links = a.links;
      ends = a.ends.now;
      levels = a.levels.now;
      counts = a.counts.now;
    }) c.requires.0 c.requires.1 c.if-links-gt1024.false
    (unit_count_good a.units c.if-units-eq0.false c.if-units-gt-MAX_UNITS.false)
