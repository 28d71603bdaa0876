-- Check by check: the table's, 17, 18, and what is left of a fresh table's.
use mathlib.Core.Path.{◌≡◌, refl, sym, ◌∙◌}
use mathlib.Core.Bool.{true, false}
use native.Mathlib.Omega.{arith}
use lib.ListN.{length}
use borrow.Author.Tests.{eq-eqb, ne_eqb}
use Rattle.table.proofs.Passes.{Passes, passes, table-alone}
use Rattle.spec_machine.specs.Load.{Input, stored_load_refusal, parents_differ}
use Rattle.spec_machine.proofs.PlannedLoad.{planned-stored, planned_17, planned_18, planned-last}
use Rattle.load_plan.proofs.refusal.Goals as goal

pub returns-then-refused-ne0 : goal.returns-then-refused-ne0
returns-then-refused-ne0 c =
    let given : Input = let a = c.args in record {
      units = a.units;
      words = a.table.now;
      levels = a.levels.now;
    } in
    let a = c.args in
    c.refusal-refused.ensures
    ∙ planned-stored (given) a.parents.now (λ z. c.if-refused-ne0.true (c.refusal-refused.ensures ∙ z))

pub returns-then-parents-units : goal.returns-then-parents-units
returns-then-parents-units c =
    let input : Input = let a = c.args in record {
      units = a.units;
      words = a.table.now;
      levels = a.levels.now;
    } in
    let stored : stored_load_refusal (input) ≡ 0 = sym c.refusal-refused.ensures ∙ c.if-refused-ne0.false in
    let a = c.args in
    planned_17 (input) a.parents.now (stored)
    (rw (ne_eqb (length a.parents.now) a.units c.if-parents-units.true) refl)

pub overflow_cast-links : goal.overflow_cast-links
overflow_cast-links c =
    let input : Input = let a = c.args in record {
      units = a.units;
      words = a.table.now;
      levels = a.levels.now;
    } in
    let stored : stored_load_refusal (input) ≡ 0 = sym c.refusal-refused.ensures ∙ c.if-refused-ne0.false in
    let site : Passes (input).units (input).words = passes (input).units (input).words
    (table-alone (input).units (input).words (input).levels (stored)) in
    let p = site in record { fits = omega (arith, p.pairs, p.few_links) }

pub unfit-requires : goal.unfit-requires
unfit-requires c =
    let input : Input = let a = c.args in record {
      units = a.units;
      words = a.table.now;
      levels = a.levels.now;
    } in
    let stored : stored_load_refusal (input) ≡ 0 = sym c.refusal-refused.ensures ∙ c.if-refused-ne0.false in
    let site : Passes (input).units (input).words = passes (input).units (input).words
    (table-alone (input).units (input).words (input).levels (stored)) in
    let p = site in (
      p.few_units,
      p.few_links,
      (omega (arith, p.pairs), λ i l. p.ends_exist i (omega (arith, p.pairs, l))),
    )

pub returns-then-unfit : goal.returns-then-unfit
returns-then-unfit c =
    let input : Input = let a = c.args in record {
      units = a.units;
      words = a.table.now;
      levels = a.levels.now;
    } in
    let stored : stored_load_refusal (input) ≡ 0 = sym c.refusal-refused.ensures ∙ c.if-refused-ne0.false in
    let same : (let a = c.args in parents_differ (input)
    a.parents.now ≡ false) = let a = c.args in
    rw (eq-eqb (length a.parents.now) a.units c.if-parents-units.false) refl in
    let a = c.args in
    planned_18 (input) a.parents.now (stored) (same)
    (sym c.unfit.ensures ∙ c.if-unfit.true)

pub returns : goal.returns
returns c =
    let input : Input = let a = c.args in record {
      units = a.units;
      words = a.table.now;
      levels = a.levels.now;
    } in
    let stored : stored_load_refusal (input) ≡ 0 = sym c.refusal-refused.ensures ∙ c.if-refused-ne0.false in
    let same : (let a = c.args in parents_differ (input)
    a.parents.now ≡ false) = let a = c.args in
    rw (eq-eqb (length a.parents.now) a.units c.if-parents-units.false) refl in
    let a = c.args in
    c.refusal.ensures
    ∙ planned-last (input) a.parents.now (stored) (same)
    (sym c.unfit.ensures ∙ c.if-unfit.false)
