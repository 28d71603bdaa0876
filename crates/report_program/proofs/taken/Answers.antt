-- By the input's length, and whether the reading is refused.
use Rattle.std.proofs.Common.{◌≡◌, refl, sym, ◌∙◌, ◌≤◌, arith, length, ne_eqb}
use Rattle.table.specs.Refusals.{written}
use Rattle.report_program.specs.Printed.{MAX-INPUT, unread_by, table_in}
use Rattle.report_program.proofs.LaidLaws.{input_long, taken-few, taken_refused, taken-told, taken-words}
use Rattle.report_program.proofs.LaidLaws.{taken-levels}
use Rattle.report_program.proofs.taken.Goals as goal

pub returns-then-input-gt-MAX_INPUT : goal.returns-then-input-gt-MAX_INPUT
returns-then-input-gt-MAX_INPUT c =
    rw (input_long _ _ _ c.if-input-gt-MAX_INPUT.true)
    (record { number = refl; units = refl; links = refl; fits = omega arith; words = refl; levels = refl })

pub returns-in-Refused : goal.returns-in-Refused
returns-in-Refused c =
    let input = c.args.input.now in
    let words = c.args.words.now in
    let levels = c.args.levels.now in
    let short : length input ≤ MAX-INPUT = c.if-input-gt-MAX_INPUT.false in
    let told = taken_refused input (length words) (length levels) short _ (sym c.in-Refused.ensures.reply) in
    let no = ne_eqb (unread_by input (length words) (length levels)) 0 told.1 in
    record {
      number = told.0;
      units = rw no refl;
      links = rw no refl;
      fits = omega arith;
      words = c.read-found.ensures.lent ∙ taken-words input words levels short;
      levels = c.read-found.ensures.levels ∙ taken-levels input words levels short;
    }

pub returns-in-Read : goal.returns-in-Read
returns-in-Read c =
    let input = c.args.input.now in
    let words = c.args.words.now in
    let levels = c.args.levels.now in
    let short : length input ≤ MAX-INPUT = c.if-input-gt-MAX_INPUT.false in
    let told = taken-told input (length words) (length levels) short _ _ (sym c.in-Read.ensures.reply) in
    record {
      number = sym told.0;
      units = rw told.0 told.1;
      links = rw told.0 told.2;
      fits = omega (arith, told.2, taken-few input (length words) (length levels) told.0);
      words = c.read-found.ensures.lent ∙ taken-words input words levels short;
      levels = c.read-found.ensures.levels ∙ taken-levels input words levels short;
    }
