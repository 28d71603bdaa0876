-- What was read, then surveyed.
use mathlib.Core.Path.{sym}
use lib.Seq.{length-take-le}
use Rattle.report_program.specs.Printed.{WORDS, LEVELS, printed}
use Rattle.report_program.proofs.LaidLaws.{taken-table}
use borrow.Author.Rules.{rules}
use Rattle.words_report.proofs.report.Goals as goal

pub slice_bounds-surveyed-end : goal.slice_bounds-surveyed-end
slice_bounds-surveyed-end c = sym (length-take-le _ _ (search rules))

pub slice_bounds-surveyed-end-2 : goal.slice_bounds-surveyed-end-2
slice_bounds-surveyed-end-2 c = sym (length-take-le _ _ (search rules))

pub returns : goal.returns
unfolding printed
returns c =
    rw (sym (taken-table _ WORDS LEVELS _ _ _ _ _ _ _ c.taken-found.ensures.number c.taken-found.ensures.units
    c.taken-found.ensures.links c.taken-found.ensures.words
    c.taken-found.ensures.levels)) (record {
      count = c.surveyed.ensures.count;
      bytes = c.surveyed.ensures.bytes;
    })
