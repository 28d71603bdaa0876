-- The number of what `file_spec` replies.
use mathlib.Core.Path.{sym, ap, ◌∙◌}
use Rattle.file_spec.specs.File.{writing_number}
use Rattle.words_calls.proofs.file_calls.write.Goals as goal

pub returns-in-Refused : goal.returns-in-Refused
returns-in-Refused c =
    record {
      number = ap writing_number (sym c.in-Refused.is) ∙ c.write-done.ensures.number;
      bytes = c.write-done.ensures.lent;
    }

pub returns-in-Written : goal.returns-in-Written
returns-in-Written c =
    record {
      number = ap writing_number (sym c.in-Written.is) ∙ c.write-done.ensures.number;
      bytes = c.write-done.ensures.lent;
    }
