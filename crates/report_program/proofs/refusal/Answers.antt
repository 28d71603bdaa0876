-- The line, as far as there is room for it.
use mathlib.Core.Path.{◌∙◌}
use lib.ListN.{length}
use borrow.Author.Rules.{rules}
use Rattle.report_program.proofs.LaidLaws.{refusal-line, refusal-short, refusal-long}
use Rattle.report_program.proofs.refusal.Goals as goal

pub returns-then-out-lt7 : goal.returns-then-out-lt7
returns-then-out-lt7 c =
    let a = c.args in record {
      count = refusal-short a.number (length a.out.now) (search rules);
      bytes = c.write.ensures ∙ refusal-line a.number a.out.now;
    }

pub returns-else-out-lt7 : goal.returns-else-out-lt7
returns-else-out-lt7 c =
    let a = c.args in record {
      count = refusal-long a.number (length a.out.now) (search rules);
      bytes = c.write.ensures ∙ refusal-line a.number a.out.now;
    }
