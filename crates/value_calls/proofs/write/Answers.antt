-- The reply of `file_spec`, beside the state.
use mathlib.Core.Path.{ap, ◌∙◌}
use lib.ListN.{length}
use Rattle.value_calls.specs.FileAnswers.{writing_answer, writing_told, write_answer_lem}
use Rattle.survey.specs.View.{of}
use Rattle.value_calls.proofs.write.Goals as goal

pub write_reply-reply-requires : goal.write_reply-reply-requires
write_reply-reply-requires c = tt

pub returns : goal.returns
returns c =
    let a = c.args in
    let s = of a.survey in record {
      reply = writing_told s c.write-done.result c.write_reply-reply.ensures
          ∙ ap (writing_answer s) c.write-done.ensures.reply
          ∙ write_answer_lem (record { units = a.units; words = a.words.now; levels = a.levels.now })
          (length a.out.now) s;
      lent = c.write-done.ensures.lent;
    }
