-- The reply of `file_spec`, beside the state.
use mathlib.Core.Path.{ap, ◌∙◌}
use lib.ListN.{length}
use Rattle.value_calls.specs.FileAnswers.{reading_answer, reading_told, read_answer_lem}
use Rattle.survey.specs.View.{of}
use Rattle.value_calls.proofs.read.Goals as goal

pub read_reply-reply-requires : goal.read_reply-reply-requires
read_reply-reply-requires c = tt

pub returns : goal.returns
returns c =
    let a = c.args in
    let s = of a.survey in
    record {
      reply = reading_told s c.read-found.result c.read_reply-reply.ensures
          ∙ ap (reading_answer s) c.read-found.ensures.reply
          ∙ read_answer_lem a.file.now (length a.words.now) (length a.levels.now) s;
      lent = c.read-found.ensures.lent;
      levels = c.read-found.ensures.levels;
    }
