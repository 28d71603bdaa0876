-- By what the call by value hands back.
use mathlib.Core.Path.{ap, ◌∙◌}
use Rattle.live_table.specs.LiveCalls.{withdraw_answer}
use Rattle.value_live.specs.View.{answer_of}
use Rattle.words_live.specs.LiveLayout.{live_in}
use Rattle.words_live.proofs.LayoutLaws.{left_by_lem, withdraw-left}
use Rattle.words_live.proofs.withdraw.Goals as goal

pub returns : goal.returns
returns c =
    let a = c.args in
    let left = left_by_lem (answer_of c.withdraw.result) _ a.live.now _ _
    (c.withdraw.ensures ∙ ap (withdraw_answer a.a a.b) c.live_at-given.ensures)
    (c.put.ensures.number, (c.put.ensures.words, c.put.ensures.live)) in
    record {
      number = left.0;
      words = left.1.0;
      live = left.1.1 ∙ withdraw-left a.a a.b (live_in a.live.now);
    }
