-- By what the call by value hands back.
use mathlib.Core.Path.{ap, ◌∙◌}
use lib.IntN.{ℤ}
use mir.Syntax.{w16}
use mir.ValLaws.{to_z-of_z}
use Rattle.live_table.specs.LiveCalls.{add_answer}
use Rattle.value_live.specs.View.{of, answer_of}
use Rattle.words_live.specs.LiveLayout.{live_in}
use Rattle.words_live.proofs.LayoutLaws.{left_by_lem, add_left}
use Rattle.words_live.proofs.add.Goals as goal

pub returns : goal.returns
returns c =
    let a = c.args in
    let told = c.add.ensures ∙ ap (λ (z : ℤ). add_answer a.a a.b z (of c.live_at-given.result))
    (to_z-of_z w16 a.level c.ranges.level) in
    let left = left_by_lem (answer_of c.add.result) _ a.live.now _ _
    (told ∙ ap (add_answer a.a a.b a.level) c.live_at-given.ensures)
    (c.put.ensures.number, (c.put.ensures.words, c.put.ensures.live)) in
    record {
      number = left.0;
      words = left.1.0;
      live = left.1.1 ∙ add_left a.a a.b a.level (live_in a.live.now);
    }
