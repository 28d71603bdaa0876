-- Load's checks, and the table of what passes them.
use mathlib.Core.Path.{sym, ◌∙◌}
use Rattle.spec_machine.specs.Load.{Input}
use Rattle.spec_machine.specs.LoadLaws.{passed-fits}
use Rattle.live_table.specs.Live.{live_of, unopened}
use Rattle.live_table.specs.LiveCalls.{open_refusal, open_answer}
use Rattle.value_live.specs.CallLaws.{answer-refused, answer-made}
use Rattle.value_live.proofs.whole.Live.opened.Goals as goal

pub returns-then-number-ne0 : goal.returns-then-number-ne0
unfolding open_answer
returns-then-number-ne0 c =
    let a = c.args in
    let x : Input = record { units = a.units; words = a.words.now; levels = a.levels.now } in
    rw c.made-live.ensures (answer-refused (open_refusal x) c.refusal-number.result unopened (live_of x)
    c.refusal-number.ensures c.if-number-ne0.true)

pub made-requires : goal.made-requires
made-requires c =
    let a = c.args in
    passed-fits a.units a.words.now a.levels.now (sym c.refusal-number.ensures ∙ c.if-number-ne0.false)

pub returns : goal.returns
unfolding open_answer
returns c =
    let a = c.args in
    let x : Input = record { units = a.units; words = a.words.now; levels = a.levels.now } in
    rw c.made.ensures (answer-made (open_refusal x) c.refusal-number.result unopened (live_of x)
    c.refusal-number.ensures
    c.if-number-ne0.false)
