-- Refused early, or by what is told of the tables.
use mathlib.Core.Path.{◌≡◌}
use lib.ListN.{length}
use Rattle.words_layout.specs.Layout.{state_of}
use Rattle.words_requests.specs.LiftingSaid.{lifting_early, lifting_late}
use borrow.Author.Rules.{rules}
use Rattle.words_requests.proofs.lift.Goals as goal

pub returns-then-early-ne0 : goal.returns-then-early-ne0
returns-then-early-ne0 c =
    let a = c.args in
    let told = lifting_early (state_of a.state.now) a.pairs.now a.out.now c.refusal-early.result c.refusal-early.ensures
    c.if-early-ne0.true in
    record { number = told.0; order = told.1 }

pub returns : goal.returns
returns c =
    let a = c.args in
    let known : length c.table_at-table.result.ends ≡ 2048 = search rules in
    let wrote = rw c.table_at-table.ensures at c.write.ensures in
    let told = lifting_late (state_of a.state.now) a.pairs.now a.out.now c.refusal-early.result c.write.result _
    c.refusal-early.ensures c.if-early-ne0.false (rw c.table_at-table.ensures at known) wrote.number wrote.lent in
    record { number = told.0; order = told.1 }
