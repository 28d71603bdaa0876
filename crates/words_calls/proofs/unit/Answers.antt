-- By whether the question is refused.
use mathlib.Core.Path.{refl, sym, ◌∙◌}
use borrow.Author.Tests.{ne_eqb}
use Rattle.spec_machine.specs.Calls.{unit_answer, unit_refusal}
use Rattle.words_calls.proofs.unit.Goals as goal

pub returns-then-refused-ne0 : goal.returns-then-refused-ne0
unfolding unit_answer unit_refusal
returns-then-refused-ne0 c =
    let told = rw c.table_at-table.ensures at c.refusal-refused.ensures in
    rw (sym told, ne_eqb c.refusal-refused.result 0 c.if-refused-ne0.true) (record {
      number = refl;
      said = rw (ne_eqb c.refusal-refused.result 0 c.if-refused-ne0.true) refl;
    })

pub returns : goal.returns
unfolding unit_answer unit_refusal
returns c =
    let told = rw c.table_at-table.ensures at c.refusal-refused.ensures in
    rw (sym told ∙ c.if-refused-ne0.false) (record {
      number = refl;
      said = c.unit_values.ensures;
    })
