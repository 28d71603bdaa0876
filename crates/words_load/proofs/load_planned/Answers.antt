-- By whether the table and the parents pass.
use mathlib.Core.Path.{refl, sym, ◌∙◌}
use borrow.Author.Tests.{ne_eqb}
use Rattle.words_load.proofs.load_planned.Goals as goal

pub returns-then-refused-ne0 : goal.returns-then-refused-ne0
returns-then-refused-ne0 c =
    record {
      number = c.refusal-refused.ensures;
      words = rw (sym c.refusal-refused.ensures, ne_eqb c.refusal-refused.result 0 c.if-refused-ne0.true) refl;
    }

pub lay_planned-requires : goal.lay_planned-requires
lay_planned-requires c = sym c.refusal-refused.ensures ∙ c.if-refused-ne0.false

pub returns : goal.returns
returns c =
    let none = sym c.refusal-refused.ensures ∙ c.if-refused-ne0.false in
    record {
      number = sym none;
      words = rw none c.lay_planned.ensures;
    }
