-- By whether the table passes.
use mathlib.Core.Path.{refl, sym, ◌∙◌}
use borrow.Author.Tests.{ne_eqb}
use Rattle.table.proofs.FreshReplies.{as_accepted}
use Rattle.words_load.proofs.load_as.Goals as goal

pub returns-then-refused-ne0 : goal.returns-then-refused-ne0
returns-then-refused-ne0 c =
    record {
      number = c.refusal-refused.ensures;
      words = rw (sym c.refusal-refused.ensures, ne_eqb c.refusal-refused.result 0 c.if-refused-ne0.true) refl;
    }

pub lay_loaded-requires : goal.lay_loaded-requires
lay_loaded-requires c =
    let a = c.args in
    as_accepted a.fresh a.units a.table.now a.levels.now (sym c.refusal-refused.ensures
    ∙ c.if-refused-ne0.false)

pub returns : goal.returns
returns c =
    let none = sym c.refusal-refused.ensures ∙ c.if-refused-ne0.false in
    record {
      number = sym none;
      words = rw none c.lay_loaded.ensures;
    }
