-- The front, then the entries.
use mathlib.Core.Path.{refl, sym, ◌∙◌}
use Rattle.spec_machine.specs.KeptLaws.{kept-front}
use Rattle.spec_machine.specs.WellFormed.{well_formed}
use Rattle.words_layout.specs.Layout.{state_of}
use Rattle.words_layout.proofs.judged.kept.Goals as goal

pub returns-then-not-front_ok : goal.returns-then-not-front_ok
returns-then-not-front_ok c =
    sym (kept-front (state_of c.args.words.now)
    (sym (rw (c.table_at-table.ensures, c.clock_at.ensures) at c.front_ok.ensures)
    ∙ c.if-not-front_ok.true))

pub entries_ok-requires : goal.entries_ok-requires
entries_ok-requires c = rw c.table_at-table.ensures (refl, refl)

pub returns : goal.returns
unfolding well_formed
returns c =
    rw (sym (rw (c.table_at-table.ensures, c.clock_at.ensures) at c.front_ok.ensures)
    ∙ c.if-not-front_ok.false) c.entries_ok.ensures
