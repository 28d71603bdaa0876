-- The tables taken out, the rounds of the stage on them, and the tables laid down again.
use mathlib.Core.Path.{refl}
use Rattle.spec_machine.specs.StageSteps.{moved}
use Rattle.words_layout.specs.Layout.{state_of}
use Rattle.stage07_range.specs.Rounds as Rounds
use Rattle.words_run.proofs.back.range_stage.Goals as goal

pub returns : goal.returns
returns c =
    let s = state_of c.args.words.now in
    moved (Rounds.stage s) c.args.budget
    (record {
      low = s.range.low;
      high = s.range.high;
      little = s.range.little;
      big = s.range.big;
      least = s.global.low;
      greatest = s.global.high;
      clock = s.clock;
      made = 0;
    }) _ s _ c.requires refl refl
    (rw (
      c.clock_at.ensures,
      c.global_at.ensures,
      c.range_at.ensures,
      c.order_at-order.ensures,
      c.tree_at-tree.ensures,
      c.table_at-table.ensures,
    ) at c.run-r.ensures)
    (rw (c.lay_global.ensures, c.lay_range.ensures, c.lay_clock.ensures) refl)
