-- The tables taken out, the rounds of the stage on them, and the tables laid down again.
use mathlib.Core.Path.{refl}
use Rattle.spec_machine.specs.StageSteps.{moved}
use Rattle.words_layout.specs.Layout.{state_of}
use Rattle.stage03_tour.specs.Rounds as Rounds
use Rattle.words_run.proofs.front.tour_stage.Goals as goal

pub returns : goal.returns
returns c =
    let s = state_of c.args.words.now in
    moved (Rounds.stage s) c.args.budget
    (record {
      next = s.tour.next;
      pred = s.tour.pred;
      jump = s.ranking.jump;
      sum = s.ranking.sum;
      clock = s.clock;
      made = 0;
    }) _ s _ c.requires refl refl
    (rw (
      c.clock_at.ensures,
      c.ranking_at.ensures,
      c.tour_at.ensures,
      c.tree_at-tree.ensures,
      c.table_at-table.ensures,
    ) at c.run-r.ensures)
    (rw (c.lay_ranking.ensures, c.lay_tour.ensures, c.lay_clock.ensures) refl)
