-- The tables taken out, the rounds of the stage on them, and the tables laid down again.
use mathlib.Core.Path.{refl}
use Rattle.spec_machine.specs.StageSteps.{moved}
use Rattle.words_layout.specs.Layout.{state_of}
use Rattle.stage04_ranking.specs.Rounds as Rounds
use Rattle.words_run.proofs.front.ranking_stage.Goals as goal

pub returns : goal.returns
returns c =
    let s = state_of c.args.words.now in
    moved (Rounds.stage s) c.args.budget
    (record { jump = s.ranking.jump; sum = s.ranking.sum; clock = s.clock; made = 0 }) _ s _
    c.requires refl refl
    (rw (
      c.clock_at.ensures,
      c.ranking_at.ensures,
      c.table_at-table.ensures,
    ) at c.run-r.ensures)
    (rw (c.lay_ranking.ensures, c.lay_clock.ensures) refl)
