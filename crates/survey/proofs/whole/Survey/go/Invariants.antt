-- Each arm makes the rounds of its stage, at least one, so the run goes on; the budget or the last stage ends it.
use Prim.Native.Nat.{◌-◌}
use Rattle.spec_machine.specs.Going.{Going}
use Rattle.stage01_components.specs.Rounds as Components
use Rattle.stage02_tree.specs.Rounds as Tree
use Rattle.stage03_tour.specs.Rounds as Tour
use Rattle.stage04_ranking.specs.Rounds as Ranking
use Rattle.stage05_marks.specs.Rounds as Marks
use Rattle.stage06_places.specs.Rounds as Places
use Rattle.stage07_range.specs.Rounds as Range
use Rattle.stage08_joins.specs.Rounds as Joins
use Rattle.stage09_classes.specs.Rounds as Classes
use Rattle.stage10_labels.specs.Rounds as Labels
use Rattle.survey.specs.View.{of}
use Rattle.survey.proofs.whole.Survey.go.Given as goal

abbrev pub invariant-loop-made : goal.invariant-loop-made
invariant-loop-made l = Going l.budget (of l.initial.self) l.made (of l.self)

abbrev pub decreases-loop-made : goal.decreases-loop-made
decreases-loop-made l = l.budget - l.made
