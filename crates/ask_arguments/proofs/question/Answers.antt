-- Name by name.
use mathlib.Core.Path.{refl}
use Rattle.ask_arguments.specs.Arguments.{question_in}
use Rattle.ask_arguments.proofs.question.Goals as goal

pub returns : goal.returns
unfolding question_in
returns c =
    rw (
      c.choose.ensures,
      c.choose-lift.ensures,
      c.choose-doubtful.ensures,
      c.choose-plan.ensures,
      c.choose-one_way.ensures,
      c.choose-add.ensures,
      c.choose-withdraw.ensures,
      c.choose-lines.ensures,
      c.choose-seats.ensures,
    ) refl
