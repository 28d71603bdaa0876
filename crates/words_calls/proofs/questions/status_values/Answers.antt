-- The clock, and the countdown of a well-formed state.
use mathlib.Core.Path.{refl}
use Rattle.spec_machine.specs.KeptLaws.{kept-countdown}
use Rattle.words_layout.specs.Layout.{state_of}
use Rattle.words_calls.proofs.questions.status_values.Goals as goal

pub returns : goal.returns
returns c =
    rw (
      c.countdown-left.ensures,
      c.clock_at-c.ensures,
      c.table_at-table.ensures,
      kept-countdown (state_of c.args.state.now) c.requires,
    ) refl
