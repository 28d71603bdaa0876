-- The number, the state by it, and the words by the state.
use mathlib.Core.Path.{refl, sym, ◌∙◌}
use Rattle.spec_state.specs.declared.reply.Reply.TheVariants.{Done}
use Rattle.spec_machine.specs.Load.{Input, load_refusal, loaded}
use Rattle.spec_machine.specs.Calls.{load_answer}
use Rattle.spec_machine.specs.AnswerLaws.{answered-number, answered-state}
use Rattle.words_layout.specs.Layout.{state_of}
use Rattle.words_known.proofs.LeftLaws.{left_load}
use Rattle.words_calls.proofs.load.Goals as goal

pub returns : goal.returns
unfolding load_answer
returns c =
    let a = c.args in
    let input : Input = record { units = a.units; words = a.table.now; levels = a.levels.now } in
    let s = state_of a.state.now in record {
      number = c.load-number.ensures.number ∙ sym (answered-number (load_refusal input) s (loaded input) Done refl);
      left = left_load a.state.now _ c.state.ensures c.state-2.ensures input
          (c.load-number.ensures.words ∙ sym (answered-state (load_refusal input) s (loaded input) Done));
    }
