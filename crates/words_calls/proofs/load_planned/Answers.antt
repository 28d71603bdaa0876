-- The number, the state by it, and the words by the state.
use mathlib.Core.Path.{refl, sym, ◌∙◌}
use Rattle.spec_state.specs.declared.reply.Reply.TheVariants.{Done}
use Rattle.spec_machine.specs.Load.{Input, planned_load_refusal, planned_loaded}
use Rattle.spec_machine.specs.Calls.{planned_load_answer}
use Rattle.spec_machine.specs.AnswerLaws.{answered-number, answered-state}
use Rattle.words_layout.specs.Layout.{state_of}
use Rattle.words_known.proofs.LeftLaws.{left-planned}
use Rattle.words_calls.proofs.load_planned.Goals as goal

pub returns : goal.returns
unfolding planned_load_answer
returns c =
    let a = c.args in
    let input : Input = record { units = a.units; words = a.table.now; levels = a.levels.now } in
    let s = state_of a.state.now in
    let refused = planned_load_refusal input a.parents.now in
    let made = planned_loaded input a.parents.now in record {
      number = c.load_planned-number.ensures.number ∙ sym (answered-number refused s made Done refl);
      left = left-planned a.state.now _ c.state.ensures c.state-2.ensures input a.parents.now
          (c.load_planned-number.ensures.words ∙ sym (answered-state refused s made Done));
    }
