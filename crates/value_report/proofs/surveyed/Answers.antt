-- Load, run, report by value, by whether the reading and the table pass.
use mathlib.Core.Path.{◌≡◌, refl, sym, ap, ◌∙◌}
use Prim.Native.Nat.{ℕ}
use lib.ListN.{length}
use Rattle.spec_state.specs.declared.reply.Reply.TheVariants.{Done}
use Rattle.spec_machine.specs.Load.{Input, stored_load_refusal, loaded}
use Rattle.spec_machine.specs.Calls.{Answer, number_of, stored_load_answer}
use Rattle.spec_machine.specs.State.{State}
use Rattle.survey.specs.View.{of}
use Rattle.spec_machine.specs.AnswerLaws.{answered-number}
use Rattle.report_program.specs.Printed.{count_of, surveyed}
use Rattle.report_program.proofs.LaidLaws.{table-refused, survey-left, report-laid, report-count, read-refused}
use Rattle.report_program.proofs.LaidLaws.{read_taken}
use Rattle.value_report.proofs.surveyed.Goals as goal

-- the number of a load
load-number : (taken : Input) (s : State) (answer : Answer) (number : ℕ) → number ≡ number_of answer.reply →
    answer ≡ stored_load_answer taken s → number ≡ stored_load_refusal taken
unfolding stored_load_answer
load-number taken s answer number n l =
    n ∙ ap (λ (a : Answer). number_of a.reply) l
    ∙ answered-number (stored_load_refusal taken) s (loaded taken) Done refl

pub returns-then-unread-ne0 : goal.returns-then-unread-ne0
returns-then-unread-ne0 c =
    rw (read-refused _ _ c.if-unread-ne0.true) (record {
      count = c.refusal.ensures.count;
      bytes = c.refusal.ensures.bytes;
    })

pub returns-then-number-ne0 : goal.returns-then-number-ne0
returns-then-number-ne0 c =
    let a = c.args in
    let taken : Input = record { units = a.units; words = a.table.now; levels = a.levels.now } in
    let told : c.number_of-number.result ≡ stored_load_refusal taken
    = load-number taken _ _ _ c.number_of-number.ensures c.load_stored-loaded.ensures in
    rw (
      read_taken _ taken c.if-unread-ne0.false,
      table-refused taken (λ z. c.if-number-ne0.true (told ∙ z)),
      sym told,
    ) (record {
      count = c.refusal-then-number-ne0.ensures.count;
      bytes = c.refusal-then-number-ne0.ensures.bytes;
    })

pub returns : goal.returns
returns c =
    let a = c.args in
    let taken : Input = record { units = a.units; words = a.table.now; levels = a.levels.now } in
    let told : c.number_of-number.result ≡ stored_load_refusal taken
    = load-number taken _ _ _ c.number_of-number.ensures c.load_stored-loaded.ensures in
    let accepted : stored_load_refusal taken ≡ 0 = sym told ∙ c.if-number-ne0.false in
    let ended : of c.run-ran.result.survey ≡ surveyed taken
    = survey-left taken accepted _ _ _ (ap (λ (a : Answer). a.state) c.load_stored-loaded.ensures)
    (ap (λ (a : Answer). a.state) c.run-ran.ensures) in
    let out = c.args.out.now in
    let said = rw ended at c.report-done.ensures.reply in
    rw (read_taken _ taken c.if-unread-ne0.false) (record {
      count = c.count_of.ensures ∙ (ap (λ (a : Answer). count_of a.reply) said
          ∙ report-count taken accepted (length out));
      bytes = rw ended at c.report-done.ensures.lent ∙ report-laid taken accepted out;
    })
