-- Load, run, report on the words of a state, by whether the reading and the table pass.
use mathlib.Core.Path.{◌≡◌, refl, sym, ◌∙◌}
use Prim.Native.Nat.{◌≤◌}
use native.Mathlib.Omega.{arith}
use lib.ListN.{length}
use Rattle.spec_state.specs.declared.reply.Reply.TheVariants.{Done}
use Rattle.spec_machine.specs.Load.{Input, stored_load_refusal, loaded}
use Rattle.spec_machine.specs.LoadLaws.{passed-fits}
use Rattle.spec_machine.specs.Calls.{stored_load_answer}
use Rattle.words_layout.specs.Layout.{state_of}
use Rattle.spec_machine.specs.AnswerLaws.{answered-number}
use Rattle.report_program.specs.Printed.{surveyed, printed_table, laid_over}
use Rattle.report_program.proofs.LaidLaws.{number_byte, table-refused, survey-left, report-laid, report-none}
use Rattle.report_program.proofs.LaidLaws.{report-all}
use Rattle.report_program.proofs.LaidLaws.{read-refused, read_taken}
use Rattle.words_report.proofs.surveyed.Goals as goal

pub returns-then-unread-ne0 : goal.returns-then-unread-ne0
returns-then-unread-ne0 c =
    rw (read-refused _ _ c.if-unread-ne0.true) (record {
      count = c.refusal.ensures.count;
      bytes = c.refusal.ensures.bytes;
    })

pub overflow_cast-number : goal.overflow_cast-number
unfolding stored_load_answer
overflow_cast-number c =
    let taken : Input = let a = c.args in
    record { units = a.units; words = a.table.now; levels = a.levels.now } in
    let told : c.load_stored-refused.result ≡ stored_load_refusal (taken) = c.load_stored-refused.ensures.number
    ∙ answered-number (stored_load_refusal (taken)) _ (loaded (taken)) Done refl in
    omega (arith, told, number_byte (taken))

pub returns-then-refused-ne0 : goal.returns-then-refused-ne0
unfolding stored_load_answer
returns-then-refused-ne0 c =
    let taken : Input = let a = c.args in
    record { units = a.units; words = a.table.now; levels = a.levels.now } in
    let told : c.load_stored-refused.result ≡ stored_load_refusal (taken) = c.load_stored-refused.ensures.number
    ∙ answered-number (stored_load_refusal (taken)) _ (loaded (taken)) Done refl in
    rw (
      read_taken _ (taken) c.if-unread-ne0.false,
      table-refused (taken) (λ z. c.if-refused-ne0.true (told ∙ z)),
      sym (told),
    ) (record {
      count = c.refusal-then-refused-ne0.ensures.count;
      bytes = c.refusal-then-refused-ne0.ensures.bytes;
    })

pub returns-then-report-ne0 : goal.returns-then-report-ne0
unfolding stored_load_answer
returns-then-report-ne0 c =
    let taken : Input = let a = c.args in
    record { units = a.units; words = a.table.now; levels = a.levels.now } in
    let told : c.load_stored-refused.result ≡ stored_load_refusal (taken) = c.load_stored-refused.ensures.number
    ∙ answered-number (stored_load_refusal (taken)) _ (loaded (taken)) Done refl in
    let accepted : stored_load_refusal (taken) ≡ 0 = sym (told) ∙ c.if-refused-ne0.false in
    let ended : state_of c.run.new.state ≡ surveyed (taken) = survey-left (taken) (accepted) _ _ _
    c.load_stored-refused.ensures.left.state c.run.ensures.left.state in
    let laid : c.report.new.out
    ≡ laid_over (printed_table (taken))
    c.args.out.now = rw (ended) at c.report.ensures.bytes
    ∙ report-laid (taken)
    (accepted) _ in
    let told = rw (ended) at c.report.ensures.number in
    rw (read_taken _ (taken) c.if-unread-ne0.false)
    (record {
      count = report-none (taken) (accepted) _ (λ z. c.if-report-ne0.true (told ∙ z));
      bytes = laid;
    })

pub overflow_cast-result-2 : goal.overflow_cast-result-2
unfolding stored_load_answer
overflow_cast-result-2 c =
    let taken : Input = let a = c.args in
    record { units = a.units; words = a.table.now; levels = a.levels.now } in
    let told : c.load_stored-refused.result ≡ stored_load_refusal (taken) = c.load_stored-refused.ensures.number
    ∙ answered-number (stored_load_refusal (taken)) _ (loaded (taken)) Done refl in
    let accepted : stored_load_refusal (taken) ≡ 0 = sym (told) ∙ c.if-refused-ne0.false in
    let fits_in : length (taken).words ≤ 2048 = (passed-fits (taken).units _ _ (accepted)).0 in
    omega (arith, fits_in)

pub overflow_mul-result-2 : goal.overflow_mul-result-2
unfolding stored_load_answer
overflow_mul-result-2 c =
    let taken : Input = let a = c.args in
    record { units = a.units; words = a.table.now; levels = a.levels.now } in
    let told : c.load_stored-refused.result ≡ stored_load_refusal (taken) = c.load_stored-refused.ensures.number
    ∙ answered-number (stored_load_refusal (taken)) _ (loaded (taken)) Done refl in
    let accepted : stored_load_refusal (taken) ≡ 0 = sym (told) ∙ c.if-refused-ne0.false in
    let fits_in : length (taken).words ≤ 2048 = (passed-fits (taken).units _ _ (accepted)).0 in
    omega (arith, fits_in)

pub overflow_add-result-2 : goal.overflow_add-result-2
unfolding stored_load_answer
overflow_add-result-2 c =
    let taken : Input = let a = c.args in
    record { units = a.units; words = a.table.now; levels = a.levels.now } in
    let told : c.load_stored-refused.result ≡ stored_load_refusal (taken) = c.load_stored-refused.ensures.number
    ∙ answered-number (stored_load_refusal (taken)) _ (loaded (taken)) Done refl in
    let accepted : stored_load_refusal (taken) ≡ 0 = sym (told) ∙ c.if-refused-ne0.false in
    let fits_in : length (taken).words ≤ 2048 = (passed-fits (taken).units _ _ (accepted)).0 in
    omega (arith, fits_in)

pub returns : goal.returns
unfolding stored_load_answer
returns c =
    let taken : Input = let a = c.args in
    record { units = a.units; words = a.table.now; levels = a.levels.now } in
    let told : c.load_stored-refused.result ≡ stored_load_refusal (taken) = c.load_stored-refused.ensures.number
    ∙ answered-number (stored_load_refusal (taken)) _ (loaded (taken)) Done refl in
    let accepted : stored_load_refusal (taken) ≡ 0 = sym (told) ∙ c.if-refused-ne0.false in
    let ended : state_of c.run.new.state ≡ surveyed (taken) = survey-left (taken) (accepted) _ _ _
    c.load_stored-refused.ensures.left.state c.run.ensures.left.state in
    let laid : c.report.new.out
    ≡ laid_over (printed_table (taken))
    c.args.out.now = rw (ended) at c.report.ensures.bytes
    ∙ report-laid (taken)
    (accepted) _ in
    let told = rw (ended) at c.report.ensures.number in
    rw (read_taken _ (taken) c.if-unread-ne0.false)
    (record {
      count = report-all (taken) (accepted) _ (sym told ∙ c.if-report-ne0.false);
      bytes = laid;
    })
