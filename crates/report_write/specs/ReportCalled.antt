-- A report that is not refused is the one that the writer lays down.
use Rattle.std.specs.Prelude.{◌≡◌, not, List, ℕ, ◌≤◌, ltb, length}
use Rattle.std.proofs.Common.{◌∙◌, arith}
use borrow.Author.Tests.{ltb-false, not-false}
use Rattle.table.specs.RefusalLaws.{passed-test}
use Rattle.table.proofs.Passes.{passes}
use Rattle.spec_machine.specs.State.{State}
use Rattle.spec_machine.specs.State.{units, links, words, finished}
use Rattle.spec_machine.specs.Kept.{Kept, kept-exact}
use Rattle.spec_machine.specs.WellFormed.{well_formed}
use Rattle.spec_machine.specs.Report.{report_length}
use Rattle.spec_machine.specs.ReportLaws.{length-report}
use Rattle.report_write.specs.ReportWritten.{parts_over, report-fits, parts-report}
use Rattle.spec_machine.specs.Calls.{report_refusal, reported}

module _ (s : State) (out : List ℕ) (accepted : report_refusal s (length out) ≡ 0) where
  kept : Kept s
  unfolding report_refusal
  kept = (kept-exact s).0 (not-false (well_formed s) (passed-test (not (well_formed s)) 10 _ (omega arith) accepted).0)

  fits : report_length (units s) (links s) ≤ length out
  unfolding report_refusal
  fits =
      let later = (passed-test (not (well_formed s)) 10 _ (omega arith) accepted).1 in
      let last = (passed-test (not (finished s)) 12 _ (omega arith) later).1 in
      ltb-false (length out) (report_length (units s) (links s))
      (passed-test (ltb (length out) (report_length (units s) (links s))) 14 0 (omega arith) last).0

  -- the parts, from the state's numbers and tables
  pub reported-parts : parts_over (units s) (links s) s.clock.rounds s.clock.requests s.table.ends
      s.labels.label s.components.color s.tree.parent s.order.pre out ≡ reported s out
  unfolding reported
  reported-parts =
      let n = (passes (units s) (words s) kept.passes).few_units in
      parts-report s out n kept.few fits ∙ rw (accepted, length-report s) (report-fits s out n kept.few fits)
