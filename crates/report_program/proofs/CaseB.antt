-- Document 01's case B whole, as the paper prints it: the bytes of its file print the bytes of its report.
use Rattle.std.specs.Prelude.{◌≡◌, refl, ℕ, ◌≤◌, length}
use Rattle.std.proofs.Common.{sym, ap, ◌∙◌, arith, eq-eqb}
use Rattle.file_spec.specs.File.{lines_of, read_refusal}
use Rattle.file_spec.specs.Example.{case_b, levels_b, file_b, read-B}
use Rattle.spec_machine.specs.Load.{stored_load_refusal, loaded}
use Rattle.spec_machine.specs.Step.{countdown}
use Rattle.spec_machine.specs.Run.{ran}
use Rattle.spec_machine.specs.RunLaws.{total, ran-made}
use Rattle.spec_machine.specs.Report.{report}
use Rattle.spec_machine.proofs.Cases.{site_b, report_b, accepted-B, report-B}
use Rattle.report_program.specs.Printed.{MAX-INPUT, WORDS, LEVELS, surveyed, table_in, printed_table, printed_read}
use Rattle.report_program.specs.Printed.{printed}
use Rattle.report_program.specs.PrintedLaws.{surveyed-end}
use Rattle.report_program.proofs.LaidLaws.{input_short}

-- the greatest budget leaves what the first countdown leaves
survey-B : surveyed site_b ≡ (ran (countdown (loaded site_b)) 0 (loaded site_b)).0
unfolding total
survey-B = surveyed-end site_b accepted-B ∙ sym (ran-made (countdown (loaded site_b)) (loaded site_b)).state

table-B : printed_table site_b ≡ report_b
unfolding printed_table
table-B = rw (eq-eqb (stored_load_refusal site_b) 0 accepted-B) (ap report survey-B ∙ report-B)

-- the paper's file is read as that site
file-B : printed_read (read_refusal (lines_of file_b) WORDS LEVELS) (table_in file_b) ≡ printed_table site_b
unfolding printed_read levels_b case_b
file-B = rw (read-B.0, read-B.1, read-B.2, read-B.3) refl

short-B : length file_b ≤ MAX-INPUT
unfolding file_b
short-B = omega arith

-- what the program prints for the paper's file is the paper's report
pub prints-B : printed file_b ≡ report_b
unfolding printed
prints-B = ap (λ (k : ℕ). printed_read k (table_in file_b)) (input_short file_b WORDS LEVELS short-B)
    ∙ (file-B ∙ table-B)
