-- What the program prints for the bytes of any input, in one statement: `ProgramRight`, at the end. ProgramProof.antt
-- proves it.
use Rattle.std.specs.Prelude.{◌≡◌, false, ◌⊎◌, ◌↔◌, List, [], ◌∷◌, ◌++◌, ℕ, ◌+◌, ◌*◌, ◌≤◌, ◌<◌, ltb, length, take, drop}
use Rattle.base_lists.specs.Folds.{count}
use Rattle.base_lists.specs.Members.{Mem}
use Rattle.table.specs.RefusalLaws.{Reason, FirstCause}
use Rattle.table.specs.TableCauses.{stored_reasons}
use Rattle.file_frames.specs.Frame.{line_of}
use Rattle.file_frames.specs.Bodies.{head_body, unit_body, label_body, tail_body}
use Rattle.file_spec.specs.File.{lines_of, file_of}
use Rattle.file_spec.specs.RoundTrip.{file_back}
use Rattle.file_spec.proofs.RewrittenLaws.{bare_in}
use Rattle.file_spec.specs.FileCauses.{read_reasons, below-exact}
use Rattle.spec_machine.specs.State.{State}
use Rattle.spec_machine.specs.Load.{Input, links_in, stored_load_refusal, loaded}
use Rattle.spec_machine.specs.Step.{steps, countdown}
use Rattle.spec_machine.specs.RunLaws.{Total}
use Rattle.spec_machine.specs.Report.{unit_color, unit_parent, unit_place, unit_single, link_label, link_lone, flag}
use Rattle.spec_machine.specs.Report.{report_length}
use Rattle.theory_reach.specs.Reach.{SurveyRight}
use Rattle.report_program.specs.Printed.{MAX-INPUT, WORDS, LEVELS, refusal_line, table_in, printed}

-- ---- a refusal

-- 1, too: the program's input exceeds 65,535 bytes
abbrev pub input_too_long : List ℕ → Reason
input_too_long input =
    record {
      number = 1;
      test = ltb MAX-INPUT (length input);
      cause = MAX-INPUT < length input;
      exact = below-exact MAX-INPUT (length input);
    }

-- the causes in the program's order: its input, then those of reading its lines into 2,048 words and 1,024 levels, then
-- those of loading what they say as a stored table
abbrev pub program_reasons : List ℕ → List Reason
program_reasons input =
    input_too_long input ∷ (read_reasons (lines_of input) WORDS LEVELS
    ++ stored_reasons (table_in input).units (table_in input).words (table_in input).levels)

-- the numbers that occur. Not 14: there is room enough; not 5 and 15: a file's ends come in pairs, each with a level; 6
-- and 16 only from reading; and not 22: a file is a stored table
abbrev pub program_numbers : List ℕ
program_numbers = 1 ∷ 2 ∷ 3 ∷ 6 ∷ 16 ∷ 4 ∷ 7 ∷ 8 ∷ 9 ∷ []

-- ---- a report

-- what is printed is the report of e, the survey of the table at its end
pub record SurveyPrinted (input : List ℕ) (table : Input) (e : State) (rounds : ℕ) : Type 0 where
  -- the input, with its level in each link line of kind 02, is the file of that table, byte for byte, and the load of a
  -- stored table accepts it
  pub file : file_back (lines_of input) ≡ file_of table.units table.words table.levels
  pub same : bare_in (lines_of input) ≡ false → file_back (lines_of input) ≡ input
  pub accepted : stored_load_refusal table ≡ 0
  -- e comes after the fewest rounds that end the survey, within the countdown first shown
  pub least : Total (loaded table) rounds
  pub within : rounds ≤ countdown (loaded table)
  pub survey : e ≡ steps rounds (loaded table)
  -- line 11 with the rounds made, a line 12 a unit, a line 13 a link, and line 1F with the counts
  pub long : length (printed input) ≡ report_length table.units (links_in table)
  pub head_printed : take 13 (printed input) ≡ line_of (head_body rounds e.clock.requests)
  pub unit_printed : (v : ℕ) → v < table.units
      → take 23 (drop (13 + 23 * v) (printed input))
      ≡ line_of (unit_body v (unit_color e v) (unit_parent e v) (unit_place e v) (flag (unit_single e v)))
  pub link_printed : (j : ℕ) → j < links_in table
      → take 15 (drop (13 + 23 * table.units + 15 * j) (printed input))
      ≡ line_of (label_body j (link_label e j) (flag (link_lone e j)))
  pub tail_printed : drop (13 + 23 * table.units + 15 * links_in table) (printed input)
      ≡ line_of (tail_body (count table.units (unit_single e)) (count (links_in table) (link_lone e)))
  -- equal labels are a common ring, lone links are on none, single points are articulation points
  pub right : SurveyRight table e

-- ---- the program

pub record Program (input : List ℕ) : Type 0 where
  -- the line 1E with number k is printed exactly where cause k holds and no earlier one does
  pub refusals : (k : ℕ) → k < 256 → (printed input ≡ refusal_line k) ↔ FirstCause (program_reasons input) k
  -- only such a line is printed, or the report of the survey of the table in the file
  pub prints : ((k : ℕ) × Mem k program_numbers × (printed input ≡ refusal_line k))
      ⊎ ((table : Input) × (e : State) × (rounds : ℕ) × SurveyPrinted input table e rounds)

-- THE PROGRAM. For the bytes of any input.
abbrev pub ProgramRight : Type 0
ProgramRight = (input : List ℕ) → Program input
