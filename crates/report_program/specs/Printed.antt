-- What the program prints for its input: the report of the finished survey, or only the 1E line of the refusal. Reading
-- comes before loading, and a file is loaded as a stored table (document 02, T-10).
use Rattle.std.specs.Prelude.{Bool, cond, List, ◌++◌, ℕ, eqb, ltb, length, drop}
use Rattle.file_frames.specs.Frame.{line_of}
use Rattle.file_frames.specs.Bodies.{refusal_body}
use Rattle.file_spec.specs.File.{lines_of, read_refusal, units_in, ends_in, levels_in}
use Rattle.spec_state.specs.declared.reply.Reply.{Reply}
use Rattle.spec_state.specs.declared.reply.Reply.TheVariants.{Refused, Done, Made, Status, Unit, Link, Read, Written}
use Rattle.spec_machine.specs.State.{State}
use Rattle.spec_machine.specs.Load.{Input, stored_load_refusal, loaded}
use Rattle.spec_machine.specs.Run.{ran}
use Rattle.spec_machine.specs.Report.{report}

-- the program's input is at most this long
abbrev pub MAX-INPUT : ℕ
MAX-INPUT = 65535

-- the words and levels that reading has room for: two words and a level a link, at most 1,024 links
abbrev pub WORDS : ℕ
WORDS = 2048

abbrev pub LEVELS : ℕ
LEVELS = 1024

-- a refusal's line: 1E and the number as one byte
abbrev pub refusal_line : ℕ → List ℕ
refusal_line k = line_of (refusal_body k)

-- the survey of what was loaded, run with the greatest budget, which always comes to the end
abbrev pub surveyed : Input → State
surveyed input = (ran 65535 0 (loaded input)).0

-- loaded and surveyed, or refused
unfoldable pub printed_table : Input → List ℕ
printed_table input =
    let whole = report (surveyed input) in
    cond (eqb (stored_load_refusal input) 0) whole (refusal_line (stored_load_refusal input))

-- what a file's lines say: the unit count in its first, the ends and levels in its 02 and 03 frames
abbrev pub table_in : List ℕ → Input
table_in file = record {
  units = units_in (lines_of file);
  words = ends_in (lines_of file);
  levels = levels_in (lines_of file);
}

-- what is printed of a table, or of the number by which reading it was refused
unfoldable pub printed_read : ℕ → Input → List ℕ
printed_read unread input = let whole = printed_table input in cond (eqb unread 0) whole (refusal_line unread)

-- the number by which an input is refused before a load: 1 where it is too long, else that of reading it into so many
-- words and levels; 0 where it is taken
unfoldable pub unread_by : List ℕ → ℕ → ℕ → ℕ
unread_by input places spaces = cond (ltb MAX-INPUT (length input)) 1 (read_refusal (lines_of input) places spaces)

unfoldable pub printed : List ℕ → List ℕ
printed input = printed_read (unread_by input WORDS LEVELS) (table_in input)

-- a slice after a text was laid over its front, and the number of bytes: as it was, and 0, where it is too short
unfoldable pub laid_over : List ℕ → List ℕ → List ℕ
laid_over text out = cond (ltb (length out) (length text)) out (text ++ drop (length text) out)

unfoldable pub laid_count : List ℕ → ℕ → ℕ
laid_count text places = cond (ltb places (length text)) 0 (length text)

-- the characters that a call wrote
abbrev pub count_of : Reply → ℕ
count_of (Refused k) = 0
count_of Done = 0
count_of (Made k) = 0
count_of (Status stage countdown rounds requests) = 0
count_of (Unit unit color parent place single) = 0
count_of (Link position label lone) = 0
count_of (Read units links) = 0
count_of (Written k) = k
