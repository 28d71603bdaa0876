-- A survey file (documents 01 and 02, T-01): kind 01 the unit count, for each link a kind 03 with its two ends and its
-- level or a kind 02 without a level, kind 0F the number of links.
use Rattle.std.specs.Prelude.{Bool, true, false, cond, not, ◌&&◌, ◌||◌, List, [], ◌∷◌, ◌++◌, ℕ, ◌+◌, ◌*◌, ◌%◌, ltb, eqb}
use Rattle.std.specs.Prelude.{length, get_or, ℤ}
use Rattle.table_levels.specs.Level.{LOWEST, level_byte, byte_level}
use Rattle.table.specs.Refusals.{first_of, written}
use Rattle.table.specs.Table.{link_count, max_links, level_outside, fresh_tests}
use Rattle.file_frames.specs.Frame.{LF, word_of, line_of, all_digits, bytes_of, sum_of}
use Rattle.file_frames.specs.Bodies.{units_body, link_body, end_body}
use Rattle.file_frames.specs.Kinds.{UNITS, LINK, END, frame_bytes, link_kind}
use Rattle.file_spec.specs.declared.Reading.{Reading}
use Rattle.file_spec.specs.declared.Reading.TheVariants.{Read}
use Rattle.file_spec.specs.declared.Writing.{Writing}
use Rattle.file_spec.specs.declared.Writing.TheVariants.{Written}

-- ---- replies

-- the reply of a call with the refusal k, 0 for none, and with these values where none is
abbrev pub reading_of : ℕ → ℕ → ℕ → Reading
reading_of k units links = cond (eqb k 0) (Read units links) (Reading.Refused k)

abbrev pub writing_of : ℕ → ℕ → Writing
writing_of k characters = cond (eqb k 0) (Written characters) (Writing.Refused k)

-- document 01's number of a reply: 0 where the call was not refused
abbrev pub reading_number : Reading → ℕ
reading_number (Read units links) = 0
reading_number (Reading.Refused k) = k

abbrev pub writing_number : Writing → ℕ
writing_number (Written characters) = 0
writing_number (Writing.Refused k) = k

-- its values: only the number comes back with a refusal
abbrev pub reading_values : Reading → List ℕ
reading_values (Read units links) = units ∷ links ∷ []
reading_values (Reading.Refused k) = []

abbrev pub writing_values : Writing → List ℕ
writing_values (Written characters) = characters ∷ []
writing_values (Writing.Refused k) = []

-- the values that come back with refusal k
abbrev pub unless : ℕ → List ℕ → List ℕ
unless k values = cond (eqb k 0) values []

-- ---- written

unfoldable pub link_lines : List ℕ → List ℤ → List ℕ
link_lines [] ls = []
link_lines (a ∷ []) ls = []
link_lines (a ∷ b ∷ t) [] = []
link_lines (a ∷ b ∷ t) (z ∷ ls) = line_of (link_body a b (level_byte z)) ++ link_lines t ls

-- the file of a unit count, a table of links and their levels
unfoldable pub file_of : ℕ → List ℕ → List ℤ → List ℕ
file_of n t ls = line_of (units_body n) ++ link_lines t ls ++ line_of (end_body (link_count t))

-- its number of characters
abbrev pub file_length : ℕ → ℕ
file_length m = 18 + 15 * m

-- writing into a slice with this many places: a fresh table's refusals, 22 among them (document 02, T-10), then 14
unfoldable pub write_refusal : ℕ → List ℕ → List ℤ → ℕ → ℕ
write_refusal n t ls places = first_of (fresh_tests n t ls ++ (14, ltb places (file_length (link_count t))) ∷ [])

-- the reply, and the slice after the call
unfoldable pub write_reply : ℕ → List ℕ → List ℤ → ℕ → Writing
write_reply n t ls places = writing_of (write_refusal n t ls places) (file_length (link_count t))

unfoldable pub written_file : ℕ → List ℕ → List ℤ → List ℕ → List ℕ
written_file n t ls out = written (write_refusal n t ls (length out)) (file_of n t ls) out

-- ---- read

-- a line without its line feed, and whether it had one
abbrev pub Line : Type 0
Line = List ℕ × Bool

-- one character more at the front of the first line; a last line that no line feed ends
unfoldable pub prepend : ℕ → List Line → List Line
prepend c [] = (c ∷ [], false) ∷ []
prepend c (l ∷ ls) = (c ∷ l.0, l.1) ∷ ls

unfoldable pub lines_of : List ℕ → List Line
lines_of [] = []
lines_of (c ∷ s) = let later = lines_of s in cond (eqb c LF) (([], true) ∷ later) (prepend c later)

-- a line's kind: its first byte
abbrev pub kind_of : Line → ℕ
kind_of l = get_or (bytes_of l.0) 0 0

-- the number in the bytes i and i + 1 of a line
abbrev pub number_at : Line → ℕ → ℕ
number_at l i = word_of (get_or (bytes_of l.0) i 0) (get_or (bytes_of l.0) (i + 1) 0)

-- a line is whole: it has its line feed, only digits, a kind of a file with that kind's length, and a sum of 0 (an
-- empty line has no kind)
unfoldable pub whole : Line → Bool
whole l =
    l.1
    && all_digits l.0
    && not (eqb (frame_bytes (kind_of l)) 0)
    && eqb (length l.0) (2 * frame_bytes (kind_of l))
    && eqb (sum_of (bytes_of l.0) % 256) 0

-- 1: some line is not whole
unfoldable pub faulty_line : List Line → Bool
faulty_line [] = false
faulty_line (l ∷ ls) = not (whole l) || faulty_line ls

-- what follows the first frame: any number of 02 and 03, then one 0F, and nothing more
unfoldable pub in_order_after : List Line → Bool
in_order_after [] = false
in_order_after (l ∷ []) = eqb (kind_of l) END
in_order_after (l ∷ k ∷ ls) = link_kind (kind_of l) && in_order_after (k ∷ ls)

-- one 01, any number of 02 and 03, one 0F
unfoldable pub in_order : List Line → Bool
in_order [] = false
in_order (l ∷ ls) = eqb (kind_of l) UNITS && in_order_after ls

-- the number of 02 and 03 frames
unfoldable pub link_frames : List Line → ℕ
link_frames [] = 0
link_frames (l ∷ ls) = cond (link_kind (kind_of l)) 1 0 + link_frames ls

-- the count in the last frame
unfoldable pub stated_count : List Line → ℕ
stated_count [] = 0
stated_count (l ∷ []) = number_at l 1
stated_count (l ∷ k ∷ ls) = stated_count (k ∷ ls)

-- the unit count in the first frame
unfoldable pub units_in : List Line → ℕ
units_in [] = 0
units_in (l ∷ ls) = number_at l 1

-- the ends in the 02 and 03 frames, in order
unfoldable pub ends_in : List Line → List ℕ
ends_in [] = []
ends_in (l ∷ ls) = let later = ends_in ls in cond (link_kind (kind_of l)) (number_at l 1 ∷ number_at l 3 ∷ later) later

-- the level of a link's frame: −127 where it has none
abbrev pub level_of : Line → ℤ
level_of l = cond (eqb (kind_of l) LINK) (byte_level (get_or (bytes_of l.0) 5 0)) LOWEST

-- the levels in these frames, in order
unfoldable pub levels_in : List Line → List ℤ
levels_in [] = []
levels_in (l ∷ ls) = let later = levels_in ls in cond (link_kind (kind_of l)) (level_of l ∷ later) later

-- reading lines into slices with so many places for words and so many for levels: 1, 2, 3, 6, 16, 14, each judged over
-- the whole input
unfoldable pub read_refusal : List Line → ℕ → ℕ → ℕ
read_refusal ls places spaces =
    first_of
    ((1, faulty_line ls)
    ∷ (2, not (in_order ls))
    ∷ (3, not (eqb (stated_count ls) (link_frames ls)))
    ∷ (6, ltb max_links (link_frames ls))
    ∷ (16, level_outside (levels_in ls))
    ∷ (14, ltb places (2 * link_frames ls) || ltb spaces (link_frames ls))
    ∷ [])

-- of a file in order, by its number of links and whether a level is out of range: 6, 16, 14
unfoldable pub later_refusal : ℕ → Bool → ℕ → ℕ → ℕ
later_refusal links outside places spaces =
    first_of ((6, ltb max_links links) ∷ (16, outside) ∷ (14, ltb places (2 * links) || ltb spaces links) ∷ [])

-- the reply, and the slices after the call
unfoldable pub read_reply : List ℕ → ℕ → ℕ → Reading
read_reply s places spaces = reading_of (read_refusal (lines_of s) places spaces) (units_in (lines_of s))
    (link_frames (lines_of s))

unfoldable pub read_words : List ℕ → List ℕ → ℕ → List ℕ
read_words s words spaces = written (read_refusal (lines_of s) (length words) spaces) (ends_in (lines_of s)) words

unfoldable pub read_levels : List ℕ → ℕ → List ℤ → List ℤ
read_levels s places levels = written (read_refusal (lines_of s) places (length levels)) (levels_in (lines_of s)) levels
