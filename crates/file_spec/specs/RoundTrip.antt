-- The two round trips as calls: a table written and read back, and a file read and written back. What comes back is
-- what was given, save that a link line of kind 02 comes back as kind 03 with the level that it means (document 02,
-- T-01).
use Rattle.std.specs.Prelude.{cond, ◌||◌, List, [], ◌∷◌, ◌++◌, ℕ, eqb, ltb, length, ℤ}
use Rattle.table_levels.specs.Level.{LOWEST, level_byte}
use Rattle.table.specs.Refusals.{first_of, written}
use Rattle.table.specs.Table.{link_count, fresh_tests}
use Rattle.file_frames.specs.Frame.{LF, line_of}
use Rattle.file_frames.specs.Kinds.{BARE-LINK}
use Rattle.file_frames.specs.Bodies.{link_body}
use Rattle.file_spec.specs.File.{Line, lines_of, kind_of, number_at, units_in, link_frames, ends_in, levels_in}
use Rattle.file_spec.specs.File.{file_length, reading_of, writing_of, read_refusal, write_refusal}
use Rattle.file_spec.specs.declared.Reading.{Reading}
use Rattle.file_spec.specs.declared.Writing.{Writing}

-- ---- a table written into a slice of so many characters, and read back into so many places for words and so many for
-- levels

-- a fresh table's refusals, and 14 where a slice is too short: a table of two or more units with one that has no link
-- is not written (document 02, T-10), and so does not come back
unfoldable pub copy_refusal : ℕ → List ℕ → List ℤ → ℕ → ℕ → ℕ → ℕ
copy_refusal n t ls chars places spaces =
    first_of (fresh_tests n t ls ++ (
      14,
      ltb chars (file_length (link_count t))
          || (ltb places (length t) || ltb spaces (length ls)),
    ) ∷ [])

unfoldable pub copy_reply : ℕ → List ℕ → List ℤ → ℕ → ℕ → ℕ → Reading
copy_reply n t ls chars places spaces = reading_of (copy_refusal n t ls chars places spaces) n (link_count t)

-- the words hold the table, and the levels its levels
unfoldable pub copied_words : ℕ → List ℕ → List ℤ → ℕ → List ℕ → ℕ → List ℕ
copied_words n t ls chars words spaces = written (copy_refusal n t ls chars (length words) spaces) t words

unfoldable pub copied_levels : ℕ → List ℕ → List ℤ → ℕ → ℕ → List ℤ → List ℤ
copied_levels n t ls chars places levels = written (copy_refusal n t ls chars places (length levels)) ls levels

-- ---- a file read into so many places, and written back into a slice of so many characters

-- a line as it comes back: one of kind 02 with the level that it means, any other as it is
abbrev pub line_back : Line → List ℕ
line_back l = cond (eqb (kind_of l) BARE-LINK) (line_of (link_body (number_at l 1) (number_at l 3) (level_byte LOWEST)))
    (l.0 ++ LF ∷ [])

unfoldable pub file_back : List Line → List ℕ
file_back [] = []
file_back (l ∷ ls) = line_back l ++ file_back ls

-- 1, 2, 3, 6, 16, 14 of the file; then those of its table, and 14 again
unfoldable pub rewrite_refusal : List ℕ → ℕ → ℕ → ℕ → ℕ
rewrite_refusal s places spaces chars =
    let later = write_refusal (units_in (lines_of s)) (ends_in (lines_of s)) (levels_in (lines_of s)) chars in
    cond (eqb (read_refusal (lines_of s) places spaces) 0) later (read_refusal (lines_of s) places spaces)

unfoldable pub rewrite_reply : List ℕ → ℕ → ℕ → ℕ → Writing
rewrite_reply s places spaces chars = writing_of (rewrite_refusal s places spaces chars)
    (file_length (link_frames (lines_of s)))

-- the slice holds the file
unfoldable pub rewritten_file : List ℕ → ℕ → ℕ → List ℕ → List ℕ
rewritten_file s places spaces out = written (rewrite_refusal s places spaces (length out)) (file_back (lines_of s)) out
