-- Document 01's file of case B, as it stands there: what is read from it, and the file that is written of that, with a
-- level in each link line.
use Rattle.std.specs.Prelude.{◌≡◌, refl, List, [], ◌∷◌, ◌++◌, ℕ, ℤ}
use Rattle.base_lists.specs.Folds.{every}
use Rattle.base_lists.specs.Text.{characters}
use Rattle.table_levels.specs.Level.{LOWEST, in_range, twos}
use Rattle.file_frames.specs.Frame.{hexes_of, sum_of, check_byte, line_of, all_digits, bytes_of}
use Rattle.file_spec.specs.File.{link_lines, file_of, lines_of, prepend, whole, faulty_line, in_order_after, in_order}
use Rattle.file_spec.specs.File.{link_frames, stated_count, units_in, ends_in, levels_in, read_refusal}

unfoldable pub case_b : List ℕ
case_b = 0 ∷ 1 ∷ 1 ∷ 2 ∷ 0 ∷ 2 ∷ 2 ∷ 3 ∷ []

-- a link line of kind 02 means the lowest level
unfoldable pub levels_b : List ℤ
levels_b = LOWEST ∷ LOWEST ∷ LOWEST ∷ LOWEST ∷ []

unfoldable pub file_b : List ℕ
file_b =
    characters "010004FB\n"
    ++ characters "0200000001FD\n"
    ++ characters "0200010002FB\n"
    ++ characters "0200000002FC\n"
    ++ characters "0200020003F9\n"
    ++ characters "0F0004ED\n"

unfoldable pub levelled_b : List ℕ
levelled_b =
    characters "010004FB\n"
    ++ characters "0300000001817B\n"
    ++ characters "03000100028179\n"
    ++ characters "0300000002817A\n"
    ++ characters "03000200038177\n"
    ++ characters "0F0004ED\n"

pub read-B : (read_refusal (lines_of file_b) 2048 1024 ≡ 0) × (units_in (lines_of file_b) ≡ 4)
    × (ends_in (lines_of file_b) ≡ case_b) × (levels_in (lines_of file_b) ≡ levels_b)
unfolding case_b levels_b file_b lines_of prepend whole faulty_line in_order_after in_order link_frames stated_count
    units_in
    ends_in levels_in read_refusal all_digits bytes_of sum_of in_range
read-B = (refl, refl, refl, refl)

pub written-B : file_of 4 case_b levels_b ≡ levelled_b
unfolding case_b levels_b levelled_b file_of link_lines line_of hexes_of check_byte sum_of twos
written-B = refl
