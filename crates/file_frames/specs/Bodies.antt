-- The body of each kind of frame (document 01): its bytes without the check byte. A number not called one byte has two.
use Rattle.std.specs.Prelude.{ℕ, List, [], ◌∷◌, ◌++◌}
use Rattle.file_frames.specs.Frame.{word_bytes}
use Rattle.file_frames.specs.Kinds.{UNITS, LINK, END, HEAD, UNIT, LABEL, TAIL, REFUSAL}

-- ---- file

-- 01: the unit count
abbrev pub units_body : ℕ → List ℕ
units_body n = UNITS ∷ word_bytes n

-- 03: the two ends of a link, one byte for its level (02, the two ends alone, is read and not written)
abbrev pub link_body : ℕ → ℕ → ℕ → List ℕ
link_body a b level = LINK ∷ word_bytes a ++ word_bytes b ++ level ∷ []

-- 0F: the number of links
abbrev pub end_body : ℕ → List ℕ
end_body m = END ∷ word_bytes m

-- ---- report

-- 11: all rounds, requests
abbrev pub head_body : ℕ → ℕ → List ℕ
head_body rounds requests = HEAD ∷ word_bytes rounds ++ word_bytes requests

-- 12: unit, colour, parent, place, one byte for a single point
abbrev pub unit_body : ℕ → ℕ → ℕ → ℕ → ℕ → List ℕ
unit_body unit color parent place single =
    UNIT ∷ word_bytes unit ++ word_bytes color ++ word_bytes parent ++ word_bytes place ++ single ∷ []

-- 13: position, label, one byte for a lone link
abbrev pub label_body : ℕ → ℕ → ℕ → List ℕ
label_body position label lone = LABEL ∷ word_bytes position ++ word_bytes label ++ lone ∷ []

-- 1F: the numbers of single points and lone links
abbrev pub tail_body : ℕ → ℕ → List ℕ
tail_body singles lones = TAIL ∷ word_bytes singles ++ word_bytes lones

-- 1E: the number as one byte
abbrev pub refusal_body : ℕ → List ℕ
refusal_body k = REFUSAL ∷ k ∷ []
