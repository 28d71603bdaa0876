-- The kinds of frames (document 01), and the line of a file that characters begin with.
use Rattle.std.specs.Prelude.{ℕ, Bool, cond, not, ◌&&◌, ◌||◌, List, ◌==◌}
use Rattle.file_frames.specs.Frame.{byte_at, line_front}

-- file: the unit count, the two ends of a link, the two ends and the level of one (document 02, T-01), the number of
-- links
abbrev pub UNITS : ℕ
UNITS = 0x01

abbrev pub BARE-LINK : ℕ
BARE-LINK = 0x02

abbrev pub LINK : ℕ
LINK = 0x03

abbrev pub END : ℕ
END = 0x0F

-- report: all rounds and requests, a unit, a link's label, the numbers of single points and lone links
abbrev pub HEAD : ℕ
HEAD = 0x11

abbrev pub UNIT : ℕ
UNIT = 0x12

abbrev pub LABEL : ℕ
LABEL = 0x13

abbrev pub TAIL : ℕ
TAIL = 0x1F

-- the number of a refusal
abbrev pub REFUSAL : ℕ
REFUSAL = 0x1E

-- the bytes of a frame of a file kind, its kind and check byte included; 0: no kind of a file
abbrev pub frame_bytes : ℕ → ℕ
frame_bytes kind = cond (kind == UNITS) 4
    (cond (kind == BARE-LINK) 6 (cond (kind == LINK) 7 (cond (kind == END) 4 0)))

-- the kind of the frame whose line these characters begin with
abbrev pub kind_front : List ℕ → ℕ
kind_front s = byte_at s 0

-- characters begin with the line of a frame of a file kind
unfoldable pub file_front : List ℕ → Bool
file_front s = not (frame_bytes (kind_front s) == 0) && line_front (frame_bytes (kind_front s)) s

-- that kind; 0, which is none, where the line has fault 1 of document 01's list
unfoldable pub line_kind : List ℕ → ℕ
line_kind s = cond (file_front s) (kind_front s) 0

-- a line of a link, with or without a level
abbrev pub link_kind : ℕ → Bool
link_kind kind = kind == BARE-LINK || kind == LINK
