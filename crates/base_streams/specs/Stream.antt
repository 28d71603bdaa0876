-- A stream of numbers: bytes, base ten, one space or one line feed after a number (or the stream's end), `-` before a
-- negative one.
use Rattle.std.specs.Prelude.{Bool, true, false, cond, not, ◌&&◌, ◌||◌, List, [], ◌∷◌, ℕ, zero, suc, ◌+◌, ◌*◌, ◌-◌, eqb}
use Rattle.std.specs.Prelude.{leb, ltb, length, get_or, drop, ℤ, pos, negsuc}
use Rattle.base_streams.specs.declared.Cursor.{Cursor}
use Rattle.base_streams.specs.declared.Number.{Number}
use Rattle.base_streams.specs.declared.Level.{Level}

-- the byte c is one digit more of a number that was v so far and has at most nine digits
abbrev pub goes : ℕ → ℕ → Bool
goes v c = leb 48 c && (leb c 57 && ltb v 100000000)

-- the value of the digits at the front, after digits that made v; and how many they are
unfoldable pub value_of : ℕ → List ℕ → ℕ
value_of v [] = v
value_of v (c ∷ s) = let more = value_of (10 * v + (c - 48)) s in cond (goes v c) more v

unfoldable pub width : ℕ → List ℕ → ℕ
width v [] = 0
width v (c ∷ s) = let more = suc (width (10 * v + (c - 48)) s) in cond (goes v c) more 0

-- a number ends at the stream's end, or at a space or a line feed, which goes with it
abbrev pub closed : List ℕ → ℕ → Bool
closed s end = leb (length s) end || (eqb (get_or s end 0) 32 || eqb (get_or s end 0) 10)

abbrev pub after : List ℕ → ℕ → ℕ
after s end = cond (ltb end (length s)) (end + 1) end

-- the cursor at the beginning, and whether a stream was read to its end
abbrev pub begun : Cursor
begun = record { at = 0; fault = false }

abbrev pub ended_at : List ℕ → Cursor → Bool
ended_at s c = not c.fault && leb (length s) c.at

-- the number whose digits begin at `from`; a fault gives 0, stays, and leaves the cursor's place
unfoldable pub part_at : List ℕ → Cursor → ℕ → Number
part_at s c from =
    let end = from + width 0 (drop from s) in
    cond (not c.fault && (ltb from end && closed s end))
    (record { value = value_of 0 (drop from s); cursor = record { at = after s end; fault = false } })
    (record { value = 0; cursor = record { at = c.at; fault = true } })

-- the next number
abbrev pub number_at : List ℕ → Cursor → Number
number_at s c = part_at s c c.at

-- past a `-`
abbrev pub start : List ℕ → ℕ → ℕ
start s at = cond (eqb (get_or s at 0) 45) (at + 1) at

abbrev pub signed : Bool → ℕ → ℤ
signed false v = pos v
signed true zero = pos zero
signed true (suc v) = negsuc v

-- the next level
unfoldable pub level_at : List ℕ → Cursor → Level
level_at s c =
    let p = part_at s c (start s c.at) in
    cond (p.cursor.fault || ltb 32767 p.value)
    (record { value = pos 0; cursor = record { at = c.at; fault = true } })
    (record { value = signed (eqb (get_or s c.at 0) 45) p.value; cursor = p.cursor })
