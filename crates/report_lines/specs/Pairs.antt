-- The two characters of a byte as one word, a table of them for all bytes, and a line laid down by stores of pairs, one
-- after the other.
use Rattle.std.specs.Prelude.{◌≡◌, ℕ, ◌+◌, ◌-◌, ◌*◌, ◌/◌, ◌%◌, ◌<◌, ◌≤◌, List, [], ◌∷◌, ◌++◌, length, drop, set}
use Rattle.std.specs.Prelude.{replicate, slice_index, slice_set, refl}
use Rattle.std.proofs.Common.{◌∙◌, append_assoc, add-one, arith, length-append, lt-ltb, le-ltb}
use Rattle.std.proofs.Math.Decide.{dec_lt}
use Rattle.std.proofs.lemmas.List.{length-replicate}
use Rattle.base_lists.specs.Tables.{over, length_over, get_d_over, set-over}
use Rattle.base_lists.specs.Puts.{put_two}
use Rattle.file_frames.specs.Frame.{LF, digit_of, hex_of, hexes_of, sum_of, check_byte, word_bytes, line_over}
use Rattle.file_frames.specs.Kinds.{UNIT, LABEL}
use Rattle.file_frames.specs.Bodies.{unit_body, label_body}
use Rattle.file_frames.specs.FrameLaws.{hexes_append, length_hexes, sum-append, sum_check}
use Rattle.file_frames.specs.FrameRests.{line-laid}

-- the first character in the low byte
abbrev pub pair_of : ℕ → ℕ
pair_of b = digit_of (b / 16) + 256 * digit_of (b % 16)

-- the pairs of the bytes below n, in a table with a place for each byte
unfoldable pub pairs_to : ℕ → List ℕ
pairs_to n = over n pair_of (replicate 256 0)

abbrev pub pair_table : List ℕ
pair_table = pairs_to 256

-- ---- digits

-- a letter's digit and six more reach 16
pub digit_sum : (d : ℕ) → d < 16 → 48 + d + 7 * ((d + 6) / 16) ≡ digit_of d
digit_sum d h = go (dec_lt d 10)
  where
    go : Dec (d < 10) → 48 + d + 7 * ((d + 6) / 16) ≡ digit_of d
    go (yes l) = rw (lt-ltb d 10 l) (omega arith)
    go (no n) = rw (le-ltb d 10 (omega arith)) (omega arith)

pub digit_below : (d : ℕ) → d < 16 → digit_of d < 128
digit_below d h = omega (arith, digit_sum d h)

-- ---- the table

pub pairs-none : replicate 256 0 ≡ pairs_to 0
unfolding pairs_to
pairs-none = refl

pub pairs-more : (n : ℕ) → slice_set (pairs_to n) n (pair_of n) ≡ pairs_to (n + 1)
unfolding pairs_to
pairs-more n = rw (add-one n) (set-over n pair_of (replicate 256 0))

pub length_pairs : (n : ℕ) → length (pairs_to n) ≡ 256
unfolding pairs_to
length_pairs n = length_over n pair_of (replicate 256 0) ∙ length-replicate {A = ℕ} 256 0

pub pair-at : (b : ℕ) → b < 256 → slice_index pair_table b ≡ pair_of b
unfolding pairs_to
pair-at b h = get_d_over 256 pair_of (replicate 256 0) b 0 h (omega (arith, length-replicate {A = ℕ} 256 0))

-- the bytes of a pair are the two characters
pub pair-first : (b : ℕ) → b < 256 → pair_of b % 256 ≡ digit_of (b / 16)
pair-first b h = omega (arith, digit_below (b / 16) (omega arith), digit_below (b % 16) (omega arith))

pub pair-second : (b : ℕ) → b < 256 → pair_of b / 256 % 256 ≡ digit_of (b % 16)
pair-second b h = omega (arith, digit_below (b / 16) (omega arith), digit_below (b % 16) (omega arith))

-- ---- stores

-- a slice after the characters of byte b were stored at a place, and those of number w
unfoldable pub hex_at : ℕ → ℕ → List ℕ → List ℕ
hex_at at b out = slice_set (slice_set out at (digit_of (b / 16))) (at + 1) (digit_of (b % 16))

abbrev pub word_hex_at : ℕ → ℕ → List ℕ → List ℕ
word_hex_at at w out = hex_at (at + 2) (w % 256) (hex_at at (w / 256 % 256) out)

pub hex_stored : (at b : ℕ) (out : List ℕ) →
    slice_set (slice_set out at (digit_of (b / 16))) (at + 1) (digit_of (b % 16)) ≡ hex_at at b out
unfolding hex_at
hex_stored at b out = refl

hexes_one : (b : ℕ) → hexes_of (b ∷ []) ≡ hex_of b
unfolding hexes_of
hexes_one b = refl

hexes_none : hexes_of [] ≡ []
unfolding hexes_of
hexes_none = refl

-- a byte more, past those laid down
hex_more : (f out : List ℕ) (at b : ℕ) → 2 * length f ≡ at → at + 2 ≤ length out
    → hex_at at b (hexes_of f ++ drop at out) ≡ hexes_of (f ++ b ∷ []) ++ drop (at + 2) out
unfolding hex_at
hex_more f out at b e h =
    put_two (hexes_of f) out at (digit_of (b / 16)) (digit_of (b % 16)) (length_hexes f ∙ e) h
    ∙ rw (hexes_append f (b ∷ []), hexes_one b)

hex_first : (b : ℕ) (out : List ℕ) → 2 ≤ length out → hex_at 0 b out ≡ hexes_of (b ∷ []) ++ drop 2 out
hex_first b out h = rw hexes_none at (hex_more [] out 0 b refl h)

word_more : (f out : List ℕ) (at w : ℕ) → 2 * length f ≡ at → at + 4 ≤ length out
    → word_hex_at at w (hexes_of f ++ drop at out) ≡ hexes_of (f ++ word_bytes w) ++ drop (at + 4) out
word_more f out at w e h =
    let high = w / 256 % 256 in
    let further : at + 4 ≡ at + 2 + 2 = omega arith in
    let longer : 2 * length (f ++ high ∷ []) ≡ at + 2 = omega (arith, length-append f (high ∷ [])) in
    rw (
      hex_more f out at high e (omega arith),
      hex_more (f ++ high ∷ []) out (at + 2) (w % 256) longer (omega arith),
      further,
      append_assoc f (high ∷ []) (w % 256 ∷ []),
    )

-- the check byte from the sum of the bytes laid down, and the line feed
row-closed : (f out : List ℕ) (at : ℕ) → 2 * length f ≡ at → at + 3 ≤ length out
    → slice_set (hex_at at ((256 - sum_of f % 256) % 256) (hexes_of f ++ drop at out)) (at + 2) LF ≡ line_over f out
unfolding hex_at check_byte
row-closed f out at e h = rw (← e) (line-laid f out (omega arith))

-- ---- whole lines

-- a slice after the stores of a row: kind, numbers and flag, then the byte that brings the sum to 0, then the line feed
abbrev unit_stored : ℕ → ℕ → ℕ → ℕ → ℕ → ℕ → List ℕ → List ℕ
unit_stored sum unit color parent place single out =
    set (hex_at 20 ((256 - sum) % 256) (hex_at 18 single
    (word_hex_at 14 place (word_hex_at 10 parent (word_hex_at 6 color (word_hex_at 2 unit (hex_at 0 UNIT out))))))) 22
    LF

abbrev label_stored : ℕ → ℕ → ℕ → ℕ → List ℕ → List ℕ
label_stored sum position label lone out =
    set (hex_at 12 ((256 - sum) % 256)
    (hex_at 10 lone (word_hex_at 6 label (word_hex_at 2 position (hex_at 0 LABEL out))))) 14
    LF

pub unit-laid : (unit color parent place single : ℕ) (out : List ℕ) → 23 ≤ length out
    → unit_stored (sum_of (unit_body unit color parent place single) % 256) unit color parent place single out
    ≡ line_over (unit_body unit color parent place single) out
unit-laid unit color parent place single out h =
    let u : List ℕ = UNIT ∷ word_bytes unit in
    let c : List ℕ = u ++ word_bytes color in
    let p : List ℕ = c ++ word_bytes parent in
    let a : List ℕ = p ++ word_bytes place in
    rw (
      hex_first UNIT out (omega arith),
      word_more (UNIT ∷ []) out 2 unit refl (omega arith),
      word_more u out 6 color refl (omega arith),
      word_more c out 10 parent refl (omega arith),
      word_more p out 14 place refl (omega arith),
      hex_more a out 18 single refl (omega arith),
    ) (row-closed (a ++ single ∷ []) out 20 refl (omega arith))

pub label_laid : (position label lone : ℕ) (out : List ℕ) → 15 ≤ length out
    → label_stored (sum_of (label_body position label lone) % 256) position label lone out
    ≡ line_over (label_body position label lone) out
label_laid position label lone out h =
    let j : List ℕ = LABEL ∷ word_bytes position in
    let x : List ℕ = j ++ word_bytes label in
    rw (
      hex_first LABEL out (omega arith),
      word_more (LABEL ∷ []) out 2 position refl (omega arith),
      word_more j out 6 label refl (omega arith),
      hex_more x out 10 lone refl (omega arith),
    ) (row-closed (x ++ lone ∷ []) out 12 refl (omega arith))

-- ---- sums in eight bits

pub word_sum : (sum w a r : ℕ) → a ≡ (sum + w / 256 % 256) % 256 → r ≡ (a + w % 256) % 256 →
    r ≡ (sum + w / 256 % 256 + w % 256) % 256
word_sum sum w a r p q = omega arith

-- the sum of a body with one part more
sum-word : (f : List ℕ) (w a r : ℕ) → a ≡ sum_of f % 256 → r ≡ (a + w / 256 % 256 + w % 256) % 256 →
    r ≡ sum_of (f ++ word_bytes w) % 256
unfolding sum_of
sum-word f w a r p q = omega (arith, sum-append f (word_bytes w))

sum_byte : (f : List ℕ) (b a r : ℕ) → a ≡ sum_of f % 256 → r ≡ (a + b) % 256 → r ≡ sum_of (f ++ b ∷ []) % 256
sum_byte f b a r p q = omega (arith, sum_check f b)

sum-kind : (kind : ℕ) → kind < 256 → kind ≡ sum_of (kind ∷ []) % 256
unfolding sum_of
sum-kind kind h = omega arith

-- part by part
pub unit-sum : (unit color parent place single a b c d r : ℕ)
    → a ≡ (UNIT + unit / 256 % 256 + unit % 256) % 256
    → b ≡ (a + color / 256 % 256 + color % 256) % 256
    → c ≡ (b + parent / 256 % 256 + parent % 256) % 256
    → d ≡ (c + place / 256 % 256 + place % 256) % 256
    → r ≡ (d + single) % 256
    → r ≡ sum_of (unit_body unit color parent place single) % 256
unit-sum unit color parent place single a b c d r ea eb ec ed er =
    let f : List ℕ = UNIT ∷ word_bytes unit in
    let g : List ℕ = f ++ word_bytes color in
    let h : List ℕ = g ++ word_bytes parent in
    sum_byte (h ++ word_bytes place) single d r
    (sum-word h place c d (sum-word g parent b c
    (sum-word f color a b (sum-word (UNIT ∷ []) unit UNIT a (sum-kind UNIT (omega arith)) ea) eb) ec) ed)
    er

pub label_sum : (position label lone a b r : ℕ)
    → a ≡ (LABEL + position / 256 % 256 + position % 256) % 256
    → b ≡ (a + label / 256 % 256 + label % 256) % 256
    → r ≡ (b + lone) % 256
    → r ≡ sum_of (label_body position label lone) % 256
label_sum position label lone a b r ea eb er =
    let f : List ℕ = LABEL ∷ word_bytes position in
    sum_byte (f ++ word_bytes label) lone b r
    (sum-word f label a b (sum-word (LABEL ∷ []) position LABEL a (sum-kind LABEL (omega arith)) ea) eb) er
