-- Frames from a place on, as a loop along the bytes or characters meets them.
use Rattle.std.specs.Prelude.{◌≡◌, ℕ, ◌+◌, ◌*◌, ◌/◌, ◌%◌, ◌<◌, ◌≤◌, true, ◌&&◌, List, [], ◌∷◌, ◌++◌, length, take, drop}
use Rattle.std.specs.Prelude.{set, nat_lt, slice_index, slice_index_or, slice_set, refl}
use Rattle.std.proofs.Common.{ap, ◌∙◌, add-one, arith, drop_of_length-le, length-drop, length-append, take-suc}
use Rattle.std.proofs.Common.{length-take-le, le-leb}
use Rattle.std.proofs.lemmas.Bool.{lt-leb}
use Rattle.base_lists.specs.Rests.{rest-one, rest-two}
use Rattle.base_lists.specs.Lent.{lent, back, back-next}
use Rattle.base_lists.specs.Puts.{put_one, put_two}
use Rattle.file_frames.specs.Frame.{LF, check_byte, line_of, line_length, line_over, digit_of, digit_value, byte_at}
use Rattle.file_frames.specs.Frame.{hex_of, hexes_of, sum_of, all_digits, bytes_of}
use Rattle.file_frames.specs.FrameLaws.{hexes_append, length_hexes}

-- ---- digits

-- two characters at a time
pub digits-later : (s : List ℕ) (i : ℕ) → i + 1 < length s
    → all_digits (drop i s) ≡ (nat_lt (digit_value (slice_index s i)) 16
    && (nat_lt (digit_value (slice_index s (i + 1))) 16 && all_digits (drop (i + 2) s)))
unfolding all_digits
digits-later s i h = rw (rest-two s i 0 h)

pub digits-end : (s : List ℕ) (i : ℕ) → length s ≤ i → all_digits (drop i s) ≡ true
unfolding all_digits
digits-end s i h = rw (drop_of_length-le s h)

-- ---- sums

pub sum-later : (f : List ℕ) (i : ℕ) → i < length f → sum_of (drop i f) ≡ slice_index f i + sum_of (drop (i + 1) f)
unfolding sum_of
sum-later f i h = rw (rest-one f i 0 h)

pub sum-end : (f : List ℕ) (i : ℕ) → length f ≤ i → sum_of (drop i f) ≡ 0
unfolding sum_of
sum-end f i h = rw (drop_of_length-le f h)

bytes-later : (s : List ℕ) (i : ℕ) → i + 1 < length s → bytes_of (drop i s) ≡ byte_at s i ∷ bytes_of (drop (i + 2) s)
unfolding bytes_of
bytes-later s i h = rw (rest-two s i 0 h)

pub digit_sum_later : (s : List ℕ) (i : ℕ) → i + 1 < length s →
    sum_of (bytes_of (drop i s)) ≡ byte_at s i + sum_of (bytes_of (drop (i + 2) s))
unfolding sum_of
digit_sum_later s i h = rw (bytes-later s i h)

bytes-short : (s : List ℕ) → length s ≤ 1 → bytes_of s ≡ []
unfolding bytes_of
bytes-short [] h = refl
bytes-short (c ∷ []) h = refl
bytes-short (c ∷ d ∷ s) h = absurd (omega arith)

pub digit_sum_end : (s : List ℕ) (i : ℕ) → length s ≤ i + 1 → sum_of (bytes_of (drop i s)) ≡ 0
unfolding sum_of
digit_sum_end s i h = rw (bytes-short (drop i s) (omega (arith, length-drop i s)))

-- ---- characters laid down

hexes_one : (b : ℕ) → hexes_of (b ∷ []) ≡ hex_of b
unfolding hexes_of
hexes_one b = refl

pub hexes_more : (f out : List ℕ) (i : ℕ) → i < length f → 2 * length f ≤ length out
    → set (slice_set (hexes_of (take i f) ++ drop (2 * i) out) (2 * i) (digit_of (slice_index f i / 16))) (2 * i + 1)
    (digit_of (slice_index f i % 16))
    ≡ hexes_of (take (i + 1) f) ++ drop (2 * (i + 1)) out
hexes_more f out i h fits =
    let b = slice_index_or f i 0 in
    let e : length (hexes_of (take i f)) ≡ 2 * i =
    length_hexes (take i f) ∙ ap (λ (n : ℕ). 2 * n) (length-take-le i f (omega arith)) in
    let further : 2 * (i + 1) ≡ 2 * i + 2 = omega arith in
    put_two (hexes_of (take i f)) out (2 * i) (digit_of (b / 16)) (digit_of (b % 16)) e (omega arith)
    ∙ rw (further, add-one i, take-suc f i 0 h, hexes_append (take i f) (b ∷ []), hexes_one b)

-- ---- a line over the front of a slice

pub line_over-fits : (f out : List ℕ) → line_length f ≤ length out → line_over f out ≡ line_of f
    ++ drop (line_length f) out
unfolding line_over
line_over-fits f out h = rw (le-leb (line_length f) (length out) h)

pub line_over-short : (f out : List ℕ) → length out < line_length f → line_over f out ≡ out
unfolding line_over
line_over-short f out h = rw (lt-leb (line_length f) (length out) h)

-- the bytes, then the check byte, then the line feed
pub line-laid : (f out : List ℕ) → line_length f ≤ length out
    → set
    (set (slice_set (hexes_of f ++ drop (2 * length f) out) (2 * length f) (digit_of (check_byte f / 16))) (2 * length f
    + 1)
    (digit_of (check_byte f % 16)))
    (2 * length f + 2)
    LF
    ≡ line_over f out
unfolding line_of
line-laid f out h =
    let n = 2 * length f in
    let e : length (hexes_of f ++ hex_of (check_byte f)) ≡ n + 2 =
    length-append (hexes_of f) (hex_of (check_byte f)) ∙ omega (arith, length_hexes f) in
    let further : n + 3 ≡ n + 2 + 1 = omega arith in
    rw (
      line_over-fits f out h,
      put_two (hexes_of f) out n (digit_of (check_byte f / 16)) (digit_of (check_byte f % 16)) (length_hexes f)
          (omega arith),
      put_one (hexes_of f ++ hex_of (check_byte f)) out (n + 2) LF e (omega arith),
      further,
    )

-- a line written to the lent rest of a slice, past what is laid down already
pub line-next : (f p out : List ℕ) (at : ℕ) → length p ≡ at → at + line_length f ≤ length out
    → back at (p ++ drop at out) (line_over f (lent at (p ++ drop at out)))
    ≡ (p ++ line_of f) ++ drop (at + line_length f) out
line-next f p out at e h =
    back-next (line_over f) (line_of f) p out at (line_length f) e
    (line_over-fits f (drop at out) (omega (arith, length-drop at out)))
