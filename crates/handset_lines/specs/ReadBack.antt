-- The bytes of a frame as they are read from its line.
use Rattle.std.specs.Prelude.{◌≡◌, true, ℕ, zero, suc, ◌+◌, ◌*◌, ◌/◌, ◌%◌, ◌<◌, length, get_or}
use Rattle.std.proofs.Math.Path.{refl}
use Rattle.std.proofs.Common.{sym, ap, ap₂, ◌∙◌, arith, length-append}
use mathlib.Core.List.{List, [], ◌∷◌, ◌++◌}
use Rattle.std.proofs.Math.ListN.{get_or-append}
use Rattle.std.proofs.Math.Seq.{take_at, get_or_at}
use Rattle.file_frames.specs.Frame.{LF, word_bytes, word_of, byte_of, byte_at, word_at, hexes_of, check_byte, line_of}
use Rattle.file_frames.specs.Frame.{bytes_of}
use Rattle.file_frames.specs.Frame.{line_front}
use Rattle.file_frames.specs.FrameLaws.{Bytes, length_hexes, bytes_hexes, hexes_digits, bytes-at, check_below}
use Rattle.file_frames.specs.FrameLaws.{check_sum, line_hexes}

-- ---- lists of bytes

pub bytes-none : Bytes []
bytes-none i = omega arith

pub bytes-more : (b : ℕ) (f : List ℕ) → b < 256 → Bytes f → Bytes (b ∷ f)
bytes-more b f h k zero = h
bytes-more b f h k (suc i) = k i

pub bytes_word : (w : ℕ) (f : List ℕ) → Bytes f → Bytes (word_bytes w ++ f)
bytes_word w f k = bytes-more (w / 256 % 256) (w % 256 ∷ f) (omega arith) (bytes-more (w % 256) f (omega arith) k)

bytes-last : (f : List ℕ) (b : ℕ) → Bytes f → b < 256 → Bytes (f ++ b ∷ [])
bytes-last [] b k h = bytes-more b [] h bytes-none
bytes-last (x ∷ f) b k h = bytes-more x (f ++ b ∷ []) (k zero) (bytes-last f b (λ (i : ℕ). k (suc i)) h)

-- ---- the line of a body

module _ (f : List ℕ) (all : Bytes f) where
  -- with the check byte
  abbrev frame : List ℕ
  frame = f ++ check_byte f ∷ []

  frame-bytes : Bytes frame
  frame-bytes = bytes-last f (check_byte f) all (check_below f)

  frame-long : length frame ≡ length f + 1
  frame-long = length-append f (check_byte f ∷ [])

  digits_long : length (hexes_of frame) ≡ 2 * (length f + 1)
  digits_long = length_hexes frame ∙ ap (λ (k : ℕ). 2 * k) frame-long

  -- it is a whole frame
  pub line-front : line_front (length f + 1) (line_of f) ≡ true
  unfolding line_front
  line-front =
      rw (
        line_hexes f,
        get_or_at (hexes_of frame) LF [] 0 (2 * (length f + 1)) digits_long,
        take_at (hexes_of frame) (LF ∷ []) (2 * (length f + 1)) digits_long,
        hexes_digits frame frame-bytes,
        bytes_hexes frame frame-bytes,
        check_sum f,
      ) refl

  -- byte i stands in the characters 2 i and 2 i + 1
  pub line_byte : (i : ℕ) → i < length f → byte_at (line_of f) (2 * i) ≡ get_or f i 0
  line_byte i h =
      let p = hexes_of frame in
      let within : 2 * i + 1 < length p = omega (arith, digits_long, h) in
      let first : 2 * i < length p = omega (arith, within) in
      let read : get_or (bytes_of p) i 0 ≡ byte_of (get_or p (2 * i) 0) (get_or p (2 * i + 1) 0) =
      bytes-at p i within in
      rw (line_hexes f, get_or-append p (LF ∷ []) 0 (2 * i) first, get_or-append p (LF ∷ []) 0 (2 * i + 1) within)
      (sym read ∙ (ap (λ (g : List ℕ). get_or g i 0) (bytes_hexes frame frame-bytes)
      ∙ get_or-append f (check_byte f ∷ []) 0 i h))

  -- and the number of two bytes in four
  pub line_word : (i : ℕ) → i + 1 < length f → word_at (line_of f) (2 * i) ≡ word_of (get_or f i 0) (get_or f (i + 1) 0)
  line_word i h =
      let later : 2 * i + 2 ≡ 2 * (i + 1) = omega arith in
      let low : byte_at (line_of f) (2 * i + 2) ≡ get_or f (i + 1) 0 = ap (byte_at (line_of f)) later
      ∙ line_byte (i + 1) h in
      ap₂ word_of (line_byte i (omega (arith, h))) low

pub word_back : (w : ℕ) → w < 65536 → word_of (w / 256 % 256) (w % 256) ≡ w
word_back w h = omega arith
