-- What is written is read back: the lines of a file that was written, and what is read from them.
use Rattle.std.specs.Prelude.{◌≡◌, true, false, cond, ◌||◌, ℕ, zero, suc, ◌+◌, ◌*◌, ◌/◌, ◌%◌, ◌≤◌, ◌<◌, ltb, length}
use Rattle.std.specs.Prelude.{get_or, ℤ}
use Rattle.std.proofs.Math.Path.{refl}
use Rattle.std.proofs.Common.{sym, ap, ◌∙◌, arith, length-append}
use mathlib.Core.List.{List, [], ◌∷◌, ◌++◌, append_assoc, append-nil}
use Rattle.std.proofs.Math.Decide.{dec_lt}
use Rattle.std.proofs.Math.ListN.{get_or-eq_default}
use borrow.Author.Tests.{eq-eqb, le-ltb}
use Rattle.base_lists.specs.Folds.{every}
use Rattle.base_lists.specs.Tests.{and_left, and_right}
use Rattle.table_levels.specs.Level.{in_range, level_byte}
use Rattle.table_levels.specs.LevelLaws.{byte_below, byte_back}
use Rattle.table.specs.Table.{link_count, max_links, stored_refusal}
use Rattle.table.proofs.Passes.{Passes, passes, table-alone, table-levelled, table-range}
use Rattle.file_frames.specs.Frame.{LF, word_bytes, hexes_of, check_byte, line_of, bytes_of}
use Rattle.file_frames.specs.FrameLaws.{Bytes, line_hexes, hexes_digits, bytes_hexes, length_hexes, check_below}
use Rattle.file_frames.specs.FrameLaws.{check_sum}
use Rattle.file_frames.specs.Kinds.{UNITS, LINK, END, frame_bytes, link_kind}
use Rattle.file_frames.specs.Bodies.{units_body, link_body, end_body}
use Rattle.file_spec.specs.File.{Line, lines_of, kind_of, number_at, whole, faulty_line, in_order_after, in_order}
use Rattle.file_spec.specs.File.{link_frames, stated_count, units_in, ends_in, level_of, levels_in, link_lines, file_of}
use Rattle.file_spec.specs.File.{read_refusal, later_refusal}
use Rattle.file_spec.specs.LineLaws.{lines_more, says_whole}
use Rattle.file_spec.proofs.LineSteps.{after-link, frames_link, ends-link, levels-link, frames_units, ends-units}
use Rattle.file_spec.proofs.LineSteps.{levels-units, units-first}
use Rattle.file_spec.proofs.ReadLaws.{counted}

-- ---- the line of one frame

-- the line that a frame with this body is read as
abbrev frame_line : List ℕ → Line
frame_line f = (hexes_of (f ++ check_byte f ∷ []), true)

bytes-more : (f : List ℕ) (x : ℕ) → Bytes f → x < 256 → Bytes (f ++ x ∷ [])
bytes-more [] x h l zero = l
bytes-more [] x h l (suc i) = omega arith
bytes-more (b ∷ f) x h l zero = h zero
bytes-more (b ∷ f) x h l (suc i) = bytes-more f x (λ (j : ℕ). h (suc j)) l i

module _ (f : List ℕ) (bytes : Bytes f) where
  all-bytes : Bytes (f ++ check_byte f ∷ [])
  all-bytes = bytes-more f (check_byte f) bytes (check_below f)

  line_first : (s : List ℕ) → lines_of (line_of f ++ s) ≡ frame_line f ∷ lines_of s
  line_first s =
      ap (λ (l : List ℕ). lines_of (l ++ s)) (line_hexes f)
      ∙ ap lines_of (append_assoc (hexes_of (f ++ check_byte f ∷ [])) (LF ∷ []) s)
      ∙ lines_more (hexes_of (f ++ check_byte f ∷ [])) s (hexes_digits (f ++ check_byte f ∷ []) all-bytes)

  line-bytes : bytes_of (frame_line f).0 ≡ f ++ check_byte f ∷ []
  line-bytes = bytes_hexes (f ++ check_byte f ∷ []) all-bytes

  line-whole : frame_bytes (get_or (f ++ check_byte f ∷ []) 0 0) ≡ length f + 1 → whole (frame_line f) ≡ true
  line-whole k =
      let long : length (f ++ check_byte f ∷ []) ≡ length f + 1 = length-append f (check_byte f ∷ []) in
      says_whole (frame_line f).0 (length f + 1)
      (record {
        digits = hexes_digits (f ++ check_byte f ∷ []) all-bytes;
        long = length_hexes (f ++ check_byte f ∷ []) ∙ ap (λ (m : ℕ). 2 * m) long;
        sums = rw line-bytes (check_sum f);
        kind = rw line-bytes k;
        known = omega arith;
      })

-- ---- the frames of a file

bytes-none : Bytes []
bytes-none i = omega arith

bytes_cons : (x : ℕ) (f : List ℕ) → x < 256 → Bytes f → Bytes (x ∷ f)
bytes_cons x f h l zero = h
bytes_cons x f h l (suc i) = l i

bytes_word : (w : ℕ) (f : List ℕ) → Bytes f → Bytes (w / 256 % 256 ∷ w % 256 ∷ f)
bytes_word w f h = bytes_cons (w / 256 % 256) (w % 256 ∷ f) (omega arith) (bytes_cons (w % 256) f (omega arith) h)

number-bytes : (k w : ℕ) → k < 256 → Bytes (k ∷ word_bytes w)
number-bytes k w h = bytes_cons k (word_bytes w) h (bytes_word w [] bytes-none)

link-bytes : (a b : ℕ) (z : ℤ) → Bytes (link_body a b (level_byte z))
link-bytes a b z =
    let level = level_byte z ∷ [] in
    bytes_cons LINK (word_bytes a ++ word_bytes b ++ level) (omega arith)
    (bytes_word a (word_bytes b ++ level) (bytes_word b level (bytes_cons (level_byte z) [] (byte_below z) bytes-none)))

-- a frame of one number: its kind, its number, and that its line is whole
abbrev number_line : ℕ → ℕ → Line
number_line k w = frame_line (k ∷ word_bytes w)

module _ (k w : ℕ) (h : k < 256) where
  number-kind : kind_of (number_line k w) ≡ k
  number-kind = rw (line-bytes (k ∷ word_bytes w) (number-bytes k w h))

  number-number : w < 65536 → number_at (number_line k w) 1 ≡ w
  number-number l = rw (line-bytes (k ∷ word_bytes w) (number-bytes k w h)) (omega arith)

  number-whole : frame_bytes k ≡ 4 → whole (number_line k w) ≡ true
  number-whole e = line-whole (k ∷ word_bytes w) (number-bytes k w h) e

-- a link's frame
abbrev link_frame : ℕ → ℕ → ℤ → Line
link_frame a b z = frame_line (link_body a b (level_byte z))

module _ (a b : ℕ) (z : ℤ) where
  read-bytes : bytes_of (link_frame a b z).0 ≡ link_body a b (level_byte z) ++ check_byte (link_body a b (level_byte z))
      ∷ []
  read-bytes = line-bytes (link_body a b (level_byte z)) (link-bytes a b z)

  link-kind : kind_of (link_frame a b z) ≡ LINK
  link-kind = rw read-bytes

  link_kinds : link_kind (kind_of (link_frame a b z)) ≡ true
  link_kinds = ap link_kind link-kind

  link-first : a < 65536 → number_at (link_frame a b z) 1 ≡ a
  link-first l = rw read-bytes (omega arith)

  link-second : b < 65536 → number_at (link_frame a b z) 3 ≡ b
  link-second l = rw read-bytes (omega arith)

  link-level : in_range z ≡ true → level_of (link_frame a b z) ≡ z
  link-level e = rw (link-kind, read-bytes) (byte_back z e)

  link-whole : whole (link_frame a b z) ≡ true
  link-whole = line-whole (link_body a b (level_byte z)) (link-bytes a b z) refl

-- ---- the lines of a file

unfoldable link_frames_of : List ℕ → List ℤ → List Line
link_frames_of [] ls = []
link_frames_of (a ∷ []) ls = []
link_frames_of (a ∷ b ∷ t) [] = []
link_frames_of (a ∷ b ∷ t) (z ∷ ls) = link_frame a b z ∷ link_frames_of t ls

links-lines : (t : List ℕ) (ls : List ℤ) (s : List ℕ) → lines_of (link_lines t ls ++ s) ≡ link_frames_of t ls
    ++ lines_of s
unfolding link_lines link_frames_of
links-lines [] ls s = refl
links-lines (a ∷ []) ls s = refl
links-lines (a ∷ b ∷ t) [] s = refl
links-lines (a ∷ b ∷ t) (z ∷ ls) s =
    let f = link_body a b (level_byte z) in
    ap lines_of (append_assoc (line_of f) (link_lines t ls) s)
    ∙ line_first f (link-bytes a b z) (link_lines t ls ++ s)
    ∙ ap (λ (l : List Line). link_frame a b z ∷ l) (links-lines t ls s)

no_line : lines_of [] ≡ []
unfolding lines_of
no_line = refl

file-lines : (n : ℕ) (t : List ℕ) (ls : List ℤ)
    → lines_of (file_of n t ls) ≡ number_line UNITS n ∷ (link_frames_of t ls ++ number_line END (link_count t) ∷ [])
unfolding file_of
file-lines n t ls =
    let u = line_of (units_body n) in
    let e = line_of (end_body (link_count t)) in
    ap lines_of (append_assoc u (link_lines t ls) e)
    ∙ line_first (units_body n) (number-bytes UNITS n (omega arith)) (link_lines t ls ++ e)
    ∙ ap (λ (l : List Line). number_line UNITS n ∷ l)
    (links-lines t ls e
    ∙ ap (λ (l : List Line). link_frames_of t ls ++ l)
    (ap lines_of (sym (append-nil e))
    ∙ line_first (end_body (link_count t)) (number-bytes END (link_count t) (omega arith)) []
    ∙ ap (λ (l : List Line). number_line END (link_count t) ∷ l) no_line))

-- ---- what is read from them

stated-past : (l e : Line) (ls : List Line) → stated_count (l ∷ (ls ++ e ∷ [])) ≡ stated_count (ls ++ e ∷ [])
unfolding stated_count
stated-past l e [] = refl
stated-past l e (m ∷ ls) = refl

module _ (e : Line) (is_end : kind_of e ≡ END) (is_whole : whole e ≡ true) where
  end-order : in_order_after (e ∷ []) ≡ true
  unfolding in_order_after
  end-order = eq-eqb (kind_of e) END is_end

  end-count : link_frames (e ∷ []) ≡ 0
  unfolding link_frames
  end-count = rw is_end

  end-stated : stated_count (e ∷ []) ≡ number_at e 1
  unfolding stated_count
  end-stated = refl

  end-ends : ends_in (e ∷ []) ≡ []
  unfolding ends_in
  end-ends = rw is_end

  end-levels : levels_in (e ∷ []) ≡ []
  unfolding levels_in
  end-levels = rw is_end

  tail-faults : (t : List ℕ) (ls : List ℤ) → faulty_line (link_frames_of t ls ++ e ∷ []) ≡ false
  unfolding faulty_line link_frames_of
  tail-faults [] ls = rw is_whole
  tail-faults (a ∷ []) ls = rw is_whole
  tail-faults (a ∷ b ∷ t) [] = rw is_whole
  tail-faults (a ∷ b ∷ t) (z ∷ ls) = rw (link-whole a b z) (tail-faults t ls)

  tail-order : (t : List ℕ) (ls : List ℤ) → in_order_after (link_frames_of t ls ++ e ∷ []) ≡ true
  unfolding link_frames_of
  tail-order [] ls = end-order
  tail-order (a ∷ []) ls = end-order
  tail-order (a ∷ b ∷ t) [] = end-order
  tail-order (a ∷ b ∷ t) (z ∷ ls) = after-link (link_frame a b z) (link_frames_of t ls ++ e ∷ []) (link_kinds a b z)
      ∙ tail-order t ls

  tail-stated : (t : List ℕ) (ls : List ℤ) → stated_count (link_frames_of t ls ++ e ∷ []) ≡ number_at e 1
  unfolding link_frames_of
  tail-stated [] ls = end-stated
  tail-stated (a ∷ []) ls = end-stated
  tail-stated (a ∷ b ∷ t) [] = end-stated
  tail-stated (a ∷ b ∷ t) (z ∷ ls) = stated-past (link_frame a b z) e (link_frames_of t ls) ∙ tail-stated t ls

  tail-count : (t : List ℕ) (ls : List ℤ) → length ls ≡ link_count t →
      link_frames (link_frames_of t ls ++ e ∷ []) ≡ link_count t
  unfolding link_frames_of
  tail-count [] ls q = end-count
  tail-count (a ∷ []) ls q = end-count
  tail-count (a ∷ b ∷ t) [] q = absurd (omega (arith, q))
  tail-count (a ∷ b ∷ t) (z ∷ ls) q =
      frames_link (link_frame a b z) (link_frames_of t ls ++ e ∷ []) (link_kinds a b z)
      ∙ omega (arith, tail-count t ls (omega (arith, q)))

  tail-ends : (t : List ℕ) (ls : List ℤ) → length ls ≡ link_count t → ((i : ℕ) → get_or t i 0 < 65536) →
      length t ≡ 2 * link_count t
      → ends_in (link_frames_of t ls ++ e ∷ []) ≡ t
  unfolding link_frames_of
  tail-ends [] ls q h l = end-ends
  tail-ends (a ∷ []) ls q h l = absurd (omega arith)
  tail-ends (a ∷ b ∷ t) [] q h l = absurd (omega (arith, q))
  tail-ends (a ∷ b ∷ t) (z ∷ ls) q h l =
      ends-link (link_frame a b z) (link_frames_of t ls ++ e ∷ []) (link_kinds a b z)
      ∙ rw (
        link-first a b z (h 0),
        link-second a b z (h 1),
        tail-ends t ls (omega (arith, q)) (λ (i : ℕ). h (suc (suc i))) (omega arith),
      )

  tail-levels : (t : List ℕ) (ls : List ℤ) → length ls ≡ link_count t → every in_range ls ≡ true →
      levels_in (link_frames_of t ls ++ e ∷ []) ≡ ls
  unfolding link_frames_of
  tail-levels [] [] q r = end-levels
  tail-levels [] (z ∷ ls) q r = absurd (omega (arith, q))
  tail-levels (a ∷ []) [] q r = end-levels
  tail-levels (a ∷ []) (z ∷ ls) q r = absurd (omega (arith, q))
  tail-levels (a ∷ b ∷ t) [] q r = absurd (omega (arith, q))
  tail-levels (a ∷ b ∷ t) (z ∷ ls) q r =
      levels-link (link_frame a b z) (link_frames_of t ls ++ e ∷ []) (link_kinds a b z)
      ∙ rw (
        link-level a b z (and_left (in_range z) (every in_range ls) r),
        tail-levels t ls (omega (arith, q)) (and_right (in_range z) (every in_range ls) r),
      )

-- ---- the whole file

-- the words of a table that passes are numbers of two bytes
words_small : (n : ℕ) (t : List ℕ) → Passes n t → (i : ℕ) → get_or t i 0 < 65536
words_small n t p i = go (dec_lt i (length t))
  where
    go : Dec (i < length t) → get_or t i 0 < 65536
    go (yes h) = omega (arith, p.ends_exist i h, p.few_units)
    go (no h) = let past : get_or t i 0 ≡ 0 = get_or-eq_default t 0 (omega arith) in omega arith

file-faults : (u : Line) (ls : List Line) → whole u ≡ true → faulty_line ls ≡ false → faulty_line (u ∷ ls) ≡ false
unfolding faulty_line
file-faults u ls w h = rw w h

file-order : (u : Line) (ls : List Line) → kind_of u ≡ UNITS → in_order_after ls ≡ true → in_order (u ∷ ls) ≡ true
unfolding in_order
file-order u ls k h = rw k h

-- what reading a written file finds
pub record ReadBack (n : ℕ) (t : List ℕ) (ls : List ℤ) : Type 0 where
  pub refusal : (places spaces : ℕ) → read_refusal (lines_of (file_of n t ls)) places spaces
      ≡ cond (ltb places (length t) || ltb spaces (length ls)) 14 0
  pub units : units_in (lines_of (file_of n t ls)) ≡ n
  pub links : link_frames (lines_of (file_of n t ls)) ≡ link_count t
  pub ends : ends_in (lines_of (file_of n t ls)) ≡ t
  pub levels : levels_in (lines_of (file_of n t ls)) ≡ ls

-- every table that passes the checks is read back from its file
pub written_read : (n : ℕ) (t : List ℕ) (ls : List ℤ) → stored_refusal n t ls ≡ 0 → ReadBack n t ls
unfolding later_refusal
written_read n t ls h =
    let p = passes n t (table-alone n t ls h) in
    let m = link_count t in
    let few : m ≤ 1024 = p.few_links in
    let some : n ≤ 256 = p.few_units in
    let one : length ls ≡ m = table-levelled n t ls h in
    let ranged = table-range n t ls h in
    let u = number_line UNITS n in
    let e = number_line END m in
    let rest = link_frames_of t ls ++ e ∷ [] in
    let k = number-kind UNITS n (omega arith) in
    let end = number-kind END m (omega arith) in
    let endWhole = number-whole END m (omega arith) refl in
    let count : link_frames (u ∷ rest) ≡ m = frames_units u rest k ∙ tail-count e end endWhole t ls one in
    let stated : stated_count (u ∷ rest) ≡ m =
    stated-past u e (link_frames_of t ls) ∙ tail-stated e end endWhole t ls
    ∙ number-number END m (omega arith) (omega arith) in
    let levels : levels_in (u ∷ rest) ≡ ls = levels-units u rest k ∙ tail-levels e end endWhole t ls one ranged in
    let faults = file-faults u rest (number-whole UNITS n (omega arith) refl) (tail-faults e end endWhole t ls) in
    let order = file-order u rest k (tail-order e end endWhole t ls) in
    let pairs : 2 * m ≡ length t = sym p.pairs in
    record {
      refusal = λ (places spaces : ℕ).
          rw (file-lines n t ls)
          (sym (counted (u ∷ rest) places spaces faults order (stated ∙ sym count))
          ∙ rw (count, levels, ranged, le-ltb max_links m few, pairs, one));
      units = rw (file-lines n t ls) (units-first u rest ∙ number-number UNITS n (omega arith) (omega arith));
      links = rw (file-lines n t ls) count;
      ends =
          rw (file-lines n t ls)
          (ends-units u rest k ∙ tail-ends e end endWhole t ls one (words_small n t p) p.pairs);
      levels = rw (file-lines n t ls) levels;
    }
