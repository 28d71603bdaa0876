-- What was read is written back: the file made of what an accepted file holds is that file, each link line with its
-- level.
use Rattle.std.specs.Prelude.{◌≡◌, refl, Bool, true, false, cond, not, ◌&&◌, ◌||◌, ◌⊎◌, List, [], ◌∷◌, ◌++◌, ℕ, ◌+◌}
use Rattle.std.specs.Prelude.{◌/◌, ◌%◌, ◌<◌, eqb, length, get_or, ℤ}
use Rattle.std.proofs.Common.{sym, ap, subst, ◌∙◌, inl, inr, append_assoc, append-nil, arith, eqb-true, eq-eqb, ne_eqb}
use Rattle.std.proofs.lemmas.Bool.{false≢true, eqb-false, not-false}
use Rattle.std.proofs.Math.Decide.{ℕ_discrete}
use Rattle.base_lists.specs.Tests.{or_cases, or_false-left, or_false-right, and_left, and_right}
use Rattle.base_lists.specs.Tables.{listed_as}
use Rattle.table_levels.specs.Level.{LOWEST, level_byte, byte_level}
use Rattle.table_levels.specs.LevelLaws.{twos-signed}
use Rattle.table.specs.Table.{link_count}
use Rattle.file_frames.specs.Frame.{LF, word_bytes, word_of, hexes_of, check_byte, line_of, bytes_of, sum_of}
use Rattle.file_frames.specs.FrameLaws.{line_hexes, hexes_bytes, length-bytes, bytes_below, check_unique, sum_check}
use Rattle.file_frames.specs.Kinds.{UNITS, BARE-LINK, LINK, END, frame_bytes, link_kind}
use Rattle.file_frames.specs.Bodies.{units_body, link_body, end_body}
use Rattle.file_spec.specs.File.{Line, lines_of, kind_of, number_at, whole, faulty_line, in_order_after, in_order}
use Rattle.file_spec.specs.File.{stated_count, units_in, ends_in, level_of, levels_in, link_lines, file_of}
use Rattle.file_spec.specs.File.{read_refusal}
use Rattle.file_spec.specs.RoundTrip.{line_back, file_back}
use Rattle.file_spec.specs.LineLaws.{Whole, whole-line, line-fed}
use Rattle.file_spec.proofs.LineSteps.{ends-link, ends-units, levels-link, levels-units, stated-later}
use Rattle.file_spec.proofs.LineSteps.{stated-after, units-first, first-units, no_order_lem, length-ends}
use Rattle.file_spec.specs.LinesRight.{joined, lines-right}
use Rattle.file_spec.proofs.ReadLaws.{Sound, accepted-sound}

-- ---- one line

-- a whole line is the line of its bytes without the last
line-back : (p f : List ℕ) (x bytes : ℕ) → Whole p bytes → bytes_of p ≡ f ++ x ∷ [] → x < 256 → line_of f ≡ p ++ LF ∷ []
line-back p f x bytes w e h =
    let sum : (sum_of f + x) % 256 ≡ 0 = rw (← sum_check f x, ← e) w.sums in
    let check : x ≡ check_byte f = check_unique f x h sum in
    line_hexes f
    ∙ ap (λ (g : List ℕ). hexes_of g ++ LF ∷ []) (ap (λ (y : ℕ). f ++ y ∷ []) (sym check) ∙ sym e)
    ∙ ap (λ (g : List ℕ). g ++ LF ∷ []) (hexes_bytes p bytes w.long w.digits)

-- four bytes, and seven
four : (f : List ℕ) → length f ≡ 4 → f ≡ get_or f 0 0 ∷ get_or f 1 0 ∷ get_or f 2 0 ∷ get_or f 3 0 ∷ []
four f e = listed_as f 0 4 e

seven : (f : List ℕ) → length f ≡ 7
    → f ≡ get_or f 0 0 ∷ get_or f 1 0 ∷ get_or f 2 0 ∷ get_or f 3 0 ∷ get_or f 4 0 ∷ get_or f 5 0 ∷ get_or f 6 0 ∷ []
seven f e = listed_as f 0 7 e

word-high : (x y : ℕ) → x < 256 → y < 256 → word_of x y / 256 % 256 ≡ x
word-high x y hx hy = omega arith

word_low : (x y : ℕ) → y < 256 → word_of x y % 256 ≡ y
word_low x y hy = omega arith

number-back : (p : List ℕ) → Whole p 4 → line_of (get_or (bytes_of p) 0 0 ∷ word_bytes (number_at (p, true) 1)) ≡ p
    ++ LF ∷ []
number-back p w =
    let f = bytes_of p in
    let b = bytes_below p in
    let e : f ≡ get_or f 0 0 ∷ get_or f 1 0 ∷ get_or f 2 0 ∷ get_or f 3 0 ∷ [] =
    four f (length-bytes p ∙ omega (arith, w.long)) in
    rw (word-high (get_or f 1 0) (get_or f 2 0) (b 1) (b 2), word_low (get_or f 1 0) (get_or f 2 0) (b 2))
    (line-back p (get_or f 0 0 ∷ get_or f 1 0 ∷ get_or f 2 0 ∷ []) (get_or f 3 0) 4 w e (b 3))

link-back : (p : List ℕ) → Whole p 7
    → line_of (get_or (bytes_of p) 0 0 ∷ word_bytes (number_at (p, true) 1) ++ word_bytes (number_at (p, true) 3)
    ++ get_or (bytes_of p) 5 0 ∷ []) ≡ p ++ LF ∷ []
link-back p w =
    let f = bytes_of p in
    let b = bytes_below p in
    let e : f ≡ get_or f 0 0 ∷ get_or f 1 0 ∷ get_or f 2 0 ∷ get_or f 3 0 ∷ get_or f 4 0 ∷ get_or f 5 0 ∷ get_or f 6 0
    ∷ [] =
    seven f (length-bytes p ∙ omega (arith, w.long)) in
    rw (
      word-high (get_or f 1 0) (get_or f 2 0) (b 1) (b 2),
      word_low (get_or f 1 0) (get_or f 2 0) (b 2),
      word-high (get_or f 3 0) (get_or f 4 0) (b 3) (b 4),
      word_low (get_or f 3 0) (get_or f 4 0) (b 4),
    )
    (line-back p (get_or f 0 0 ∷ get_or f 1 0 ∷ get_or f 2 0 ∷ get_or f 3 0 ∷ get_or f 4 0 ∷ get_or f 5 0
    ∷ []) (get_or f 6 0) 7 w e
    (b 6))

module _ (l : Line) (w : whole l ≡ true) where
  body : (k bytes : ℕ) → frame_bytes k ≡ bytes → kind_of l ≡ k → Whole l.0 bytes
  body k bytes f h = subst (λ (n : ℕ). Whole l.0 n) (ap frame_bytes h ∙ f) (whole-line l w)

  -- a line of one number
  one-back : (k : ℕ) → frame_bytes k ≡ 4 → eqb k BARE-LINK ≡ false → kind_of l ≡ k →
      line_of (k ∷ word_bytes (number_at l 1)) ≡ line_back l
  one-back k f n h =
      ap (λ (x : ℕ). line_of (x ∷ word_bytes (number_at l 1))) (sym h)
      ∙ number-back l.0 (body k 4 f h)
      ∙ sym (rw (h, n) refl)

  -- a link's line
  links-back : link_kind (kind_of l) ≡ true →
      line_of (link_body (number_at l 1) (number_at l 3) (level_byte (level_of l))) ≡ line_back l
  links-back k = go (or_cases (eqb (kind_of l) BARE-LINK) (eqb (kind_of l) LINK) k)
    where
      go : (eqb (kind_of l) BARE-LINK ≡ true) ⊎ (eqb (kind_of l) LINK ≡ true)
          → line_of (link_body (number_at l 1) (number_at l 3) (level_byte (level_of l))) ≡ line_back l
      go (inl e) = rw (eqb-true (kind_of l) BARE-LINK e) refl
      go (inr e) =
          let h = eqb-true (kind_of l) LINK e in
          let same : level_byte (level_of l) ≡ get_or (bytes_of l.0) 5 0 =
          rw h (twos-signed 256 (get_or (bytes_of l.0) 5 0) (bytes_below l.0 5) refl) in
          ap (λ (b : ℕ). line_of (link_body (number_at l 1) (number_at l 3) b)) same
          ∙ ap (λ (x : ℕ). line_of (x ∷ word_bytes (number_at l 1) ++ word_bytes (number_at l 3)
          ++ get_or (bytes_of l.0) 5 0
          ∷ [])) (sym h)
          ∙ link-back l.0 (body LINK 7 refl h)
          ∙ sym (rw h refl)

-- ---- past the unit count

first-whole : (l : Line) (ls : List Line) → faulty_line (l ∷ ls) ≡ false → whole l ≡ true
unfolding faulty_line
first-whole l ls e = not-false (whole l) (or_false-left (not (whole l)) (faulty_line ls) e)

later-whole : (l : Line) (ls : List Line) → faulty_line (l ∷ ls) ≡ false → faulty_line ls ≡ false
unfolding faulty_line
later-whole l ls e = or_false-right (not (whole l)) (faulty_line ls) e

end-alone : (l : Line) → kind_of l ≡ END
    → link_lines (ends_in (l ∷ [])) (levels_in (l ∷ [])) ++ line_of (end_body (stated_count (l ∷ [])))
    ≡ line_of (end_body (number_at l 1))
unfolding ends_in levels_in stated_count link_lines
end-alone l k = rw k

last-back : (l : Line) → file_back (l ∷ []) ≡ line_back l
unfolding file_back
last-back l = append-nil (line_back l)

lines-link : (a b : ℕ) (z : ℤ) (t : List ℕ) (ls : List ℤ) →
    link_lines (a ∷ b ∷ t) (z ∷ ls) ≡ line_of (link_body a b (level_byte z)) ++ link_lines t ls
unfolding link_lines
lines-link a b z t ls = refl

more-back : (l : Line) (ls : List Line) → file_back (l ∷ ls) ≡ line_back l ++ file_back ls
unfolding file_back
more-back l ls = refl

tail_more : (l m : Line) (ls : List Line) → whole l ≡ true → link_kind (kind_of l) ≡ true
    → link_lines (ends_in (m ∷ ls)) (levels_in (m ∷ ls)) ++ line_of (end_body (stated_count (m ∷ ls)))
    ≡ file_back (m ∷ ls)
    → link_lines (ends_in (l ∷ m ∷ ls)) (levels_in (l ∷ m ∷ ls)) ++ line_of (end_body (stated_count (l ∷ m ∷ ls)))
    ≡ file_back (l ∷ m ∷ ls)
tail_more l m ls w k t =
    let first = line_of (link_body (number_at l 1) (number_at l 3) (level_byte (level_of l))) in
    let links = link_lines (ends_in (m ∷ ls)) (levels_in (m ∷ ls)) in
    let last = line_of (end_body (stated_count (m ∷ ls))) in
    rw (
      ends-link l (m ∷ ls) k,
      levels-link l (m ∷ ls) k,
      stated-later l m ls,
      lines-link (number_at l 1) (number_at l 3) (level_of l) (ends_in (m ∷ ls)) (levels_in (m ∷ ls)),
    )
    (append_assoc first links last
    ∙ ap (λ (r : List ℕ). first ++ r) t
    ∙ ap (λ (x : List ℕ). x ++ file_back (m ∷ ls)) (links-back l w k)
    ∙ sym (more-back l (m ∷ ls)))

tail-back : (ls : List Line) → faulty_line ls ≡ false → in_order_after ls ≡ true
    → link_lines (ends_in ls) (levels_in ls) ++ line_of (end_body (stated_count ls)) ≡ file_back ls
unfolding in_order_after
tail-back [] sound h = absurd (false≢true h)
tail-back (l ∷ []) sound h =
    let k = eqb-true (kind_of l) END h in
    end-alone l k ∙ one-back l (first-whole l [] sound) END refl refl k ∙ sym (last-back l)
tail-back (l ∷ m ∷ ls) sound h =
    tail_more l m ls (first-whole l (m ∷ ls) sound) (and_left (link_kind (kind_of l)) (in_order_after (m ∷ ls)) h)
    (tail-back (m ∷ ls) (later-whole l (m ∷ ls) sound) (and_right (link_kind (kind_of l)) (in_order_after (m ∷ ls)) h))

-- ---- the whole file

file-back : (l : Line) (ls : List Line) → faulty_line (l ∷ ls) ≡ false → in_order (l ∷ ls) ≡ true
    → stated_count (l ∷ ls) ≡ link_count (ends_in (l ∷ ls)) →
    file_of (units_in (l ∷ ls)) (ends_in (l ∷ ls)) (levels_in (l ∷ ls)) ≡ file_back (l ∷ ls)
unfolding file_of
file-back l ls sound h count =
    let k : kind_of l ≡ UNITS = (first-units l ls h).0 in
    let t = tail-back ls (later-whole l ls sound) (first-units l ls h).1 in
    let first = line_of (units_body (number_at l 1)) in
    let stated : link_count (ends_in (l ∷ ls)) ≡ stated_count ls = sym count
    ∙ stated-after l ls (first-units l ls h).1 in
    rw (stated, units-first l ls, ends-units l ls k, levels-units l ls k)
    (append_assoc first (link_lines (ends_in ls) (levels_in ls)) (line_of (end_body (stated_count ls)))
    ∙ ap (λ (r : List ℕ). first ++ r) t
    ∙ ap (λ (x : List ℕ). x ++ file_back ls) (one-back l (first-whole l ls sound) UNITS refl refl k)
    ∙ sym (more-back l ls))

-- an accepted file is the file of what is read from it, each link line with its level
pub read-written : (s : List ℕ) (places spaces : ℕ) → read_refusal (lines_of s) places spaces ≡ 0
    → file_of (units_in (lines_of s)) (ends_in (lines_of s)) (levels_in (lines_of s)) ≡ file_back (lines_of s)
read-written s places spaces e = go (lines_of s) refl
  where
    sound : Sound (lines_of s) places spaces
    sound = accepted-sound (lines_of s) places spaces e

    count : stated_count (lines_of s) ≡ link_count (ends_in (lines_of s))
    count = sound.count ∙ omega (arith, length-ends (lines_of s))

    go : (ls : List Line) → lines_of s ≡ ls →
        file_of (units_in (lines_of s)) (ends_in (lines_of s)) (levels_in (lines_of s)) ≡ file_back (lines_of s)
    go [] q = absurd (no_order_lem (rw q at sound.order))
    go (l ∷ ls) q = rw q (file-back l ls (rw q at sound.lines) (rw q at sound.order) (rw q at count))

-- ---- a file without a line of kind 02 comes back byte for byte

-- some link line has no level
abbrev pub bare_in : List Line → Bool
bare_in [] = false
bare_in (l ∷ ls) = eqb (kind_of l) BARE-LINK || bare_in ls

same_lines : (ls : List Line) → faulty_line ls ≡ false → bare_in ls ≡ false → file_back ls ≡ joined ls
unfolding file_back
same_lines [] sound h = refl
same_lines (l ∷ ls) sound h =
    rw (
      or_false-left (eqb (kind_of l) BARE-LINK) (bare_in ls) h,
      line-fed l (first-whole l ls sound),
      same_lines ls (later-whole l ls sound) (or_false-right (eqb (kind_of l) BARE-LINK) (bare_in ls) h),
    )
    (append_assoc l.0 (LF ∷ []) (joined ls))

pub same-file : (s : List ℕ) → faulty_line (lines_of s) ≡ false → bare_in (lines_of s) ≡ false → file_back (lines_of s)
    ≡ s
same-file s sound h = same_lines (lines_of s) sound h ∙ (lines-right s).whole
