-- Reading: the reply by its tests, and what an accepted file holds.
use Rattle.std.specs.Prelude.{◌≡◌, refl, Bool, true, false, cond, not, ◌||◌, ◌⊎◌, List, [], ◌++◌, ℕ, ◌*◌, ◌≤◌, ◌<◌}
use Rattle.std.specs.Prelude.{eqb, ltb, length, take, drop, ℤ}
use Rattle.std.proofs.Math.Path.{sym}
use Rattle.std.proofs.Common.{ap, ◌∙◌, inl, inr, arith, take_at}
use Rattle.std.proofs.Math.Bool.{or-true}
use Rattle.std.proofs.Math.Decide.{dec_lt}
use borrow.Author.Tests.{eq-eqb, ne_eqb, eqb-true, eqb-false, lt-ltb, le-ltb, ltb-false, not-false}
use Rattle.base_lists.specs.Folds.{every}
use Rattle.base_lists.specs.Tests.{or_false-left, or_false-right}
use Rattle.table_levels.specs.Level.{in_range}
use Rattle.table.specs.RefusalLaws.{passed-test}
use Rattle.table.specs.Table.{max_links, level_outside}
use Rattle.file_frames.specs.Frame.{word_at}
use Rattle.file_frames.specs.Kinds.{UNITS, frame_bytes, kind_front, file_front}
use Rattle.file_spec.specs.File.{Line, lines_of, faulty_line, in_order, link_frames, stated_count, units_in, ends_in}
use Rattle.file_spec.specs.File.{levels_in, read_refusal, later_refusal, read_reply, read_words, read_levels}
use Rattle.file_spec.specs.LineLaws.{none-lines, front_says, front-lines, front-kind, front-word, sound-front}
use Rattle.file_spec.specs.LineLaws.{front_line, past_line}
use Rattle.file_spec.proofs.LineSteps.{first-units, units-first, no_order_lem, length-ends, length-levels}
use Rattle.file_spec.specs.declared.Reading.{Reading}
use Rattle.file_spec.specs.declared.Reading.TheVariants.{Read}

-- ---- the reply, by the tests passed and the one that holds

module _ (links : ℕ) (outside : Bool) (places spaces : ℕ) where
  pub later_6 : max_links < links → 6 ≡ later_refusal links outside places spaces
  unfolding later_refusal
  later_6 h = rw (lt-ltb max_links links h)

  module _ (p6 : links ≤ max_links) where
    pub later_16 : outside ≡ true → 16 ≡ later_refusal links outside places spaces
    unfolding later_refusal
    later_16 e = rw (le-ltb max_links links p6, e)

    module _ (p16 : outside ≡ false) where
      pub later_14 : (places < 2 * links) ⊎ (spaces < links) → 14 ≡ later_refusal links outside places spaces
      unfolding later_refusal
      later_14 (inl h) = rw (le-ltb max_links links p6, p16, lt-ltb places (2 * links) h)
      later_14 (inr h) = rw (le-ltb max_links links p6, p16, lt-ltb spaces links h, or-true (ltb places (2 * links)))

      pub later_0 : 2 * links ≤ places → links ≤ spaces → 0 ≡ later_refusal links outside places spaces
      unfolding later_refusal
      later_0 h k = rw (le-ltb max_links links p6, p16, le-ltb places (2 * links) h, le-ltb spaces links k)

module _ (ls : List Line) (places spaces : ℕ) where
  pub refused_1 : faulty_line ls ≡ true → 1 ≡ read_refusal ls places spaces
  unfolding read_refusal
  refused_1 e = rw e

  pub refused_2 : faulty_line ls ≡ false → in_order ls ≡ false → 2 ≡ read_refusal ls places spaces
  unfolding read_refusal
  refused_2 p1 e = rw (p1, e)

  module _ (p1 : faulty_line ls ≡ false) (p2 : in_order ls ≡ true) where
    pub refused_3 : (stated_count ls ≡ link_frames ls → ⊥) → 3 ≡ read_refusal ls places spaces
    unfolding read_refusal
    refused_3 n = rw (p1, p2, ne_eqb (stated_count ls) (link_frames ls) n)

    pub counted : stated_count ls ≡ link_frames ls →
        later_refusal (link_frames ls) (level_outside (levels_in ls)) places spaces ≡ read_refusal ls places spaces
    unfolding read_refusal later_refusal
    counted p3 = rw (p1, p2, eq-eqb (stated_count ls) (link_frames ls) p3)

-- ---- an accepted file

pub record Sound (ls : List Line) (places spaces : ℕ) : Type 0 where
  pub lines : faulty_line ls ≡ false
  pub order : in_order ls ≡ true
  pub count : stated_count ls ≡ link_frames ls
  pub few : link_frames ls ≤ max_links
  pub levelled : every in_range (levels_in ls) ≡ true
  pub fits : 2 * link_frames ls ≤ places
  pub room : link_frames ls ≤ spaces

pub accepted-sound : (ls : List Line) (places spaces : ℕ) → read_refusal ls places spaces ≡ 0 → Sound ls places spaces
unfolding read_refusal
accepted-sound ls places spaces e =
    let m = link_frames ls in
    let t1 = passed-test (faulty_line ls) 1 _ (omega arith) e in
    let t2 = passed-test (not (in_order ls)) 2 _ (omega arith) t1.1 in
    let t3 = passed-test (not (eqb (stated_count ls) m)) 3 _ (omega arith) t2.1 in
    let t6 = passed-test (ltb max_links m) 6 _ (omega arith) t3.1 in
    let t16 = passed-test (level_outside (levels_in ls)) 16 _ (omega arith) t6.1 in
    let t14 = passed-test (ltb places (2 * m) || ltb spaces m) 14 _ (omega arith) t16.1 in
    record {
      lines = t1.0;
      order = not-false (in_order ls) t2.0;
      count = eqb-true (stated_count ls) m (not-false (eqb (stated_count ls) m) t3.0);
      few = ltb-false max_links m t6.0;
      levelled = not-false (every in_range (levels_in ls)) t16.0;
      fits = ltb-false places (2 * m) (or_false-left (ltb places (2 * m)) (ltb spaces m) t14.0);
      room = ltb-false spaces m (or_false-right (ltb places (2 * m)) (ltb spaces m) t14.0);
    }

-- the unit count stands in the first line
module _ (s : List ℕ) (sound : faulty_line (lines_of s) ≡ false) (order : in_order (lines_of s) ≡ true) where
  some : 0 < length s
  some = go (dec_lt 0 (length s))
    where
      go : Dec (0 < length s) → 0 < length s
      go (yes h) = h
      go (no h) = absurd (no_order_lem (ap in_order (sym (none-lines s (omega arith))) ∙ order))

  front : file_front s ≡ true
  front = sound-front s sound some

  first : kind_front s ≡ UNITS
  first =
      sym (front-kind s front) ∙ (first-units (front_line s) (lines_of (past_line s))
      (ap in_order (sym (front-lines s front)) ∙ order)).0

  size : frame_bytes (kind_front s) ≡ 4
  size = ap frame_bytes first

  pub units_stand : 5 < length s
  units_stand = omega (arith, size, (front_says s front).short)

  pub units-read : units_in (lines_of s) ≡ word_at s 2
  units-read =
      ap units_in (front-lines s front)
      ∙ units-first (front_line s) (lines_of (past_line s))
      ∙ front-word s front 1 (omega (arith, size))

-- ---- the reply and the slices of a call

pub read-refused : (s : List ℕ) (places spaces k : ℕ) → k ≡ read_refusal (lines_of s) places spaces → (k ≡ 0 → ⊥) →
    Reading.Refused k ≡ read_reply s places spaces
unfolding read_reply
read-refused s places spaces k e n = rw (← e, ne_eqb k 0 n)

pub words-refused : (s words : List ℕ) (spaces k : ℕ) → k ≡ read_refusal (lines_of s) (length words) spaces →
    (k ≡ 0 → ⊥) → words ≡ read_words s words spaces
unfolding read_words
words-refused s words spaces k e n = rw (← e, ne_eqb k 0 n)

pub levels-refused : (s : List ℕ) (places : ℕ) (levels : List ℤ) (k : ℕ) →
    k ≡ read_refusal (lines_of s) places (length levels) → (k ≡ 0 → ⊥)
    → levels ≡ read_levels s places levels
unfolding read_levels
levels-refused s places levels k e n = rw (← e, ne_eqb k 0 n)

module _ (s : List ℕ) (places spaces : ℕ) (e : read_refusal (lines_of s) places spaces ≡ 0) where
  pub sound : Sound (lines_of s) places spaces
  sound = accepted-sound (lines_of s) places spaces e

  pub accepted-stands : 5 < length s
  accepted-stands = units_stand s sound.lines sound.order

  pub read-accepted : (links : ℕ) → links ≡ link_frames (lines_of s) → Read (word_at s 2) links
      ≡ read_reply s places spaces
  unfolding read_reply
  read-accepted links l = rw (e, l, units-read s sound.lines sound.order)

pub words-accepted : (s words : List ℕ) (spaces : ℕ) → read_refusal (lines_of s) (length words) spaces ≡ 0
    → ends_in (lines_of s) ++ drop (length (ends_in (lines_of s))) words ≡ read_words s words spaces
unfolding read_words
words-accepted s words spaces e = rw e

pub levels-accepted : (s : List ℕ) (places : ℕ) (levels : List ℤ) → read_refusal (lines_of s) places (length levels) ≡ 0
    → levels_in (lines_of s) ++ drop (length (levels_in (lines_of s))) levels ≡ read_levels s places levels
unfolding read_levels
levels-accepted s places levels e = rw e

-- ---- what a reply says

read_says : (b : Bool) (n m k u x : ℕ) → cond b (Read n m) (Reading.Refused k) ≡ Read u x →
    (b ≡ true) × (u ≡ n) × (x ≡ m)
read_says true n m k u x e = (refl, cc, cc)
read_says false n m k u x e = absurd (let z : ◌≡◌ {A = ℕ} 0 1 = cc in omega arith)

unread_says : (b : Bool) (n m k x : ℕ) → cond b (Read n m) (Reading.Refused k) ≡ Reading.Refused x →
    (b ≡ false) × (x ≡ k)
unread_says true n m k x e = absurd (let z : ◌≡◌ {A = ℕ} 0 1 = cc in omega arith)
unread_says false n m k x e = (refl, cc)

module _ (s : List ℕ) (places spaces : ℕ) where
  -- the reading was refused
  module _ (k : ℕ) (e : read_reply s places spaces ≡ Reading.Refused k) where
    -- its number is the refusal's
    pub unread-told : (k ≡ read_refusal (lines_of s) places spaces) × (read_refusal (lines_of s) places spaces ≡ 0 → ⊥)
    unfolding read_reply
    unread-told =
        let r = read_refusal (lines_of s) places spaces in
        let q = unread_says (eqb r 0) (units_in (lines_of s)) (link_frames (lines_of s)) r k e in
        (q.1, eqb-false r 0 q.0)

  -- it was not
  module _ (u m : ℕ) (e : read_reply s places spaces ≡ Read u m) where
    -- what the reply says
    pub read_told : (read_refusal (lines_of s) places spaces ≡ 0) × (u ≡ units_in (lines_of s))
        × (m ≡ link_frames (lines_of s))
    unfolding read_reply
    read_told =
        let r = read_refusal (lines_of s) places spaces in
        let q = read_says (eqb r 0) (units_in (lines_of s)) (link_frames (lines_of s)) r u m e in
        (eqb-true r 0 q.0, q.1, q.2)

    ends-long : length (ends_in (lines_of s)) ≡ 2 * m
    ends-long = length-ends (lines_of s) ∙ ap (λ (x : ℕ). 2 * x) (sym read_told.2)

    -- the first 2 m words are the ends, and the first m levels the levels
    pub read-front : (words : List ℕ) → places ≡ length words →
        take (2 * m) (read_words s words spaces) ≡ ends_in (lines_of s)
    unfolding read_words
    read-front words c =
        rw (← c, read_told.0) (take_at (ends_in (lines_of s)) (drop (length (ends_in (lines_of s))) words)
        (2 * m) ends-long)

    pub read-front-levels : (levels : List ℤ) → spaces ≡ length levels →
        take m (read_levels s places levels) ≡ levels_in (lines_of s)
    unfolding read_levels
    read-front-levels levels c =
        rw (← c, read_told.0)
        (take_at (levels_in (lines_of s)) (drop (length (levels_in (lines_of s))) levels) m (length-levels (lines_of s)
        ∙ sym read_told.2))

    pub read-long : (words : List ℕ) → places ≡ length words → 2 * m ≤ length words
    read-long words c = omega (arith, (accepted-sound (lines_of s) places spaces read_told.0).fits, read_told.2, c)

    pub read-long-levels : (levels : List ℤ) → spaces ≡ length levels → m ≤ length levels
    read-long-levels levels c = omega (
      arith,
      (accepted-sound (lines_of s) places spaces read_told.0).room,
      read_told.2,
      c,
    )
