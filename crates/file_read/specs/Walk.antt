-- A walk along the lines of a file with a cursor: what is known of the whole from the lines passed and those that are
-- left.
use Rattle.std.specs.Prelude.{◌≡◌, ℕ, suc, ◌+◌, ◌*◌, ◌<◌, ◌≤◌, Bool, true, false, cond, not, ◌&&◌, ◌||◌, ◌⊎◌, List, []}
use Rattle.std.specs.Prelude.{◌∷◌, ◌++◌, length, take, drop, ℤ, ◌==◌, ◌≢◌, slice_index, slice_set}
use Rattle.std.proofs.Math.Path.{refl, sym, ap}
use Rattle.std.proofs.Common.{subst, ◌∙◌, inl, inr, add-zero, length-drop, drop-drop, get_or-drop, length-take-le}
use Rattle.std.proofs.Math.Bool.{or_assoc, or-false}
use Rattle.std.proofs.Math.Decide.{ℕ_discrete, dec_lt}
use native.Mathlib.Omega.{arith}
use Rattle.std.proofs.Math.ListN.{length-set}
use Rattle.std.proofs.Math.Seq.{take-add, take-length}
use borrow.Author.Tests.{eqb-true, ne_eqb}
use Rattle.base_lists.specs.Lent.{lent, lent-rest}
use Rattle.base_lists.specs.Puts.{put_one, put_two}
use Rattle.base_lists.specs.Tests.{either, or_cases, or_false-left, or_false-right}
use Rattle.table_levels.specs.Level.{LOWEST, in_range, byte_level}
use Rattle.table.specs.Table.{level_outside}
use Rattle.file_frames.specs.Frame.{byte_at, word_at, bytes_of}
use Rattle.file_frames.specs.Kinds.{UNITS, BARE-LINK, LINK, END, frame_bytes, link_kind, kind_front, file_front}
use Rattle.file_frames.specs.Kinds.{line_kind}
use Rattle.file_frames.specs.FrontLaws.{none-front, some-front}
use Rattle.file_spec.specs.File.{Line, lines_of, kind_of, number_at, faulty_line, in_order_after, in_order, link_frames}
use Rattle.file_spec.specs.File.{stated_count, ends_in, level_of, levels_in}
use Rattle.file_spec.specs.LineLaws.{none-lines, no_lines, front_says, front-lines, front-kind, front_byte-at}
use Rattle.file_spec.specs.LineLaws.{front-word, faulty-here, faulty-later, sound-front, front_line, past_line}
use Rattle.file_spec.proofs.LineSteps.{frames_more, frames_link, ends-link, ends-other, levels-link, levels-other}
use Rattle.file_spec.proofs.LineSteps.{no_order_lem, length-ends, length-levels}
use Rattle.file_read.specs.FrameOrder.{START, LINKS, ENDED, next_order, order_from, neither, order-next}

-- ---- the count that is stated last

-- in the lines that are left, or x where none is
unfoldable pub stated_from : ℕ → List Line → ℕ
stated_from x [] = x
stated_from x (l ∷ ls) = stated_count (l ∷ ls)

stated-next : (x : ℕ) (l : Line) (ls : List Line) → stated_from x (l ∷ ls) ≡ stated_from (number_at l 1) ls
unfolding stated_from stated_count
stated-next x l [] = refl
stated-next x l (k ∷ ls) = refl

stated-some : (x : ℕ) (s : List ℕ) → 0 < length s → stated_count (lines_of s) ≡ stated_from x (lines_of s)
unfolding stated_from
stated-some x s h = go (lines_of s) refl
  where
    go : (ls : List Line) → lines_of s ≡ ls → stated_count ls ≡ stated_from x ls
    go [] e = absurd (omega (arith, no_lines s e))
    go (l ∷ ls) e = refl

-- ---- reads from a place on

byte_at_drop : (s : List ℕ) (n i : ℕ) → byte_at (drop n s) i ≡ byte_at s (n + i)
byte_at_drop s n i =
    let e : n + i + 1 ≡ n + (i + 1) = omega arith in
    rw (e, get_or-drop n s i 0, get_or-drop n s (i + 1) 0)

word_at_drop : (s : List ℕ) (n i : ℕ) → word_at (drop n s) i ≡ word_at s (n + i)
word_at_drop s n i =
    let e : n + i + 2 ≡ n + (i + 2) = omega arith in
    rw (e, byte_at_drop s n i, byte_at_drop s n (i + 2))

kind_at : (s : List ℕ) (at : ℕ) → kind_front (drop at s) ≡ byte_at s at
kind_at s at = byte_at_drop s at 0 ∙ ap (byte_at s) (add-zero at)

-- a link's frame has its two ends
link-long : (kind : ℕ) → link_kind kind ≡ true → 6 ≤ frame_bytes kind
link-long kind e = go (or_cases (kind == BARE-LINK) (kind == LINK) e)
  where
    go : ((kind == BARE-LINK) ≡ true) ⊎ ((kind == LINK) ≡ true) → 6 ≤ frame_bytes kind
    go (inl q) = rw (eqb-true kind BARE-LINK q) (omega arith)
    go (inr q) = rw (eqb-true kind LINK q) (omega arith)

known-long : (kind : ℕ) → (frame_bytes kind ≢ 0) → 4 ≤ frame_bytes kind
known-long kind n = go (ℕ_discrete kind UNITS) (either (link_kind kind)) (ℕ_discrete kind END)
  where
    go : Dec (kind ≡ UNITS) → (link_kind kind ≡ true) ⊎ (link_kind kind ≡ false) → Dec (kind ≡ END)
        → 4 ≤ frame_bytes kind
    go (yes e) b c = rw e (omega arith)
    go (no a) (inl e) c = omega (arith, link-long kind e)
    go (no a) (inr b) (yes e) = rw e (omega arith)
    go (no a) (inr b) (no c) =
        absurd
        (n (rw (
          ne_eqb kind UNITS a,
          or_false-left (kind == BARE-LINK) (kind == LINK) b,
          or_false-right (kind == BARE-LINK) (kind == LINK) b,
          ne_eqb kind END c,
        )))

-- where the line at a place ends, by its kind
abbrev pub past_at : ℕ → ℕ → ℕ
past_at at kind = at + (2 * frame_bytes kind + 1)

-- the line at a place is whole, and its frame has this kind
pub record LineAt (s : List ℕ) (at kind : ℕ) : Type 0 where
  pub front : file_front (drop at s) ≡ true
  pub known : kind_front (drop at s) ≡ kind

module _ (s : List ℕ) (at kind : ℕ) (l : LineAt s at kind) where
  size : frame_bytes (kind_front (drop at s)) ≡ frame_bytes kind
  size = ap frame_bytes l.known

  past : past_line (drop at s) ≡ drop (past_at at kind) s
  past = drop-drop (2 * frame_bytes (kind_front (drop at s)) + 1) at s ∙ ap (λ (b : ℕ). drop (at + (2 * b + 1)) s) size

  pub line-fits : past_at at kind ≤ length s
  line-fits = omega (arith, size, (front_says (drop at s) l.front).short, length-drop at s)

  line-faults : faulty_line (lines_of (drop at s)) ≡ faulty_line (lines_of (drop (past_at at kind) s))
  line-faults = faulty-later (drop at s) l.front ∙ ap (λ (r : List ℕ). faulty_line (lines_of r)) past

  line-lines : lines_of (drop at s) ≡ front_line (drop at s) ∷ lines_of (drop (past_at at kind) s)
  line-lines = front-lines (drop at s) l.front ∙ ap (λ (r : List ℕ). front_line (drop at s) ∷ lines_of r) past

  line-kind : kind_of (front_line (drop at s)) ≡ kind
  line-kind = front-kind (drop at s) l.front ∙ l.known

  line_word : (i : ℕ) → i + 1 < frame_bytes kind → number_at (front_line (drop at s)) i ≡ word_at s (at + 2 * i)
  line_word i h = front-word (drop at s) l.front i (omega (arith, size)) ∙ word_at_drop s at (2 * i)

  line_byte : (j : ℕ) → j < frame_bytes kind → slice_index (bytes_of (front_line (drop at s)).0) j
      ≡ byte_at s (at + 2 * j)
  line_byte j h = front_byte-at (drop at s) l.front j (omega (arith, size)) ∙ byte_at_drop s at (2 * j)

  -- the level of a link's line
  line-level : level_of (front_line (drop at s)) ≡ cond (kind == LINK) (byte_level (byte_at s (at + 10))) LOWEST
  line-level = rw line-kind (go (ℕ_discrete kind LINK))
    where
      go : Dec (kind ≡ LINK)
          → cond (kind == LINK) (byte_level (slice_index (bytes_of (front_line (drop at s)).0) 5)) LOWEST
          ≡ cond (kind == LINK) (byte_level (byte_at s (at + 10))) LOWEST
      go (yes e) = rw (line_byte 5 (rw e (omega arith)))
      go (no n) = rw (ne_eqb kind LINK n)

  -- no frame of a file is shorter than one number's
  line-long : 4 ≤ frame_bytes kind
  line-long = known-long kind (λ e. (front_says (drop at s) l.front).body.known (size ∙ e))

pub told_line : (s : List ℕ) (at kind : ℕ) → kind ≡ line_kind (lent at s) → (kind ≢ 0) → LineAt s at kind
told_line s at kind e n =
    let k : kind ≡ line_kind (drop at s) = e ∙ ap line_kind (lent-rest at s) in
    let f = some-front (drop at s) (λ z. n (k ∙ z)) in
    record { front = f.0; known = f.1 ∙ sym k }

-- ---- the walk that judges

-- what is known of the whole at a place: how far the order has come, the links passed, where the last line passed
-- begins, and whether a level passed is out of range
pub record Walked (s : List ℕ) (at order links last : ℕ) (outside : Bool) : Type 0 where
  pub inside : at ≤ length s
  pub faults : faulty_line (lines_of s) ≡ faulty_line (lines_of (drop at s))
  pub kept : in_order (lines_of s) ≡ order_from order (lines_of (drop at s))
  pub count : link_frames (lines_of s) ≡ links + link_frames (lines_of (drop at s))
  pub stated : 0 < length s → stated_count (lines_of s) ≡ stated_from (word_at s (last + 2)) (lines_of (drop at s))
  pub levels : level_outside (levels_in (lines_of s)) ≡ (outside || level_outside (levels_in (lines_of (drop at s))))
  pub few : links ≤ at
  pub long : 0 < at → last + 8 ≤ at

pub walk_start : (s : List ℕ) → Walked s 0 START 0 0 false
unfolding order_from
walk_start s =
    record {
      inside = omega arith;
      faults = refl;
      kept = refl;
      count = omega arith;
      stated = stated-some (word_at s 2) s;
      levels = refl;
      few = omega arith;
      long = λ h. absurd (omega (arith, h));
    }

-- a level more that is out of range or not
outside_cons : (z : ℤ) (ls : List ℤ) → level_outside (z ∷ ls) ≡ (not (in_range z) || level_outside ls)
outside_cons z ls = go (either (in_range z))
  where
    go : (in_range z ≡ true) ⊎ (in_range z ≡ false) → level_outside (z ∷ ls) ≡ (not (in_range z) || level_outside ls)
    go (inl e) = rw e
    go (inr e) = rw e

outside-more : (l : Line) (ls : List Line)
    → level_outside (levels_in (l ∷ ls)) ≡ ((link_kind (kind_of l) && not (in_range (level_of l)))
    || level_outside (levels_in ls))
outside-more l ls = go (either (link_kind (kind_of l)))
  where
    go : (link_kind (kind_of l) ≡ true) ⊎ (link_kind (kind_of l) ≡ false)
        → level_outside (levels_in (l ∷ ls))
        ≡ ((link_kind (kind_of l) && not (in_range (level_of l))) || level_outside (levels_in ls))
    go (inl e) = rw (levels-link l ls e, e) (outside_cons (level_of l) (levels_in ls))
    go (inr e) = rw (levels-other l ls e, e)

module _ (s : List ℕ) (at order links last : ℕ) (outside : Bool) (w : Walked s at order links last outside) where
  -- a line that is none
  pub walk_fault : at < length s → line_kind (lent at s) ≡ 0 → faulty_line (lines_of s) ≡ true
  walk_fault h e =
      w.faults ∙ faulty-here (drop at s) (omega (arith, length-drop at s))
      (none-front (drop at s) (ap line_kind (sym (lent-rest at s)) ∙ e))

  -- one line more
  walk_on : (kind one : ℕ) (bad : Bool) → one ≡ cond (link_kind kind) 1 0 → one ≤ 1
      → bad ≡ (link_kind kind && not (in_range (cond (kind == LINK) (byte_level (byte_at s (at + 10))) LOWEST))) →
      LineAt s at kind
      → Walked s (past_at at kind) (next_order order kind) (links + one) at (outside || bad)
  walk_on kind one bad c o b l =
      let rest = lines_of (drop (past_at at kind) s) in
      let first = front_line (drop at s) in
      let k : kind_of first ≡ kind = line-kind s at kind l in
      let lines : lines_of (drop at s) ≡ first ∷ rest = line-lines s at kind l in
      let more : link_frames (lines_of (drop at s)) ≡ one + link_frames rest =
      ap link_frames lines ∙ frames_more first rest ∙ rw (k, c) in
      let here : (link_kind (kind_of first) && not (in_range (level_of first))) ≡ bad =
      ap (λ (z : ℤ). link_kind (kind_of first) && not (in_range z)) (line-level s at kind l)
      ∙ ap (λ (x : ℕ). link_kind x && not (in_range (cond (kind == LINK) (byte_level (byte_at s (at + 10))) LOWEST))) k
      ∙ sym b in
      record {
        inside = line-fits s at kind l;
        faults = w.faults ∙ line-faults s at kind l;
        kept = w.kept ∙ ap (order_from order) lines ∙ order-next order first rest ∙ rw k;
        count = w.count ∙ omega (arith, more);
        stated = λ (some : 0 < length s).
            w.stated some
            ∙ ap (stated_from (word_at s (last + 2))) lines
            ∙ stated-next (word_at s (last + 2)) first rest
            ∙ ap (λ (x : ℕ). stated_from x rest) (line_word s at kind l 1 (omega (arith, line-long s at kind l)));
        levels =
            w.levels
            ∙ ap (λ (ls : List Line). outside || level_outside (levels_in ls)) lines
            ∙ ap (λ (x : Bool). outside || x) (outside-more first rest
            ∙ ap (λ (x : Bool). x || level_outside (levels_in rest)) here)
            ∙ sym (or_assoc outside bad (level_outside (levels_in rest)));
        few = omega (arith, w.few);
        long = λ _. omega (arith, line-long s at kind l);
      }

  pub walk_link : LineAt s at LINK
      → Walked s (past_at at LINK) (next_order order LINK) (links + 1) at
      (outside || not (in_range (byte_level (byte_at s (at + 10)))))
  walk_link l = walk_on LINK 1 (not (in_range (byte_level (byte_at s (at + 10))))) refl (omega arith) refl l

  lowest : in_range LOWEST ≡ true
  unfolding in_range
  lowest = refl

  pub walk_bare : LineAt s at BARE-LINK →
      Walked s (past_at at BARE-LINK) (next_order order BARE-LINK) (links + 1) at outside
  walk_bare l =
      subst (λ (x : Bool). Walked s (past_at at BARE-LINK) (next_order order BARE-LINK) (links + 1) at x)
      (or-false outside)
      (walk_on BARE-LINK 1 false refl (omega arith) (rw lowest) l)

  pub walk_other : (kind : ℕ) → (kind ≢ LINK) → (kind ≢ BARE-LINK) → LineAt s at kind
      → Walked s (past_at at kind) (next_order order kind) links at outside
  walk_other kind n m l =
      let none : link_kind kind ≡ false = rw (ne_eqb kind LINK n, ne_eqb kind BARE-LINK m) in
      subst (λ (x : Bool). Walked s (past_at at kind) (next_order order kind) links at x) (or-false outside)
      (subst (λ (m : ℕ). Walked s (past_at at kind) (next_order order kind) m at (outside || false)) (add-zero links)
      (walk_on kind 0 false (rw none) (omega arith) (rw none) l))

  -- past the last line
  module _ (e : length s ≤ at) where
    none : lines_of (drop at s) ≡ []
    none = none-lines (drop at s) (omega (arith, length-drop at s))

    pub walk_sound : faulty_line (lines_of s) ≡ false
    unfolding faulty_line
    walk_sound = w.faults ∙ rw none

    pub walk_broken : (order ≢ ENDED) → in_order (lines_of s) ≡ false
    unfolding order_from in_order in_order_after
    walk_broken n = w.kept ∙ rw (none, ne_eqb order ENDED n)
        (ap (cond (order == START) false) (neither (order == LINKS)) ∙ neither (order == START))

    pub walk_kept : order ≡ ENDED → in_order (lines_of s) ≡ true
    unfolding order_from
    walk_kept q = w.kept ∙ rw (none, q)

    pub walk_levels : level_outside (levels_in (lines_of s)) ≡ outside
    unfolding levels_in
    walk_levels = w.levels ∙ rw none (or-false outside)

    pub walk_count : link_frames (lines_of s) ≡ links
    unfolding link_frames
    walk_count = w.count ∙ rw none (omega arith)

    module _ (q : order ≡ ENDED) where
      some : 0 < length s
      some = go (dec_lt 0 (length s))
        where
          go : Dec (0 < length s) → 0 < length s
          go (yes h) = h
          go (no h) = absurd (no_order_lem (ap in_order (sym (none-lines s (omega arith))) ∙ walk_kept q))

      pub walk_last : last + 8 ≤ length s
      walk_last = omega (arith, w.long (omega (arith, some)), w.inside)

      pub walk_stated : stated_count (lines_of s) ≡ word_at s (last + 2)
      unfolding stated_from
      walk_stated = w.stated some ∙ rw none

-- ---- the walk that fills

-- the ends and levels of n links are laid down at a place of a file without a faulty line
pub record Filled (s old words : List ℕ) (oldLevels levels : List ℤ) (at n : ℕ) : Type 0 where
  pub inside : at ≤ length s
  pub sound : faulty_line (lines_of (drop at s)) ≡ false
  pub count : link_frames (lines_of s) ≡ n + link_frames (lines_of (drop at s))
  pub left : drop (2 * n) (ends_in (lines_of s)) ≡ ends_in (lines_of (drop at s))
  pub left_levels : drop n (levels_in (lines_of s)) ≡ levels_in (lines_of (drop at s))
  pub same : length words ≡ length old
  pub same_levels : length levels ≡ length oldLevels
  pub laid : words ≡ take (2 * n) (ends_in (lines_of s)) ++ drop (2 * n) old
  pub laid_levels : levels ≡ take n (levels_in (lines_of s)) ++ drop n oldLevels

pub fill_start : (s old : List ℕ) (oldLevels : List ℤ) → faulty_line (lines_of s) ≡ false →
    Filled s old old oldLevels oldLevels 0 0
fill_start s old oldLevels h =
    record {
      inside = omega arith;
      sound = h;
      count = omega arith;
      left = refl;
      left_levels = refl;
      same = refl;
      same_levels = refl;
      laid = refl;
      laid_levels = refl;
    }

module _ (s old words : List ℕ) (oldLevels levels : List ℤ) (at n : ℕ)
    (f : Filled s old words oldLevels levels at n) where
  fill_front : at < length s → file_front (drop at s) ≡ true
  fill_front h = sound-front (drop at s) f.sound (omega (arith, length-drop at s))

  pub fill_line : at < length s → (kind : ℕ) → kind ≡ byte_at s at → LineAt s at kind
  fill_line h kind k = record { front = fill_front h; known = kind_at s at ∙ sym k }

  -- its kind can be read
  pub fill_reads : at < length s → at + 9 ≤ length s
  fill_reads h =
      let k = byte_at s at in
      let l = fill_line h k refl in
      omega (arith, line-fits s at k l, line-long s at k l)

  module _ (kind : ℕ) (l : LineAt s at kind) where
    first : Line
    first = front_line (drop at s)

    rest : List Line
    rest = lines_of (drop (past_at at kind) s)

    lines : lines_of (drop at s) ≡ first ∷ rest
    unfolding first rest
    lines = line-lines s at kind l

    first_kind : kind_of first ≡ kind
    unfolding first
    first_kind = line-kind s at kind l

    later-sound : faulty_line rest ≡ false
    unfolding rest
    later-sound = sym (line-faults s at kind l) ∙ f.sound

    pub fill_other : link_kind kind ≡ false → Filled s old words oldLevels levels (past_at at kind) n
    unfolding rest
    fill_other o =
        let k : link_kind (kind_of first) ≡ false = ap link_kind first_kind ∙ o in
        let none : link_frames (lines_of (drop at s)) ≡ link_frames rest =
        ap link_frames lines ∙ frames_more first rest ∙ rw k (omega arith) in
        record {
          inside = line-fits s at kind l;
          sound = later-sound;
          count = omega (arith, f.count, none);
          left = f.left ∙ ap ends_in lines ∙ ends-other first rest k;
          left_levels = f.left_levels ∙ ap levels_in lines ∙ levels-other first rest k;
          same = f.same;
          same_levels = f.same_levels;
          laid = f.laid;
          laid_levels = f.laid_levels;
        }

    module _ (link : link_kind kind ≡ true) where
      k : link_kind (kind_of first) ≡ true
      k = ap link_kind first_kind ∙ link

      -- two words and a level more
      two-left : drop (2 * n) (ends_in (lines_of s)) ≡ word_at s (at + 2) ∷ word_at s (at + 6) ∷ ends_in rest
      unfolding first
      two-left =
          f.left
          ∙ ap ends_in lines
          ∙ ends-link first rest k
          ∙ rw (
            line_word s at kind l 1 (omega (arith, link-long kind link)),
            line_word s at kind l 3 (omega (arith, link-long kind link)),
          )

      one_left : drop n (levels_in (lines_of s))
          ≡ cond (kind == LINK) (byte_level (byte_at s (at + 10))) LOWEST ∷ levels_in rest
      unfolding first
      one_left = f.left_levels ∙ ap levels_in lines ∙ levels-link first rest k
          ∙ ap (λ (z : ℤ). z ∷ levels_in rest) (line-level s at kind l)

      one_more : link_frames (lines_of s) ≡ suc n + link_frames rest
      one_more = omega (arith, f.count, ap link_frames lines ∙ frames_link first rest k)

      pub fill_more : n + 1 ≤ link_frames (lines_of s)
      fill_more = omega (arith, one_more)

      pub fill_stands : at + 9 < length s
      fill_stands = omega (arith, line-fits s at kind l, link-long kind link)

      pub fill_link : (a b : ℕ) (z : ℤ) → a ≡ word_at s (at + 2) → b ≡ word_at s (at + 6)
          → z ≡ cond (kind == LINK) (byte_level (byte_at s (at + 10))) LOWEST
          → 2 * link_frames (lines_of s) ≤ length old → link_frames (lines_of s) ≤ length oldLevels
          → Filled s old (slice_set (slice_set words (2 * n) a) (2 * n + 1) b) oldLevels (slice_set levels n z)
          (past_at at kind) (n + 1)
      unfolding rest
      fill_link a b z p q r fits room =
          let ends = ends_in (lines_of s) in
          let all = levels_in (lines_of s) in
          let e : 2 * (n + 1) ≡ 2 * n + 2 = omega arith in
          let more : take (2 * n + 2) ends ≡ take (2 * n) ends ++ a ∷ b ∷ [] =
          take-add (2 * n) 2 ends ∙ rw (two-left, p, q) in
          let moreLevels : take (n + 1) all ≡ take n all ++ z ∷ [] = take-add n 1 all ∙ rw (one_left, r) in
          let long = length-ends (lines_of s) in
          let longLevels = length-levels (lines_of s) in
          record {
            inside = line-fits s at kind l;
            sound = later-sound;
            count = omega (arith, one_more);
            left = ap (λ (i : ℕ). drop i ends) e ∙ sym (drop-drop 2 (2 * n) ends) ∙ rw two-left;
            left_levels = sym (drop-drop 1 n all) ∙ rw one_left;
            same = length-set (slice_set words (2 * n) a) (2 * n + 1) b ∙ length-set words (2 * n) a ∙ f.same;
            same_levels = length-set levels n z ∙ f.same_levels;
            laid =
                rw (e, f.laid, more)
                (put_two (take (2 * n) ends) old (2 * n) a b
                (length-take-le (2 * n) ends (omega (arith, fill_more, long))) (omega (arith, fill_more)));
            laid_levels =
                rw (f.laid_levels, moreLevels)
                (put_one (take n all) oldLevels n z (length-take-le n all (omega (arith, fill_more, longLevels)))
                (omega (arith, fill_more)));
          }

  -- past the last line
  module _ (e : length s ≤ at) where
    none_left : lines_of (drop at s) ≡ []
    none_left = none-lines (drop at s) (omega (arith, length-drop at s))

    pub fill_count : n ≡ link_frames (lines_of s)
    unfolding link_frames
    fill_count = sym (f.count ∙ rw none_left (omega arith))

    pub fill_end : words ≡ ends_in (lines_of s) ++ drop (length (ends_in (lines_of s))) old
    fill_end =
        let k : 2 * n ≡ length (ends_in (lines_of s)) = omega (arith, fill_count, length-ends (lines_of s)) in
        f.laid ∙ rw (k, take-length (ends_in (lines_of s)))

    pub fill_levels : levels ≡ levels_in (lines_of s) ++ drop (length (levels_in (lines_of s))) oldLevels
    fill_levels =
        let k : n ≡ length (levels_in (lines_of s)) = omega (arith, fill_count, length-levels (lines_of s)) in
        f.laid_levels ∙ rw (k, take-length (levels_in (lines_of s)))
