-- The first line of characters: it is whole exactly when the characters begin with the line of a frame of a file kind.
use Rattle.std.specs.Prelude.{◌≡◌, refl, true, false, not, ◌&&◌, ◌||◌, ◌⊎◌, List, [], ◌∷◌, ◌++◌, ℕ, ◌+◌, ◌*◌, ◌%◌, ◌≤◌}
use Rattle.std.specs.Prelude.{◌<◌, ltb, eqb, length, get_or, take, drop}
use Rattle.std.proofs.Common.{sym, ap, ◌∙◌, inl, inr, arith, take-append-drop, take_at, length-take-le, get_or-take}
use Rattle.std.proofs.Common.{eq-eqb, ne_eqb, eqb-true}
use Rattle.std.proofs.lemmas.Bool.{false≢true, eqb-false, not-true}
use Rattle.std.proofs.Math.Decide.{ℕ_discrete, dec_lt}
use Rattle.std.proofs.Math.ListN.{get_or-append, get_or-eq_default}
use Rattle.std.proofs.lemmas.List.{get_or_at}
use Rattle.base_lists.specs.Tests.{either, and_left, and_right, not_both}
use Rattle.base_lists.specs.Rests.{rest-one}
use Rattle.file_frames.specs.Frame.{LF, digit_value, byte_at, word_at, all_digits, bytes_of, sum_of, line_front}
use Rattle.file_frames.specs.FrameLaws.{digit_no_feed, bytes-at}
use Rattle.file_frames.specs.Kinds.{frame_bytes, kind_front, file_front}
use Rattle.file_spec.specs.File.{Line, prepend, lines_of, kind_of, number_at, whole, faulty_line}

-- ---- the first line

-- digits up to a line feed are a line
pub lines_more : (p s : List ℕ) → all_digits p ≡ true → lines_of (p ++ LF ∷ s) ≡ (p, true) ∷ lines_of s
unfolding lines_of prepend all_digits
lines_more [] s h = refl
lines_more (c ∷ p) s h =
    let digit : ltb (digit_value c) 16 ≡ true = and_left (ltb (digit_value c) 16) (all_digits p) h in
    rw (ne_eqb c LF (digit_no_feed c digit), lines_more p s (and_right (ltb (digit_value c) 16) (all_digits p) h))

-- the first line of characters: it ends in a line feed, with the other lines after it, or it is the last and has none
data FirstLine (s : List ℕ) : Type 0 where
  ended : (p rest : List ℕ) → s ≡ p ++ LF ∷ rest → lines_of s ≡ (p, true) ∷ lines_of rest → FirstLine s
  unended : (p : List ℕ) → lines_of s ≡ (p, false) ∷ [] → FirstLine s

line_feed : (c : ℕ) (s : List ℕ) → c ≡ LF → FirstLine (c ∷ s)
unfolding lines_of
line_feed c s e = ended [] s (ap (λ (x : ℕ). x ∷ s) e) (rw (eq-eqb c LF e))

-- one character more at the front
line-longer : (c : ℕ) (s : List ℕ) → (c ≡ LF → ⊥) → FirstLine s → FirstLine (c ∷ s)
unfolding lines_of prepend
line-longer c s n (ended p rest e l) = ended (c ∷ p) rest (ap (λ (x : List ℕ). c ∷ x) e) (rw (ne_eqb c LF n, l))
line-longer c s n (unended p l) = unended (c ∷ p) (rw (ne_eqb c LF n, l))

line-alone : (c : ℕ) → (c ≡ LF → ⊥) → FirstLine (c ∷ [])
unfolding lines_of prepend
line-alone c n = unended (c ∷ []) (rw (ne_eqb c LF n))

first-line : (c : ℕ) (s : List ℕ) → FirstLine (c ∷ s)
first-line c [] = go (ℕ_discrete c LF)
  where
    go : Dec (c ≡ LF) → FirstLine (c ∷ [])
    go (yes e) = line_feed c [] e
    go (no n) = line-alone c n
first-line c (d ∷ s) = go (first-line d s) (ℕ_discrete c LF)
  where
    go : FirstLine (d ∷ s) → Dec (c ≡ LF) → FirstLine (c ∷ d ∷ s)
    go f (yes e) = line_feed c (d ∷ s) e
    go f (no n) = line-longer c (d ∷ s) n f

-- no characters have no line, characters without a line are none, and lines come of characters
pub none-lines : (s : List ℕ) → length s ≤ 0 → lines_of s ≡ []
unfolding lines_of
none-lines [] h = refl
none-lines (c ∷ s) h = absurd (omega arith)

pub no_lines : (s : List ℕ) → lines_of s ≡ [] → length s ≡ 0
no_lines [] e = refl
no_lines (c ∷ s) e = go (first-line c s)
  where
    go : FirstLine (c ∷ s) → length (c ∷ s) ≡ 0
    go (ended p rest f l) = absurd (omega (arith, ap length (sym l ∙ e)))
    go (unended p l) = absurd (omega (arith, ap length (sym l ∙ e)))

-- ---- a whole line at the front

-- what the test of a line says
pub record Whole (p : List ℕ) (bytes : ℕ) : Type 0 where
  pub digits : all_digits p ≡ true
  pub long : length p ≡ 2 * bytes
  pub sums : sum_of (bytes_of p) % 256 ≡ 0
  pub kind : frame_bytes (get_or (bytes_of p) 0 0) ≡ bytes
  pub known : bytes ≡ 0 → ⊥

pub whole-line : (l : Line) → whole l ≡ true → Whole l.0 (frame_bytes (kind_of l))
unfolding whole
whole-line l h =
    let p = l.0 in
    let k = kind_of l in
    let fed = l.1 in
    let d = all_digits p in
    let u = not (eqb (frame_bytes k) 0) in
    let m = eqb (length p) (2 * frame_bytes k) in
    let z = eqb (sum_of (bytes_of p) % 256) 0 in
    let four = and_left (fed && d && u && m) z h in
    let three = and_left (fed && d && u) m four in
    let two = and_left (fed && d) u three in
    record {
      digits = and_right fed d two;
      long = eqb-true (length p) (2 * frame_bytes k) (and_right (fed && d && u) m four);
      sums = eqb-true (sum_of (bytes_of p) % 256) 0 (and_right (fed && d && u && m) z h);
      kind = refl;
      known = eqb-false (frame_bytes k) 0 (not-true (eqb (frame_bytes k) 0) (and_right (fed && d) u three));
    }

-- it has its line feed
pub line-fed : (l : Line) → whole l ≡ true → l.1 ≡ true
unfolding whole
line-fed l h = go (either l.1)
  where
    go : (l.1 ≡ true) ⊎ (l.1 ≡ false) → l.1 ≡ true
    go (inl e) = e
    go (inr e) = absurd (false≢true (rw e at h))

pub says_whole : (p : List ℕ) (bytes : ℕ) → Whole p bytes → whole (p, true) ≡ true
unfolding whole
says_whole p bytes w =
    rw (
      w.kind,
      w.digits,
      ne_eqb bytes 0 w.known,
      eq-eqb (length p) (2 * bytes) w.long,
      eq-eqb (sum_of (bytes_of p) % 256) 0 w.sums,
    )

-- characters that begin with a whole line begin with a file's frame
whole-front : (p rest : List ℕ) (bytes : ℕ) → Whole p bytes → file_front (p ++ LF ∷ rest) ≡ true
unfolding file_front line_front
whole-front p rest bytes w =
    let s = p ++ LF ∷ rest in
    let some : bytes ≡ 0 → ⊥ = w.known in
    let long : length p ≡ 2 * bytes = w.long in
    let same : kind_front s ≡ get_or (bytes_of p) 0 0 =
    rw (
      get_or-append p (LF ∷ rest) 0 0 (omega arith),
      get_or-append p (LF ∷ rest) 0 1 (omega arith),
      bytes-at p 0 (omega arith),
    ) in
    let size : frame_bytes (kind_front s) ≡ bytes = ap frame_bytes same ∙ w.kind in
    rw (
      size,
      ne_eqb bytes 0 some,
      get_or_at p LF rest 0 (2 * bytes) long,
      take_at p (LF ∷ rest) (2 * bytes) long,
      w.digits,
      eq-eqb (sum_of (bytes_of p) % 256) 0 w.sums,
    )

-- a line feed stands within the characters
feed_short : (s : List ℕ) (n : ℕ) → get_or s n 0 ≡ LF → n < length s
feed_short s n e = go (dec_lt n (length s))
  where
    go : Dec (n < length s) → n < length s
    go (yes h) = h
    go (no h) = let past : get_or s n 0 ≡ 0 = get_or-eq_default s 0 (omega arith) in absurd (omega arith)

-- characters that begin with a file's frame: where its line ends
pub record Begins (s : List ℕ) : Type 0 where
  pub short : 2 * frame_bytes (kind_front s) < length s
  pub split : s ≡ take (2 * frame_bytes (kind_front s)) s ++ LF ∷ drop (2 * frame_bytes (kind_front s) + 1) s
  pub body : Whole (take (2 * frame_bytes (kind_front s)) s) (frame_bytes (kind_front s))
  pub kind : get_or (bytes_of (take (2 * frame_bytes (kind_front s)) s)) 0 0 ≡ kind_front s

pub front_says : (s : List ℕ) → file_front s ≡ true → Begins s
unfolding file_front line_front
front_says s h =
    let k = frame_bytes (kind_front s) in
    let n = 2 * k in
    let f = eqb (get_or s n 0) LF in
    let d = all_digits (take n s) in
    let z = eqb (sum_of (bytes_of (take n s)) % 256) 0 in
    let line = and_right (not (eqb k 0)) (f && d && z) h in
    let known : k ≡ 0 → ⊥ = eqb-false k 0 (not-true (eqb k 0) (and_left (not (eqb k 0)) (f && d && z) h)) in
    let feed : get_or s n 0 ≡ LF = eqb-true (get_or s n 0) LF (and_left f d (and_left (f && d) z line)) in
    let short : n < length s = feed_short s n feed in
    let long : length (take n s) ≡ n = length-take-le n s (omega arith) in
    let same : get_or (bytes_of (take n s)) 0 0 ≡ kind_front s =
    bytes-at (take n s) 0 (omega arith) ∙ rw (get_or-take n s 0 0 (omega arith), get_or-take n s 1 0 (omega arith)) in
    record {
      short = short;
      split = sym (take-append-drop n s)
          ∙ ap (λ (l : List ℕ). take n s ++ l) (rest-one s n 0 short ∙ ap (λ (x : ℕ). x ∷ drop (n + 1) s) feed);
      body =
          record {
            digits = and_right f d (and_left (f && d) z line);
            long = long;
            sums = eqb-true (sum_of (bytes_of (take n s)) % 256) 0 (and_right (f && d) z line);
            kind = ap frame_bytes same;
            known = known;
          };
      kind = same;
    }

-- ---- lines and whole lines

-- the first line of characters that begin with a file's frame
abbrev pub front_line : List ℕ → Line
front_line s = (take (2 * frame_bytes (kind_front s)) s, true)

-- and the characters past it
abbrev pub past_line : List ℕ → List ℕ
past_line s = drop (2 * frame_bytes (kind_front s) + 1) s

pub front-lines : (s : List ℕ) → file_front s ≡ true → lines_of s ≡ front_line s ∷ lines_of (past_line s)
front-lines s h =
    let f = front_says s h in
    ap lines_of f.split ∙ lines_more (take (2 * frame_bytes (kind_front s)) s) (past_line s) f.body.digits

pub front-kind : (s : List ℕ) → file_front s ≡ true → kind_of (front_line s) ≡ kind_front s
front-kind s h = (front_says s h).kind

-- a byte of the first characters
front_byte : (s : List ℕ) (n j : ℕ) → n ≤ length s → 2 * j + 1 < n → get_or (bytes_of (take n s)) j 0
    ≡ byte_at s (2 * j)
front_byte s n j l h =
    let long : length (take n s) ≡ n = length-take-le n s l in
    bytes-at (take n s) j (omega arith) ∙ rw (get_or-take n s (2 * j) 0 (omega arith), get_or-take n s (2 * j + 1) 0 h)

-- a byte of the first line stands in its characters, and so does a number
pub front_byte-at : (s : List ℕ) → file_front s ≡ true → (j : ℕ) → j < frame_bytes (kind_front s) →
    get_or (bytes_of (front_line s).0) j 0 ≡ byte_at s (2 * j)
front_byte-at s h j k = front_byte s (2 * frame_bytes (kind_front s)) j (omega (arith, (front_says s h).short))
    (omega arith)

pub front-word : (s : List ℕ) → file_front s ≡ true → (i : ℕ) → i + 1 < frame_bytes (kind_front s) →
    number_at (front_line s) i ≡ word_at s (2 * i)
front-word s h i k =
    let e : 2 * (i + 1) ≡ 2 * i + 2 = omega arith in
    rw (front_byte-at s h i (omega arith), front_byte-at s h (i + 1) (omega arith), e)

pub faulty-later : (s : List ℕ) → file_front s ≡ true → faulty_line (lines_of s) ≡ faulty_line (lines_of (past_line s))
unfolding faulty_line
faulty-later s h =
    rw (
      front-lines s h,
      says_whole (take (2 * frame_bytes (kind_front s)) s) (frame_bytes (kind_front s))
          (front_says s h).body,
    )

faulty-ended : (s p rest : List ℕ) → file_front s ≡ false → s ≡ p ++ LF ∷ rest → lines_of s ≡ (p, true) ∷ lines_of rest
    → faulty_line (lines_of s) ≡ true
unfolding faulty_line
faulty-ended s p rest h e l = rw l (go (either (whole (p, true))))
  where
    go : (whole (p, true) ≡ true) ⊎ (whole (p, true) ≡ false) →
        (not (whole (p, true)) || faulty_line (lines_of rest)) ≡ true
    go (inl w) =
        absurd (not_both (file_front s) (rw e
        (whole-front p rest (frame_bytes (get_or (bytes_of p) 0 0)) (whole-line (p, true) w))) h)
    go (inr w) = rw w

pub faulty-here : (s : List ℕ) → 0 < length s → file_front s ≡ false → faulty_line (lines_of s) ≡ true
unfolding faulty_line whole
faulty-here [] l h = absurd (omega arith)
faulty-here (c ∷ s) l h = go (first-line c s)
  where
    go : FirstLine (c ∷ s) → faulty_line (lines_of (c ∷ s)) ≡ true
    go (ended p rest e f) = faulty-ended (c ∷ s) p rest h e f
    go (unended p f) = rw f

-- where no line is faulty, characters begin with a file's frame
pub sound-front : (s : List ℕ) → faulty_line (lines_of s) ≡ false → 0 < length s → file_front s ≡ true
sound-front s h l = go (either (file_front s))
  where
    go : (file_front s ≡ true) ⊎ (file_front s ≡ false) → file_front s ≡ true
    go (inl e) = e
    go (inr e) = absurd (not_both (faulty_line (lines_of s)) (faulty-here s l e) h)
