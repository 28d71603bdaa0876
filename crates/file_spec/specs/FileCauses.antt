-- Why reading or writing a file is refused, in the words of document 01, and that each test decides its cause: the
-- reasons of both calls, in order.
use Rattle.std.specs.Prelude.{◌≡◌, Bool, false, not, ◌&&◌, ◌||◌, ◌⊎◌, ◌↔◌, List, [], ◌∷◌, ◌++◌, ℕ, zero, suc, ◌+◌, ◌*◌}
use Rattle.std.specs.Prelude.{◌%◌, ◌<◌, eqb, ltb, length, get_or, ℤ}
use Rattle.std.proofs.Math.Path.{refl, sym}
use Rattle.std.proofs.Common.{ap, ◌∙◌, true≢false, inl, inr, suc-le-suc, le_of_suc-le-suc, not-suc-le-zero, add-one}
use Rattle.std.proofs.Common.{arith, eq-eqb, ne_eqb, eqb-true, ltb-true, lt-ltb}
use Rattle.std.proofs.Math.Bool.{true}
use Rattle.std.proofs.lemmas.Bool.{false≢true, eqb-false, not-true, not-false}
use Rattle.base_lists.specs.Tests.{either, or_cases, or_left, or_right, or_exact, and_left, and_right, and-true}
use Rattle.base_lists.specs.Tests.{not_both, refuted}
use Rattle.table.specs.Refusals.{first_of}
use Rattle.table.specs.RefusalLaws.{Reason, tests}
use Rattle.table.specs.Table.{link_count, max_links, level_outside}
use Rattle.table.specs.TableCauses.{LevelOutside, level_outside-exact, stored_reasons}
use Rattle.table.specs.FreshLaws.{fresh_reasons}
use Rattle.file_frames.specs.Frame.{digit_value, all_digits, bytes_of, sum_of}
use Rattle.file_frames.specs.FrameLaws.{IsDigit, digit_exact}
use Rattle.file_frames.specs.Kinds.{UNITS, BARE-LINK, LINK, END, frame_bytes, link_kind}
use Rattle.file_spec.specs.File.{Line, kind_of, whole, faulty_line, in_order_after, in_order, link_frames, stated_count}
use Rattle.file_spec.specs.File.{levels_in, read_refusal, file_length, write_refusal}

-- line i
abbrev line_at : List Line → ℕ → Line
line_at ls i = get_or ls i ([], true)

-- ---- 1: a faulty line

-- no kind of a file
abbrev UnknownKind : ℕ → Type 0
UnknownKind k = (k ≡ UNITS → ⊥) × (k ≡ BARE-LINK → ⊥) × (k ≡ LINK → ⊥) × (k ≡ END → ⊥)

-- what can be wrong with a line
pub data Fault (l : Line) : Type 0 where
  empty : l.0 ≡ [] → Fault l
  no_line_feed : l.1 ≡ false → Fault l
  other_character : (j : ℕ) → j < length l.0 → (IsDigit (get_or l.0 j 0) → ⊥) → Fault l
  unknown_kind : UnknownKind (kind_of l) → Fault l
  wrong_length : (length l.0 ≡ 2 * frame_bytes (kind_of l) → ⊥) → Fault l
  wrong_sum : (sum_of (bytes_of l.0) % 256 ≡ 0 → ⊥) → Fault l

abbrev FaultyLine : List Line → Type 0
FaultyLine ls = (i : ℕ) × (i < length ls) × Fault (line_at ls i)

unknown_bytes : (k : ℕ) → UnknownKind k → frame_bytes k ≡ 0
unknown_bytes k u = rw (ne_eqb k UNITS u.0, ne_eqb k BARE-LINK u.1, ne_eqb k LINK u.2, ne_eqb k END u.3)

no_bytes : (k : ℕ) → frame_bytes k ≡ 0 → UnknownKind k
no_bytes k e = (
  λ q. omega (arith, sym (ap frame_bytes q) ∙ e),
  λ q. omega (arith, sym (ap frame_bytes q) ∙ e),
  λ q. omega (arith, sym (ap frame_bytes q) ∙ e),
  λ q. omega (arith, sym (ap frame_bytes q) ∙ e),
)

-- an empty line has no kind
no_bytes_kind : frame_bytes (get_or (bytes_of []) 0 0) ≡ 0
unfolding bytes_of
no_bytes_kind = refl

-- a character that is no digit
strange : (p : List ℕ) → all_digits p ≡ false → (j : ℕ) × (j < length p) × (IsDigit (get_or p j 0) → ⊥)
unfolding all_digits
strange [] e = absurd (true≢false e)
strange (c ∷ p) e = go (strange p) (either (ltb (digit_value c) 16))
  where
    go : (all_digits p ≡ false → (j : ℕ) × (j < length p) × (IsDigit (get_or p j 0) → ⊥))
        → (ltb (digit_value c) 16 ≡ true) ⊎ (ltb (digit_value c) 16 ≡ false)
        → (j : ℕ) × (j < length (c ∷ p)) × (IsDigit (get_or (c ∷ p) j 0) → ⊥)
    go later (inr n) = (zero, omega arith, λ d. not_both (ltb (digit_value c) 16) ((digit_exact c).1 d) n)
    go later (inl y) = let s = later (rw y at e) in (suc s.0, suc-le-suc s.1, s.2)

digits-at : (p : List ℕ) → all_digits p ≡ true → (j : ℕ) → j < length p → IsDigit (get_or p j 0)
unfolding all_digits
digits-at [] e j h = absurd (not-suc-le-zero h)
digits-at (c ∷ p) e zero h = (digit_exact c).0 (and_left (ltb (digit_value c) 16) (all_digits p) e)
digits-at (c ∷ p) e (suc j) h = digits-at p (and_right (ltb (digit_value c) 16) (all_digits p) e) j (le_of_suc-le-suc h)

-- the parts of the test of a line
module _ (l : Line) where
  fed : Bool
  fed = l.1

  digits : Bool
  digits = all_digits l.0

  known : Bool
  known = not (eqb (frame_bytes (kind_of l)) 0)

  long : Bool
  long = eqb (length l.0) (2 * frame_bytes (kind_of l))

  sums : Bool
  sums = eqb (sum_of (bytes_of l.0) % 256) 0

  whole_as : whole l ≡ (fed && digits && known && long && sums)
  unfolding whole fed digits known long sums
  whole_as = refl

  faulty-forth : whole l ≡ false → Fault l
  unfolding fed digits known long sums
  faulty-forth e = go (either fed) (either digits) (either known) (either long) (either sums)
    where
      go : (fed ≡ true) ⊎ (fed ≡ false) → (digits ≡ true) ⊎ (digits ≡ false) → (known ≡ true) ⊎ (known ≡ false)
          → (long ≡ true) ⊎ (long ≡ false) → (sums ≡ true) ⊎ (sums ≡ false) → Fault l
      go (inr f) d k g z = no_line_feed f
      go (inl f) (inr d) k g z = let s = strange l.0 d in other_character s.0 s.1 s.2
      go (inl f) (inl d) (inr k) g z =
          unknown_kind (no_bytes (kind_of l)
          (eqb-true (frame_bytes (kind_of l)) 0 (not-false (eqb (frame_bytes (kind_of l)) 0) k)))
      go (inl f) (inl d) (inl k) (inr g) z = wrong_length (eqb-false (length l.0) (2 * frame_bytes (kind_of l)) g)
      go (inl f) (inl d) (inl k) (inl g) (inr z) = wrong_sum (eqb-false (sum_of (bytes_of l.0) % 256) 0 z)
      go (inl f) (inl d) (inl k) (inl g) (inl z) = absurd (not_both (whole l) (whole_as ∙ rw (f, d, k, g, z)) e)

  faulty-back : Fault l → whole l ≡ true → ⊥
  unfolding fed digits known long sums
  faulty-back x w = go x
    where
      all : (fed && digits && known && long && sums) ≡ true
      all = sym whole_as ∙ w

      four : (fed && digits && known && long) ≡ true
      four = and_left (fed && digits && known && long) sums all

      three : (fed && digits && known) ≡ true
      three = and_left (fed && digits && known) long four

      two : (fed && digits) ≡ true
      two = and_left (fed && digits) known three

      some-kind : frame_bytes (kind_of l) ≡ 0 → ⊥
      some-kind = eqb-false (frame_bytes (kind_of l)) 0
          (not-true (eqb (frame_bytes (kind_of l)) 0) (and_right (fed && digits) known three))

      go : Fault l → ⊥
      go (empty e) = some-kind (ap (λ (p : List ℕ). frame_bytes (get_or (bytes_of p) 0 0)) e ∙ no_bytes_kind)
      go (no_line_feed e) = not_both fed (and_left fed digits two) e
      go (other_character j h n) = n (digits-at l.0 (and_right fed digits two) j h)
      go (unknown_kind u) = some-kind (unknown_bytes (kind_of l) u)
      go (wrong_length n) = n (eqb-true (length l.0) (2 * frame_bytes (kind_of l))
          (and_right (fed && digits && known) long four))
      go (wrong_sum n) = n (eqb-true (sum_of (bytes_of l.0) % 256) 0
          (and_right (fed && digits && known && long) sums all))

faults-forth : (ls : List Line) → faulty_line ls ≡ true → FaultyLine ls
unfolding faulty_line
faults-forth [] e = absurd (false≢true e)
faults-forth (l ∷ ls) e = go (faults-forth ls) (or_cases (not (whole l)) (faulty_line ls) e)
  where
    go : (faulty_line ls ≡ true → FaultyLine ls) → (not (whole l) ≡ true) ⊎ (faulty_line ls ≡ true)
        → FaultyLine (l ∷ ls)
    go later (inl h) = (zero, omega arith, faulty-forth l (not-true (whole l) h))
    go later (inr h) = let f = later h in (suc f.0, suc-le-suc f.1, f.2)

faults-back : (ls : List Line) (i : ℕ) → i < length ls → Fault (line_at ls i) → faulty_line ls ≡ true
unfolding faulty_line
faults-back [] i h f = absurd (not-suc-le-zero h)
faults-back (l ∷ ls) zero h f = or_left (not (whole l)) (faulty_line ls) (rw (refuted (whole l) (faulty-back l f)))
faults-back (l ∷ ls) (suc i) h f = or_right (not (whole l)) (faulty_line ls) (faults-back ls i (le_of_suc-le-suc h) f)

pub faulty-exact : (ls : List Line) → (faulty_line ls ≡ true) ↔ FaultyLine ls
faulty-exact ls = (faults-forth ls, λ f. faults-back ls f.0 f.1 f.2)

-- ---- 2: the order of the frames

abbrev kind_at : List Line → ℕ → ℕ
kind_at ls i = kind_of (line_at ls i)

-- a link's line: 02 or 03
abbrev IsLink : ℕ → Type 0
IsLink k = (k ≡ BARE-LINK) ⊎ (k ≡ LINK)

link-exact : (k : ℕ) → (link_kind k ≡ true) ↔ IsLink k
link-exact k = or_exact (eqb k BARE-LINK) (eqb k LINK) (eqb-true k BARE-LINK, eq-eqb k BARE-LINK) (
  eqb-true k LINK,
  eq-eqb k LINK,
)

-- m times 02 or 03, then one 0F, and nothing more
abbrev LinksThenEnd : List Line → ℕ → Type 0
LinksThenEnd ls m = (length ls ≡ m + 1) × ((i : ℕ) → i < m → IsLink (kind_at ls i)) × (kind_at ls m ≡ END)

-- one 01, any number m of 02 and 03, one 0F
abbrev InOrder : List Line → Type 0
InOrder ls =
    (m : ℕ) × (length ls ≡ m + 2) × (kind_at ls 0 ≡ UNITS) × ((i : ℕ) → i < m → IsLink (kind_at ls (i + 1)))
    × (kind_at ls (m + 1) ≡ END)

links-more : (l : Line) (ls : List Line) → IsLink (kind_of l) → (m : ℕ) × LinksThenEnd ls m →
    (m : ℕ) × LinksThenEnd (l ∷ ls) m
links-more l ls k c = (suc c.0, (omega (arith, c.1.0), links, c.1.2))
  where
    links : (i : ℕ) → i < suc c.0 → IsLink (kind_at (l ∷ ls) i)
    links zero h = k
    links (suc i) h = c.1.1 i (le_of_suc-le-suc h)

after-forth : (ls : List Line) → in_order_after ls ≡ true → (m : ℕ) × LinksThenEnd ls m
unfolding in_order_after
after-forth [] e = absurd (false≢true e)
after-forth (l ∷ []) e = (zero, (refl, λ i h. absurd (not-suc-le-zero h), eqb-true (kind_of l) END e))
after-forth (l ∷ k ∷ ls) e =
    links-more l (k ∷ ls) ((link-exact (kind_of l)).0 (and_left (link_kind (kind_of l)) (in_order_after (k ∷ ls)) e))
    (after-forth (k ∷ ls) (and_right (link_kind (kind_of l)) (in_order_after (k ∷ ls)) e))

after-back : (ls : List Line) (m : ℕ) → LinksThenEnd ls m → in_order_after ls ≡ true
unfolding in_order_after
after-back [] m c = absurd (omega (arith, c.0))
after-back (l ∷ []) zero c = eq-eqb (kind_of l) END c.2
after-back (l ∷ []) (suc m) c = absurd (omega (arith, c.0))
after-back (l ∷ k ∷ ls) zero c = absurd (omega (arith, c.0))
after-back (l ∷ k ∷ ls) (suc m) c =
    and-true (link_kind (kind_of l)) (in_order_after (k ∷ ls)) ((link-exact (kind_of l)).1 (c.1 zero (omega arith)))
    (after-back (k ∷ ls) m (omega (arith, c.0), λ (i : ℕ) (h : i < m). c.1 (suc i) (suc-le-suc h), c.2))

order-forth : (ls : List Line) → in_order ls ≡ true → InOrder ls
unfolding in_order
order-forth [] e = absurd (false≢true e)
order-forth (l ∷ ls) e =
    let c = after-forth ls (and_right (eqb (kind_of l) UNITS) (in_order_after ls) e) in
    let long : length ls ≡ c.0 + 1 = c.1.0 in (
      c.0,
      omega arith,
      eqb-true (kind_of l) UNITS (and_left (eqb (kind_of l) UNITS) (in_order_after ls) e),
      λ (i : ℕ) (h : i < c.0). rw add-one (c.1.1 i h),
      rw add-one c.1.2,
    )

order-back : (ls : List Line) → InOrder ls → in_order ls ≡ true
unfolding in_order
order-back [] c = absurd (omega (arith, c.1))
order-back (l ∷ ls) c =
    let long : suc (length ls) ≡ c.0 + 2 = c.1 in
    and-true (eqb (kind_of l) UNITS) (in_order_after ls) (eq-eqb (kind_of l) UNITS c.2)
    (after-back ls c.0 (omega arith, λ (i : ℕ) (h : i < c.0). rw add-one at (c.3 i h), rw add-one at c.4))

pub order-exact : (ls : List Line) → (not (in_order ls) ≡ true) ↔ (InOrder ls → ⊥)
order-exact ls = (
  λ e c. not_both (in_order ls) (order-back ls c) (not-true (in_order ls) e),
  λ n. rw (refuted (in_order ls) (λ e. n (order-forth ls e))),
)

-- ---- 3: the count differs

pub count-exact : (a b : ℕ) → (not (eqb a b) ≡ true) ↔ (a ≡ b → ⊥)
count-exact a b = (λ e. eqb-false a b (not-true (eqb a b) e), λ n. rw (ne_eqb a b n))

pub below-exact : (a b : ℕ) → (ltb a b ≡ true) ↔ (a < b)
below-exact a b = (ltb-true a b, lt-ltb a b)

-- ---- 14: a slice is too short

pub short-exact : (a b c d : ℕ) → ((ltb a b || ltb c d) ≡ true) ↔ ((a < b) ⊎ (c < d))
short-exact a b c d = or_exact (ltb a b) (ltb c d) (below-exact a b) (below-exact c d)

-- ---- reading: 1, 2, 3, 6, 16, 14

unfoldable pub read_reasons : List Line → ℕ → ℕ → List Reason
read_reasons ls places spaces =
    record { number = 1; test = faulty_line ls; cause = FaultyLine ls; exact = faulty-exact ls }
    ∷ record { number = 2; test = not (in_order ls); cause = InOrder ls → ⊥; exact = order-exact ls }
    ∷ record {
      number = 3;
      test = not (eqb (stated_count ls) (link_frames ls));
      cause = stated_count ls ≡ link_frames ls → ⊥;
      exact = count-exact (stated_count ls) (link_frames ls);
    }
    ∷ record {
      number = 6;
      test = ltb max_links (link_frames ls);
      cause = max_links < link_frames ls;
      exact = below-exact max_links (link_frames ls);
    }
    ∷ record {
      number = 16;
      test = level_outside (levels_in ls);
      cause = LevelOutside (levels_in ls);
      exact = level_outside-exact (levels_in ls);
    }
    ∷ record {
      number = 14;
      test = ltb places (2 * link_frames ls) || ltb spaces (link_frames ls);
      cause = (places < 2 * link_frames ls) ⊎ (spaces < link_frames ls);
      exact = short-exact places (2 * link_frames ls) spaces (link_frames ls);
    }
    ∷ []

pub read_refusal-tests : (ls : List Line) (places spaces : ℕ) →
    read_refusal ls places spaces ≡ first_of (tests (read_reasons ls places spaces))
unfolding read_refusal read_reasons
read_refusal-tests ls places spaces = refl

-- ---- writing: a fresh table's, 14

unfoldable pub write_reasons : ℕ → List ℕ → List ℤ → ℕ → List Reason
write_reasons n t ls places =
    fresh_reasons n t ls
    ++ record {
      number = 14;
      test = ltb places (file_length (link_count t));
      cause = places < file_length (link_count t);
      exact = below-exact places (file_length (link_count t));
    }
    ∷ []

pub write_refusal-tests : (n : ℕ) (t : List ℕ) (ls : List ℤ) (places : ℕ) →
    write_refusal n t ls places ≡ first_of (tests (write_reasons n t ls places))
unfolding write_refusal write_reasons fresh_reasons stored_reasons
write_refusal-tests n t ls places = refl
