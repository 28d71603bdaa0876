-- A link at the end of a table that passes is refused exactly as load refuses the lists with it.
use Rattle.std.specs.Prelude.{◌≡◌, refl, Bool, true, false, not, ◌&&◌, ◌||◌, List, [], ◌∷◌, ◌++◌, ℕ, suc, ◌+◌, ◌%◌, ◌≤◌}
use Rattle.std.specs.Prelude.{eqb, ltb, length, ℤ}
use Rattle.std.proofs.Common.{sym, ap₂, ◌∙◌, inl, inr, arith, length-append, lt-ltb, le-ltb, le-leb, ne_eqb, eq-eqb}
use Rattle.std.proofs.Math.Path.{ap}
use Rattle.std.proofs.Math.Bool.{or_assoc, or-false}
use Rattle.std.proofs.Math.Decide.{dec_le}
use Rattle.std.proofs.Math.Dec.{leb}
use Rattle.std.proofs.lemmas.Bool.{lt-leb, not-false}
use Rattle.base_lists.specs.Folds.{every}
use Rattle.base_lists.specs.All.{every_append}
use Rattle.base_lists.specs.Tests.{same_test, or_swap}
use Rattle.table_levels.specs.Level.{in_range}
use Rattle.table.proofs.Passes.{Passes, passes, table-alone, table-levelled}
use Rattle.table.specs.Table.{max_links, link_count, odd_words, too_many_links, levels_differ, level_outside}
use Rattle.table.specs.Table.{end_missing}
use Rattle.table.specs.Table.{equal_ends, same_ends, joined_in, repeated_by, repeated_link, stored_refusal}
use Rattle.table.specs.TableCauses.{SameEnds, same_ends-exact}
use Rattle.spec_machine.specs.Load.{Input}
use Rattle.live_table.specs.Live.{added}
use Rattle.live_table.specs.LiveCalls.{open_refusal, link_refusal}
use Rattle.live_table.specs.PassedLaws.{passed}

-- ---- each test of two lists in a row

missing-append : (n : ℕ) (s t : List ℕ) → end_missing n (s ++ t) ≡ (end_missing n s || end_missing n t)
unfolding end_missing
missing-append n [] t = refl
missing-append n (x ∷ s) t = ap (λ (b : Bool). leb n x || b) (missing-append n s t)
    ∙ sym (or_assoc (leb n x) (end_missing n s) (end_missing n t))

equal-append : (s t : List ℕ) → length s % 2 ≡ 0 → equal_ends (s ++ t) ≡ (equal_ends s || equal_ends t)
unfolding equal_ends
equal-append [] t h = refl
equal-append (a ∷ []) t h = absurd (omega arith)
equal-append (a ∷ b ∷ s) t h =
    ap (λ (x : Bool). eqb a b || x) (equal-append s t (omega arith))
    ∙ sym (or_assoc (eqb a b) (equal_ends s) (equal_ends t))

joined-append : (a b : ℕ) (s t : List ℕ) → length s % 2 ≡ 0 →
    joined_in same_ends a b (s ++ t) ≡ (joined_in same_ends a b s || joined_in same_ends a b t)
unfolding joined_in
joined-append a b [] t h = refl
joined-append a b (c ∷ []) t h = absurd (omega arith)
joined-append a b (c ∷ d ∷ s) t h =
    ap (λ (x : Bool). same_ends a b c d || x) (joined-append a b s t (omega arith))
    ∙ sym (or_assoc (same_ends a b c d) (joined_in same_ends a b s) (joined_in same_ends a b t))

same-turned : (a b c d : ℕ) → same_ends a b c d ≡ same_ends c d a b
same-turned a b c d =
    same_test (same_ends a b c d) (same_ends c d a b)
    (λ e. (same_ends-exact c d a b).1 (turn a b c d ((same_ends-exact a b c d).0 e)))
    (λ e. (same_ends-exact a b c d).1 (turn c d a b ((same_ends-exact c d a b).0 e)))
  where
    turn : (x y z w : ℕ) → SameEnds x y z w → SameEnds z w x y
    turn x y z w (inl p) = inl (sym p.0, sym p.1)
    turn x y z w (inr p) = inr (sym p.1, sym p.0)

joined-one : (a b c d : ℕ) → joined_in same_ends c d (a ∷ b ∷ []) ≡ same_ends a b c d
unfolding joined_in
joined-one a b c d = or-false (same_ends c d a b) ∙ same-turned c d a b

repeated_append : (t : List ℕ) (a b : ℕ) → length t % 2 ≡ 0 →
    repeated_by same_ends (t ++ a ∷ b ∷ []) ≡ (repeated_by same_ends t || joined_in same_ends a b t)
unfolding joined_in
repeated_append [] a b h = refl
repeated_append (c ∷ []) a b h = absurd (omega arith)
repeated_append (c ∷ d ∷ t) a b h =
    ap₂ (λ (x y : Bool). x || y)
    (joined-append c d t (a ∷ b ∷ []) (omega arith)
    ∙ ap (λ (x : Bool). joined_in same_ends c d t || x) (joined-one a b c d))
    (repeated_append t a b (omega arith))
    ∙ or_swap (joined_in same_ends c d t) (same_ends a b c d) (repeated_by same_ends t) (joined_in same_ends a b t)

-- ---- the tests of the lists with the link

module _ (n : ℕ) (t : List ℕ) (ls : List ℤ) (e : stored_refusal n t ls ≡ 0) (a b : ℕ) (level : ℤ) where
  abbrev more : List ℕ
  more = t ++ a ∷ b ∷ []

  whole : Passes n t
  whole = passes n t (table-alone n t ls e)

  long : length more ≡ length t + 2
  long = length-append t (a ∷ b ∷ [])

  even : length t % 2 ≡ 0
  even = omega (arith, whole.pairs)

  five : odd_words more ≡ false
  five = ne_eqb (length more % 2) 1 (omega (arith, long, even))

  one_more : link_count more ≡ suc (link_count t)
  one_more = omega (arith, long)

  six : too_many_links more ≡ leb max_links (link_count t)
  six = rw one_more (go (dec_le max_links (link_count t)))
    where
      go : Dec (max_links ≤ link_count t) → ltb max_links (suc (link_count t)) ≡ leb max_links (link_count t)
      go (yes l) = rw (le-leb max_links (link_count t) l, lt-ltb max_links (suc (link_count t)) (omega arith)) refl
      go (no l) = rw (
        lt-leb max_links (link_count t) (omega arith),
        le-ltb max_links (suc (link_count t)) (omega arith),
      ) refl

  fifteen : levels_differ more (ls ++ level ∷ []) ≡ false
  fifteen = rw (eq-eqb (length (ls ++ level ∷ [])) (link_count more)
      (omega (arith, length-append ls (level ∷ []), one_more, table-levelled n t ls e))) refl

  sixteen : level_outside (ls ++ level ∷ []) ≡ not (in_range level)
  sixteen =
      ap not
      (every_append in_range ls (level ∷ [])
      ∙ ap (λ (x : Bool). x && every in_range (level ∷ [])) (not-false (every in_range ls) (passed n t ls e).sixteen)
      ∙ last (in_range level))
    where
      last : (x : Bool) → (x && true) ≡ x
      last true = refl
      last false = refl

  seven : end_missing n more ≡ (leb n a || leb n b)
  unfolding end_missing
  seven = missing-append n t (a ∷ b ∷ [])
      ∙ rw (passed n t ls e).seven (ap (λ (x : Bool). leb n a || x) (or-false (leb n b)))

  eight : equal_ends more ≡ eqb a b
  unfolding equal_ends
  eight = equal-append t (a ∷ b ∷ []) even ∙ rw (passed n t ls e).eight (or-false (eqb a b))

  nine : repeated_link more ≡ joined_in same_ends a b t
  unfolding repeated_link
  nine = repeated_append t a b even ∙ ap (λ (x : Bool). x || joined_in same_ends a b t) (passed n t ls e).nine

pub added-refusal : (x : Input) (a b : ℕ) (level : ℤ) → open_refusal x ≡ 0 →
    open_refusal (added a b level x) ≡ link_refusal a b level x
unfolding stored_refusal link_refusal
added-refusal x a b level e =
    let n = x.units in
    let t = x.words in
    let ls = x.levels in
    rw (
      (passed n t ls e).four,
      five n t ls e a b level,
      six n t ls e a b level,
      fifteen n t ls e a b level,
      sixteen n t ls e a b level,
      seven n t ls e a b level,
      eight n t ls e a b level,
      nine n t ls e a b level,
    )
    refl
