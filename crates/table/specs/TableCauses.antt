-- The causes 4 to 9 in the words of document 01 and 15 and 16 in those of document 02, and that each test decides its
-- cause.
use Rattle.std.specs.Prelude.{◌≡◌, refl, Bool, false, ◌⊎◌, ◌↔◌, leb, ltb, eqb, length, get_or, ℤ}
use Rattle.std.proofs.Common.{sym, ap, true≢false, inl, inr, le_of_suc-le-suc, not-suc-le-zero, leb-true, le-leb}
use Rattle.std.proofs.Common.{ltb-true, lt-ltb, eqb-true, eq-eqb, ne_eqb}
use Rattle.std.proofs.Math.Bool.{true}
use Rattle.std.proofs.lemmas.Bool.{false≢true, eqb-false, not-true}
use mathlib.Core.List.{List, [], ◌∷◌, ◌++◌}
use Prim.Native.Nat.{ℕ, zero, suc, ◌+◌, ◌*◌, ◌/◌, ◌%◌, ◌≤◌, ◌<◌, suc-le-suc}
use native.Mathlib.Omega.{arith}
use Rattle.base_lists.specs.Folds.{every}
use Rattle.base_lists.specs.All.{every-at}
use Rattle.base_lists.specs.Tests.{either, or_cases, or_left, or_right, and_left, and_right, and-true, not_both}
use Rattle.base_lists.specs.Tests.{refuted}
use Rattle.table_levels.specs.Level.{HIGHEST, in_range}
use Rattle.table_levels.specs.LevelLaws.{InRange, range-exact}
use Rattle.table.specs.RefusalLaws.{Reason}
use Rattle.table.specs.TableLaws.{end_a-later, end_b-later}
use Rattle.table.specs.Table.{max_units, max_links, link_count, end_a, end_b, bad_unit_count, odd_words, too_many_links}
use Rattle.table.specs.Table.{levels_differ, level_outside, end_missing, equal_ends, same_ends, joined_in}
use Rattle.table.specs.Table.{repeated_link}
use Rattle.table.specs.Table.{same_pair, repeated_by, repeated_pair}

-- ---- the causes

abbrev BadUnitCount : ℕ → Type 0
BadUnitCount n = (n ≡ 0) ⊎ (max_units < n)

abbrev OddWords : List ℕ → Type 0
OddWords t = (k : ℕ) × (length t ≡ 2 * k + 1)

abbrev TooManyLinks : List ℕ → Type 0
TooManyLinks t = max_links < link_count t

abbrev EndMissing : ℕ → List ℕ → Type 0
EndMissing n t = (i : ℕ) × (i < length t) × (n ≤ get_or t i 0)

abbrev EqualEnds : List ℕ → Type 0
EqualEnds t = (j : ℕ) × (j < link_count t) × (end_a t j ≡ end_b t j)

-- the links (a, b) and (c, d) join the same two units, in either order
abbrev pub SameEnds : ℕ → ℕ → ℕ → ℕ → Type 0
SameEnds a b c d = ((a ≡ c) × (b ≡ d)) ⊎ ((a ≡ d) × (b ≡ c))

-- they are the same ordered pair
abbrev pub SamePair : ℕ → ℕ → ℕ → ℕ → Type 0
SamePair a b c d = (a ≡ c) × (b ≡ d)

-- two links are the same
abbrev RepeatedBy : (ℕ → ℕ → ℕ → ℕ → Type 0) → List ℕ → Type 0
RepeatedBy Same t =
    (j : ℕ) × (k : ℕ) × (j ≡ k → ⊥) × (j < link_count t) × (k < link_count t)
    × Same (end_a t j) (end_b t j) (end_a t k) (end_b t k)

abbrev RepeatedLink : List ℕ → Type 0
RepeatedLink t = RepeatedBy SameEnds t

abbrev RepeatedPair : List ℕ → Type 0
RepeatedPair t = RepeatedBy SamePair t

abbrev LevelsDiffer : List ℕ → List ℤ → Type 0
LevelsDiffer t ls = length ls ≡ link_count t → ⊥

abbrev pub LevelOutside : List ℤ → Type 0
LevelOutside ls = (j : ℕ) × (j < length ls) × (InRange (get_or ls j HIGHEST) → ⊥)

-- ---- each test decides its cause

pub unit_count_exact : (n : ℕ) → (bad_unit_count n ≡ true) ↔ BadUnitCount n
unit_count_exact n = (λ e. go (or_cases (eqb n 0) (ltb max_units n) e), back)
  where
    go : (eqb n 0 ≡ true) ⊎ (ltb max_units n ≡ true) → BadUnitCount n
    go (inl e) = inl (eqb-true n 0 e)
    go (inr e) = inr (ltb-true max_units n e)

    back : BadUnitCount n → bad_unit_count n ≡ true
    back (inl e) = or_left (eqb n 0) (ltb max_units n) (eq-eqb n 0 e)
    back (inr l) = or_right (eqb n 0) (ltb max_units n) (lt-ltb max_units n l)

pub odd_words-exact : (t : List ℕ) → (odd_words t ≡ true) ↔ OddWords t
odd_words-exact t = (forth, back)
  where
    forth : odd_words t ≡ true → OddWords t
    forth e = let o : length t % 2 ≡ 1 = eqb-true (length t % 2) 1 e in (length t / 2, omega arith)

    back : OddWords t → odd_words t ≡ true
    back c = let e : length t ≡ 2 * c.0 + 1 = c.1 in eq-eqb (length t % 2) 1 (omega arith)

pub too_many_links-exact : (t : List ℕ) → (too_many_links t ≡ true) ↔ TooManyLinks t
too_many_links-exact t = (ltb-true max_links (link_count t), lt-ltb max_links (link_count t))

end_missing-forth : (n : ℕ) (t : List ℕ) → end_missing n t ≡ true → EndMissing n t
unfolding end_missing
end_missing-forth n [] e = absurd (false≢true e)
end_missing-forth n (x ∷ t) e = go (end_missing-forth n t) (or_cases (leb n x) (end_missing n t) e)
  where
    go : (end_missing n t ≡ true → EndMissing n t) → (leb n x ≡ true) ⊎ (end_missing n t ≡ true) → EndMissing n (x ∷ t)
    go later (inl h) = (zero, omega arith, leb-true n x h)
    go later (inr h) = let c = later h in (suc c.0, suc-le-suc c.1, c.2)

end_missing-back : (n : ℕ) (t : List ℕ) (i : ℕ) → i < length t → n ≤ get_or t i 0 → end_missing n t ≡ true
unfolding end_missing
end_missing-back n [] i l h = absurd (not-suc-le-zero l)
end_missing-back n (x ∷ t) zero l h = or_left (leb n x) (end_missing n t) (le-leb n x h)
end_missing-back n (x ∷ t) (suc i) l h = or_right (leb n x) (end_missing n t)
    (end_missing-back n t i (le_of_suc-le-suc l) h)

pub end_missing-exact : (n : ℕ) (t : List ℕ) → (end_missing n t ≡ true) ↔ EndMissing n t
end_missing-exact n t = (end_missing-forth n t, λ c. end_missing-back n t c.0 c.1 c.2)

-- ---- 8: equal ends

equal_ends-forth : (t : List ℕ) → equal_ends t ≡ true → EqualEnds t
unfolding equal_ends
equal_ends-forth [] e = absurd (false≢true e)
equal_ends-forth (a ∷ []) e = absurd (false≢true e)
equal_ends-forth (a ∷ b ∷ t) e = go (equal_ends-forth t) (or_cases (eqb a b) (equal_ends t) e)
  where
    go : (equal_ends t ≡ true → EqualEnds t) → (eqb a b ≡ true) ⊎ (equal_ends t ≡ true) → EqualEnds (a ∷ b ∷ t)
    go later (inl h) = (zero, omega arith, eqb-true a b h)
    go later (inr h) =
        let c = later h in
        let l : c.0 < link_count t = c.1 in
        (suc c.0, omega arith, rw (end_a-later a b t c.0, end_b-later a b t c.0) c.2)

equal_ends-back : (t : List ℕ) (j : ℕ) → j < link_count t → end_a t j ≡ end_b t j → equal_ends t ≡ true
unfolding equal_ends
equal_ends-back [] j l e = absurd (omega arith)
equal_ends-back (a ∷ []) j l e = absurd (omega arith)
equal_ends-back (a ∷ b ∷ t) zero l e = or_left (eqb a b) (equal_ends t) (eq-eqb a b e)
equal_ends-back (a ∷ b ∷ t) (suc j) l e =
    or_right (eqb a b) (equal_ends t) (equal_ends-back t j (omega arith)
    (rw (end_a-later a b t j, end_b-later a b t j) at e))

pub equal_ends-exact : (t : List ℕ) → (equal_ends t ≡ true) ↔ EqualEnds t
equal_ends-exact t = (equal_ends-forth t, λ c. equal_ends-back t c.0 c.1 c.2)

-- ---- 9: two links that are the same

pub same_pair_exact : (a b c d : ℕ) → (same_pair a b c d ≡ true) ↔ SamePair a b c d
same_pair_exact a b c d = (
  λ e. (eqb-true a c (and_left (eqb a c) (eqb b d) e), eqb-true b d (and_right (eqb a c) (eqb b d) e)),
  λ p. and-true (eqb a c) (eqb b d) (eq-eqb a c p.0) (eq-eqb b d p.1),
)

pub same_ends-exact : (a b c d : ℕ) → (same_ends a b c d ≡ true) ↔ SameEnds a b c d
same_ends-exact a b c d = (λ e. go (or_cases (same_pair a b c d) (same_pair a b d c) e), back)
  where
    go : (same_pair a b c d ≡ true) ⊎ (same_pair a b d c ≡ true) → SameEnds a b c d
    go (inl e) = inl ((same_pair_exact a b c d).0 e)
    go (inr e) = inr ((same_pair_exact a b d c).0 e)

    back : SameEnds a b c d → same_ends a b c d ≡ true
    back (inl p) = or_left (same_pair a b c d) (same_pair a b d c) ((same_pair_exact a b c d).1 p)
    back (inr p) = or_right (same_pair a b c d) (same_pair a b d c) ((same_pair_exact a b d c).1 p)

SameEnds-sym : (a b c d : ℕ) → SameEnds a b c d → SameEnds c d a b
SameEnds-sym a b c d (inl p) = inl (sym p.0, sym p.1)
SameEnds-sym a b c d (inr p) = inr (sym p.1, sym p.0)

module _ (same : ℕ → ℕ → ℕ → ℕ → Bool) (Same : ℕ → ℕ → ℕ → ℕ → Type 0) (exact : (a b c d : ℕ) →
    (same a b c d ≡ true) ↔ Same a b c d)
    (turn : (a b c d : ℕ) → Same a b c d → Same c d a b) where
  -- some link of the table is the same as (a, b)
  abbrev JoinedIn : ℕ → ℕ → List ℕ → Type 0
  JoinedIn a b t = (k : ℕ) × (k < link_count t) × Same a b (end_a t k) (end_b t k)

  joined-forth : (a b : ℕ) (t : List ℕ) → joined_in same a b t ≡ true → JoinedIn a b t
  unfolding joined_in
  joined-forth a b [] e = absurd (false≢true e)
  joined-forth a b (c ∷ []) e = absurd (false≢true e)
  joined-forth a b (c ∷ d ∷ t) e = go (joined-forth a b t) (or_cases (same a b c d) (joined_in same a b t) e)
    where
      go : (joined_in same a b t ≡ true → JoinedIn a b t) → (same a b c d ≡ true) ⊎ (joined_in same a b t ≡ true) →
          JoinedIn a b (c ∷ d ∷ t)
      go later (inl h) = (zero, omega arith, (exact a b c d).0 h)
      go later (inr h) =
          let p = later h in
          let l : p.0 < link_count t = p.1 in
          (suc p.0, omega arith, rw (end_a-later c d t p.0, end_b-later c d t p.0) p.2)

  joined_back : (a b : ℕ) (t : List ℕ) (k : ℕ) → k < link_count t → Same a b (end_a t k) (end_b t k) →
      joined_in same a b t ≡ true
  unfolding joined_in
  joined_back a b [] k l s = absurd (omega arith)
  joined_back a b (c ∷ []) k l s = absurd (omega arith)
  joined_back a b (c ∷ d ∷ t) zero l s = or_left (same a b c d) (joined_in same a b t) ((exact a b c d).1 s)
  joined_back a b (c ∷ d ∷ t) (suc k) l s =
      or_right (same a b c d) (joined_in same a b t)
      (joined_back a b t k (omega arith) (rw (end_a-later c d t k, end_b-later c d t k) at s))

  repeated_forth : (t : List ℕ) → repeated_by same t ≡ true → RepeatedBy Same t
  repeated_forth [] e = absurd (false≢true e)
  repeated_forth (a ∷ []) e = absurd (false≢true e)
  repeated_forth (a ∷ b ∷ t) e = go (repeated_forth t) (or_cases (joined_in same a b t) (repeated_by same t) e)
    where
      go : (repeated_by same t ≡ true → RepeatedBy Same t) → (joined_in same a b t ≡ true) ⊎ (repeated_by same t ≡ true)
          →
          RepeatedBy Same (a ∷ b ∷ t)
      go later (inl h) =
          let p = joined-forth a b t h in
          let l : p.0 < link_count t = p.1 in (
            zero,
            suc p.0,
            omega arith,
            omega arith,
            omega arith,
            rw (end_a-later a b t p.0, end_b-later a b t p.0) p.2,
          )
      go later (inr h) =
          let p = later h in
          let l : p.0 < link_count t = p.3 in
          let m : p.1 < link_count t = p.4 in
          let n : p.0 ≡ p.1 → ⊥ = p.2 in (
            suc p.0,
            suc p.1,
            omega arith,
            omega arith,
            omega arith,
            rw (
              end_a-later a b t p.0,
              end_b-later a b t p.0,
              end_a-later a b t p.1,
              end_b-later a b t p.1,
            ) p.5,
          )

  repeated_back : (t : List ℕ) (j k : ℕ) → (j ≡ k → ⊥) → j < link_count t → k < link_count t
      → Same (end_a t j) (end_b t j) (end_a t k) (end_b t k) → repeated_by same t ≡ true
  repeated_back [] j k n l m s = absurd (omega arith)
  repeated_back (a ∷ []) j k n l m s = absurd (omega arith)
  repeated_back (a ∷ b ∷ t) zero zero n l m s = absurd (n refl)
  repeated_back (a ∷ b ∷ t) zero (suc k) n l m s =
      or_left (joined_in same a b t) (repeated_by same t)
      (joined_back a b t k (omega arith) (rw (end_a-later a b t k, end_b-later a b t k) at s))
  repeated_back (a ∷ b ∷ t) (suc j) zero n l m s =
      or_left (joined_in same a b t) (repeated_by same t)
      (joined_back a b t j (omega arith)
      (turn (end_a t j) (end_b t j) a b (rw (end_a-later a b t j, end_b-later a b t j) at s)))
  repeated_back (a ∷ b ∷ t) (suc j) (suc k) n l m s =
      or_right (joined_in same a b t) (repeated_by same t)
      (repeated_back t j k (λ e. n (ap suc e)) (omega arith) (omega arith)
      (rw (end_a-later a b t j, end_b-later a b t j, end_a-later a b t k, end_b-later a b t k) at s))

  repeated_by-exact : (t : List ℕ) → (repeated_by same t ≡ true) ↔ RepeatedBy Same t
  repeated_by-exact t = (repeated_forth t, λ c. repeated_back t c.0 c.1 c.2 c.3 c.4 c.5)

pub repeated_exact : (t : List ℕ) → (repeated_link t ≡ true) ↔ RepeatedLink t
unfolding repeated_link
repeated_exact t = repeated_by-exact same_ends SameEnds same_ends-exact SameEnds-sym t

pub repeated_pair-exact : (t : List ℕ) → (repeated_pair t ≡ true) ↔ RepeatedPair t
unfolding repeated_pair
repeated_pair-exact t = repeated_by-exact same_pair SamePair same_pair_exact (λ a b c d p. (sym p.0, sym p.1)) t

-- ---- 15 and 16: the levels

pub levels_differ-exact : (t : List ℕ) (ls : List ℤ) → (levels_differ t ls ≡ true) ↔ LevelsDiffer t ls
levels_differ-exact t ls = (
  λ e. eqb-false (length ls) (link_count t) (not-true (eqb (length ls) (link_count t)) e),
  λ n. rw (ne_eqb (length ls) (link_count t) n),
)

outside-forth : (ls : List ℤ) → every in_range ls ≡ false → LevelOutside ls
outside-forth [] e = absurd (true≢false e)
outside-forth (z ∷ ls) e = go (outside-forth ls) (either (in_range z))
  where
    go : (every in_range ls ≡ false → LevelOutside ls) → (in_range z ≡ true) ⊎ (in_range z ≡ false)
        → LevelOutside (z ∷ ls)
    go later (inr n) = (zero, omega arith, λ r. not_both (in_range z) ((range-exact z).1 r) n)
    go later (inl y) = let c = later (rw y at e) in (suc c.0, suc-le-suc c.1, c.2)

pub level_outside-exact : (ls : List ℤ) → (level_outside ls ≡ true) ↔ LevelOutside ls
level_outside-exact ls = (
  λ e. outside-forth ls (not-true (every in_range ls) e),
  λ c. rw (refuted (every in_range ls) (λ e. c.2
      ((range-exact (get_or ls c.0 HIGHEST)).0 (every-at in_range ls c.0 HIGHEST e c.1)))),
)

-- ---- each number is bound to its cause, and only that

abbrev count_reasons : ℕ → List ℕ → List Reason
count_reasons n t =
    record { number = 4; test = bad_unit_count n; cause = BadUnitCount n; exact = unit_count_exact n }
    ∷ record { number = 5; test = odd_words t; cause = OddWords t; exact = odd_words-exact t }
    ∷ record { number = 6; test = too_many_links t; cause = TooManyLinks t; exact = too_many_links-exact t }
    ∷ []

abbrev level_reasons : List ℕ → List ℤ → List Reason
level_reasons t ls =
    record { number = 15; test = levels_differ t ls; cause = LevelsDiffer t ls; exact = levels_differ-exact t ls }
    ∷ record { number = 16; test = level_outside ls; cause = LevelOutside ls; exact = level_outside-exact ls }
    ∷ []

-- of the ends, by the reason for which two links are the same
abbrev end_reasons : ℕ → List ℕ → Reason → List Reason
end_reasons n t repeated =
    record { number = 7; test = end_missing n t; cause = EndMissing n t; exact = end_missing-exact n t }
    ∷ record { number = 8; test = equal_ends t; cause = EqualEnds t; exact = equal_ends-exact t }
    ∷ repeated
    ∷ []

unfoldable pub bare_reasons : ℕ → List ℕ → List Reason
bare_reasons n t =
    count_reasons n t
    ++ end_reasons n t (record { number = 9; test = repeated_link t; cause = RepeatedLink t; exact = repeated_exact t })

unfoldable pub stored_reasons : ℕ → List ℕ → List ℤ → List Reason
stored_reasons n t ls =
    count_reasons n t
    ++ (level_reasons t ls
    ++ end_reasons n t (record {
      number = 9;
      test = repeated_link t;
      cause = RepeatedLink t;
      exact =
          repeated_exact t;
    }))

-- of a table of ordered pairs
unfoldable pub pair_reasons : ℕ → List ℕ → List Reason
pair_reasons n t =
    count_reasons n t
    ++ end_reasons n t (record {
      number = 9;
      test = repeated_pair t;
      cause = RepeatedPair t;
      exact = repeated_pair-exact t;
    })
