-- A small site passes every check of a stored table, whatever its number: its links are pairs of its units, the lower
-- first, and no pair stands twice.
use Rattle.std.specs.Prelude.{◌≡◌, Bool, true, false, cond, not, ◌&&◌, ◌⊎◌, List, [], ◌∷◌, ℕ, zero, suc, ◌*◌, ◌/◌}
use Rattle.std.specs.Prelude.{◌%◌, ◌≤◌, ◌<◌, eqb, pos, length, replicate}
use Rattle.std.proofs.Math.Path.{refl}
use Rattle.std.proofs.Common.{ap, inl, inr, arith, eqb-true, eq-eqb, ne_eqb, le-ltb}
use Rattle.std.proofs.lemmas.List.{length-replicate}
use Rattle.std.proofs.lemmas.Bool.{lt-leb}
use Rattle.base_lists.specs.Tests.{either}
use Rattle.base_lists.specs.Folds.{every}
use Rattle.table_levels.specs.Level.{in_range}
use Rattle.table_levels.specs.LevelLaws.{zero_range}
use Rattle.table.specs.Table.{link_count, bad_unit_count, odd_words, too_many_links, levels_differ, level_outside}
use Rattle.table.specs.Table.{end_missing}
use Rattle.table.specs.Table.{equal_ends, same_ends, joined_in, repeated_by, repeated_link, stored_refusal}
use Rattle.small_tables.specs.Small.{pairs_of, chosen, words_of, table_of}
use Rattle.small_tables.specs.SmallLaws.{few-pairs}
use Rattle.small_tables.specs.EachOnce.{Listed}
use Rattle.small_tables.specs.EachOnceProof.{Apart, from-of, apart_from, chosen_of}

-- pairs of n units, the lower first, each once
abbrev Fit : ℕ → List (ℕ × ℕ) → Type 0
Fit n [] = Unit {0}
Fit n (p ∷ ps) = (p.0 < p.1) × (p.1 < n) × (Listed p.0 p.1 ps → ⊥) × Fit n ps

fit_all : (n : ℕ) (ps : List (ℕ × ℕ)) → ((a b : ℕ) → Listed a b ps → (a < b) × (b < n)) → Apart ps → Fit n ps
unfolding Apart
fit_all n [] h u = tt
fit_all n (p ∷ ps) h u =
    let k = h p.0 p.1 (inl (refl, refl)) in
    (k.0, k.1, u.0, fit_all n ps (λ a b m. h a b (inr m)) u.1)

fit-chosen : (n : ℕ) (ps : List (ℕ × ℕ)) (k : ℕ) → Fit n ps → Fit n (chosen ps k)
fit-chosen n [] k f = tt
fit-chosen n (p ∷ ps) k f = go (eqb (k % 2) 1) (fit-chosen n ps (k / 2) f.3)
  where
    go : (t : Bool) → Fit n (chosen ps (k / 2)) → Fit n (cond t (p ∷ chosen ps (k / 2)) (chosen ps (k / 2)))
    go true ih = (f.0, f.1, λ m. f.2 (chosen_of p.0 p.1 ps (k / 2) m), ih)
    go false ih = ih

fit-site : (n k : ℕ) → Fit n (chosen (pairs_of n) k)
fit-site n k =
    fit-chosen n (pairs_of n) k
    (fit_all n (pairs_of n) (λ a b m. let w = from-of a b 0 n m in (w.1, omega (arith, w.2))) (apart_from 0 n))

few-chosen : (ps : List (ℕ × ℕ)) (k : ℕ) → length (chosen ps k) ≤ length ps
few-chosen [] k = omega arith
few-chosen (p ∷ ps) k = go (eqb (k % 2) 1) (few-chosen ps (k / 2))
  where
    go : (t : Bool) → length (chosen ps (k / 2)) ≤ length ps
        → length (cond t (p ∷ chosen ps (k / 2)) (chosen ps (k / 2))) ≤ suc (length ps)
    go true l = omega arith
    go false l = omega arith

length-words : (ps : List (ℕ × ℕ)) → length (words_of ps) ≡ 2 * length ps
length-words [] = refl
length-words (p ∷ ps) = let e = length-words ps in omega arith

-- ---- the checks of the ends

no_end_missing : (n : ℕ) (ps : List (ℕ × ℕ)) → Fit n ps → end_missing n (words_of ps) ≡ false
unfolding end_missing
no_end_missing n [] f = refl
no_end_missing n (p ∷ ps) f =
    rw (lt-leb n p.0 (omega (arith, f.0, f.1)), lt-leb n p.1 f.1) (no_end_missing n ps f.3)

no_equal_ends : (n : ℕ) (ps : List (ℕ × ℕ)) → Fit n ps → equal_ends (words_of ps) ≡ false
unfolding equal_ends
no_equal_ends n [] f = refl
no_equal_ends n (p ∷ ps) f = rw (ne_eqb p.0 p.1 (λ e. omega (arith, e, f.0))) (no_equal_ends n ps f.3)

not_joined : (n a b : ℕ) (ps : List (ℕ × ℕ)) → a < b → Fit n ps → (Listed a b ps → ⊥) →
    joined_in same_ends a b (words_of ps) ≡ false
unfolding joined_in
not_joined n a b [] l f h = refl
not_joined n a b (p ∷ ps) l f h =
    rw (one (either (eqb a p.0)) (either (eqb b p.1)), other (either (eqb a p.1)) (either (eqb b p.0)))
    (not_joined n a b ps l f.3 (λ m. h (inr m)))
  where
    one : (eqb a p.0 ≡ true) ⊎ (eqb a p.0 ≡ false) → (eqb b p.1 ≡ true) ⊎ (eqb b p.1 ≡ false) →
        (eqb a p.0 && eqb b p.1) ≡ false
    one (inr x) y = rw x refl
    one (inl x) (inr y) = rw (x, y) refl
    one (inl x) (inl y) = absurd (h (inl (eqb-true a p.0 x, eqb-true b p.1 y)))

    other : (eqb a p.1 ≡ true) ⊎ (eqb a p.1 ≡ false) → (eqb b p.0 ≡ true) ⊎ (eqb b p.0 ≡ false) →
        (eqb a p.1 && eqb b p.0) ≡ false
    other (inr x) y = rw x refl
    other (inl x) (inr y) = rw (x, y) refl
    other (inl x) (inl y) = absurd (omega (arith, l, f.0, eqb-true a p.1 x, eqb-true b p.0 y))

none_repeated : (n : ℕ) (ps : List (ℕ × ℕ)) → Fit n ps → repeated_by same_ends (words_of ps) ≡ false
none_repeated n [] f = refl
none_repeated n (p ∷ ps) f =
    rw (not_joined n p.0 p.1 ps f.0 f.3 f.2) (none_repeated n ps f.3)

-- ---- the checks of the levels

all_in_range : (m : ℕ) → every in_range (replicate m (pos 0)) ≡ true
all_in_range zero = refl
all_in_range (suc m) = rw zero_range (all_in_range m)

-- ---- all checks

module _ (n k : ℕ) (lo : 1 ≤ n) (hi : n ≤ 5) where
  -- at most ten links
  two-each : length (table_of n k) ≡ 2 * length (chosen (pairs_of n) k)
  unfolding table_of
  two-each = length-words (chosen (pairs_of n) k)

  counted : bad_unit_count n ≡ false
  counted = rw (ne_eqb n 0 (λ e. omega arith), le-ltb 256 n (omega arith)) refl

  even : odd_words (table_of n k) ≡ false
  even = ne_eqb (length (table_of n k) % 2) 1 (λ e. omega (arith, two-each, e))

  few : too_many_links (table_of n k) ≡ false
  few =
      le-ltb 1024 (link_count (table_of n k))
      (omega (arith, two-each, few-chosen (pairs_of n) k, few-pairs n hi))

  level-each : levels_differ (table_of n k) (replicate (link_count (table_of n k)) (pos 0)) ≡ false
  level-each = ap not (eq-eqb _ (link_count (table_of n k)) (length-replicate (link_count (table_of n k)) (pos 0)))

  levelled : level_outside (replicate (link_count (table_of n k)) (pos 0)) ≡ false
  levelled = ap not (all_in_range (link_count (table_of n k)))

  present : end_missing n (table_of n k) ≡ false
  unfolding table_of
  present = no_end_missing n (chosen (pairs_of n) k) (fit-site n k)

  unequal : equal_ends (table_of n k) ≡ false
  unfolding table_of
  unequal = no_equal_ends n (chosen (pairs_of n) k) (fit-site n k)

  different : repeated_link (table_of n k) ≡ false
  unfolding table_of repeated_link
  different = none_repeated n (chosen (pairs_of n) k) (fit-site n k)

  pub site-accepted : stored_refusal n (table_of n k) (replicate (link_count (table_of n k)) (pos 0)) ≡ 0
  unfolding stored_refusal
  site-accepted = rw (counted, even, few, level-each, levelled, present, unequal, different) refl
