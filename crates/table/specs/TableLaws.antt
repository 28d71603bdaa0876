-- The tests of a table from a place on, as a loop along the table meets them.
use Rattle.std.specs.Prelude.{◌≡◌, refl, Bool, ◌||◌, ◌⊎◌, List, [], ◌∷◌, ◌++◌, ℕ, suc, ◌+◌, ◌*◌, ◌≤◌, ◌<◌, leb, eqb, ℤ}
use Rattle.std.specs.Prelude.{length, get_or, drop}
use Rattle.std.proofs.Math.Path.{sym}
use Rattle.std.proofs.Common.{◌∙◌, inl, inr, arith, drop_of_length-le, length-drop, leb-false, lt-ltb, le-ltb, eq-eqb}
use Rattle.std.proofs.Common.{ne_eqb}
use Rattle.std.proofs.Math.Bool.{true, false, or-true, or_assoc}
use Rattle.std.proofs.Math.Decide.{dec_le}
use Rattle.std.proofs.lemmas.Bool.{lt-leb}
use Rattle.base_lists.specs.Rests.{rest-one, rest-two}
use Rattle.base_lists.specs.Tests.{or_false-left, or_false-right}
use Rattle.base_lists.specs.Folds.{every}
use Rattle.table_levels.specs.Level.{in_range}
use Rattle.table.specs.Table.{max_units, end_a, end_b, bad_unit_count, odd_words, too_many_links, levels_differ}
use Rattle.table.specs.Table.{end_missing, equal_ends, repeated_pair, repeated_as}
use Rattle.table.specs.Table.{count_tests, level_tests, end_tests, count_refusal, level_refusal, end_refusal}
use Rattle.table.specs.Table.{bare_refusal, stored_refusal, end_tests_by, pair_refusal, unlevelled_as}
use Rattle.table.specs.RefusalLaws.{first_some, first-none}

-- ---- a link more at the front

pub end_a-later : (a b : ℕ) (t : List ℕ) (j : ℕ) → end_a (a ∷ b ∷ t) (suc j) ≡ end_a t j
end_a-later a b t j = let e : 2 * suc j ≡ suc (suc (2 * j)) = omega arith in rw e

pub end_b-later : (a b : ℕ) (t : List ℕ) (j : ℕ) → end_b (a ∷ b ∷ t) (suc j) ≡ end_b t j
end_b-later a b t j = let e : 2 * suc j + 1 ≡ suc (suc (2 * j + 1)) = omega arith in rw e

-- ---- an end that is n or more

-- the end at `i` is looked at
pub end_missing-next : (n : ℕ) (t : List ℕ) (i : ℕ) (missing : Bool) → i < length t
    → (missing || end_missing n (drop i t)) ≡ ((missing || leb n (get_or t i 0)) || end_missing n (drop (i + 1) t))
unfolding end_missing
end_missing-next n t i missing h = rw (rest-one t i 0 h)
    (sym (or_assoc missing (leb n (get_or t i 0)) (end_missing n (drop (i + 1) t))))

pub end_missing-end : (n : ℕ) (t : List ℕ) (i : ℕ) → length t ≤ i → end_missing n (drop i t) ≡ false
unfolding end_missing
end_missing-end n t i h = rw (drop_of_length-le t h)

-- ---- equal ends

-- the link at `i` is looked at
pub equal_ends-next : (t : List ℕ) (i : ℕ) (equal : Bool) → i + 1 < length t
    → (equal || equal_ends (drop i t))
    ≡ ((equal || eqb (get_or t i 0) (get_or t (i + 1) 0)) || equal_ends (drop (i + 2) t))
unfolding equal_ends
equal_ends-next t i equal h =
    rw (rest-two t i 0 h) (sym (or_assoc equal (eqb (get_or t i 0) (get_or t (i + 1) 0)) (equal_ends (drop (i + 2) t))))

equal_ends-short : (t : List ℕ) → length t ≤ 1 → equal_ends t ≡ false
unfolding equal_ends
equal_ends-short [] h = refl
equal_ends-short (a ∷ []) h = refl
equal_ends-short (a ∷ b ∷ t) h = absurd (omega arith)

pub equal_ends-end : (t : List ℕ) (i : ℕ) → length t ≤ i + 1 → equal_ends (drop i t) ≡ false
equal_ends-end t i h = equal_ends-short (drop i t) (omega (arith, length-drop i t))

-- ---- the reply, by the checks passed and the one that fails

pub unit_count_bad : (n : ℕ) → (n ≡ 0) ⊎ (max_units < n) → bad_unit_count n ≡ true
unit_count_bad n (inl e) = rw (eq-eqb n 0 e)
unit_count_bad n (inr l) = rw (lt-ltb max_units n l) (or-true (eqb n 0))

pub unit_count_good : (n : ℕ) → (n ≡ 0 → ⊥) → n ≤ max_units → bad_unit_count n ≡ false
unit_count_good n z l = rw (ne_eqb n 0 z, le-ltb max_units n l)

-- of the counts
module _ (n : ℕ) (t : List ℕ) where
  pub refused_4 : bad_unit_count n ≡ true → 4 ≡ count_refusal n t
  unfolding count_refusal
  refused_4 e = rw e

  pub refused_5 : bad_unit_count n ≡ false → odd_words t ≡ true → 5 ≡ count_refusal n t
  unfolding count_refusal
  refused_5 p4 e = rw (p4, e)

  pub refused_6 : bad_unit_count n ≡ false → odd_words t ≡ false → too_many_links t ≡ true → 6 ≡ count_refusal n t
  unfolding count_refusal
  refused_6 p4 p5 e = rw (p4, p5, e)

  pub counts-passed : bad_unit_count n ≡ false → odd_words t ≡ false → too_many_links t ≡ false → 0 ≡ count_refusal n t
  unfolding count_refusal
  counts-passed p4 p5 p6 = rw (p4, p5, p6)

  pub counted-units : count_refusal n t ≡ 0 → n ≤ max_units
  unfolding count_refusal
  counted-units e = go (dec_le n max_units)
    where
      go : Dec (n ≤ max_units) → n ≤ max_units
      go (yes l) = l
      go (no l) = absurd (omega (arith, e, refused_4 (unit_count_bad n (inr (omega arith)))))

-- of the levels
module _ (t : List ℕ) (ls : List ℤ) where
  pub refused_15 : levels_differ t ls ≡ true → 15 ≡ level_refusal t ls
  unfolding level_refusal
  refused_15 e = rw e

  pub refused_16 : levels_differ t ls ≡ false → every in_range ls ≡ false → 16 ≡ level_refusal t ls
  unfolding level_refusal
  refused_16 p15 e = rw (p15, e)

  pub levels-passed : levels_differ t ls ≡ false → every in_range ls ≡ true → 0 ≡ level_refusal t ls
  unfolding level_refusal
  levels-passed p15 e = rw (p15, e)

-- of the ends
module _ (n : ℕ) (t : List ℕ) (repeated : Bool) where
  pub refused_7 : end_missing n t ≡ true → 7 ≡ end_refusal n t repeated
  unfolding end_refusal
  refused_7 e = rw e

  pub refused_8 : end_missing n t ≡ false → equal_ends t ≡ true → 8 ≡ end_refusal n t repeated
  unfolding end_refusal
  refused_8 p7 e = rw (p7, e)

  pub refused_9 : end_missing n t ≡ false → equal_ends t ≡ false → repeated ≡ true → 9 ≡ end_refusal n t repeated
  unfolding end_refusal
  refused_9 p7 p8 e = rw (p7, p8, e)

  pub ends-passed : end_missing n t ≡ false → equal_ends t ≡ false → repeated ≡ false → 0 ≡ end_refusal n t repeated
  unfolding end_refusal
  ends-passed p7 p8 p9 = rw (p7, p8, p9)

-- of a table without levels: the first part that refuses
module _ (n : ℕ) (t : List ℕ) where
  pub unlevelled_counts : (ordered : Bool) → (count_refusal n t ≡ 0 → ⊥) → count_refusal n t ≡ unlevelled_as ordered n t
  unfolding count_refusal pair_refusal bare_refusal
  unlevelled_counts true h = sym (first_some (count_tests n t) (end_tests_by n t (repeated_pair t)) h)
  unlevelled_counts false h = sym (first_some (count_tests n t) (end_tests n t) h)

  pub unlevelled_ends : (ordered : Bool) → count_refusal n t ≡ 0 →
      end_refusal n t (repeated_as ordered t) ≡ unlevelled_as ordered n t
  unfolding count_refusal end_refusal pair_refusal bare_refusal
  unlevelled_ends true p = sym (first-none (count_tests n t) (end_tests_by n t (repeated_pair t)) (omega arith) p)
  unlevelled_ends false p = sym (first-none (count_tests n t) (end_tests n t) (omega arith) p)

-- with levels
module _ (n : ℕ) (t : List ℕ) (ls : List ℤ) where
  pub table-counts : (count_refusal n t ≡ 0 → ⊥) → count_refusal n t ≡ stored_refusal n t ls
  unfolding count_refusal stored_refusal
  table-counts h = sym (first_some (count_tests n t) (level_tests t ls ++ end_tests n t) h)

  pub table-levels : count_refusal n t ≡ 0 → (level_refusal t ls ≡ 0 → ⊥) → level_refusal t ls ≡ stored_refusal n t ls
  unfolding count_refusal level_refusal stored_refusal
  table-levels p h =
      sym (first-none (count_tests n t) (level_tests t ls ++ end_tests n t) (omega arith) p
      ∙ first_some (level_tests t ls) (end_tests n t) h)

  pub table-ends : count_refusal n t ≡ 0 → level_refusal t ls ≡ 0 →
      end_refusal n t (repeated_as false t) ≡ stored_refusal n t ls
  unfolding count_refusal level_refusal end_refusal stored_refusal
  table-ends p q =
      sym
      (first-none (count_tests n t) (level_tests t ls ++ end_tests n t) (omega arith) p
      ∙ first-none (level_tests t ls) (end_tests n t) (omega arith) q)

-- ends below n are below any greater number
pub end_missing-more : (n k : ℕ) (t : List ℕ) → n ≤ k → end_missing n t ≡ false → end_missing k t ≡ false
unfolding end_missing
end_missing-more n k [] l e = refl
end_missing-more n k (x ∷ t) l e =
    let below : x < n = leb-false n x (or_false-left (leb n x) (end_missing n t) e) in
    rw (lt-leb k x (omega arith)) (end_missing-more n k t l (or_false-right (leb n x) (end_missing n t) e))
