-- The table of links (document 01): 16-bit words, two a link, for its ends in either order; links are numbered by their
-- position, from 0. Beside it (document 02, T-01) the levels, one a link. Each check is its own definition; their order
-- is the list at the end.
use Rattle.std.specs.Prelude.{Bool, false, not, cond, ◌&&◌, ◌||◌, List, [], ◌∷◌, ◌++◌, ℕ, zero, suc, ◌+◌, ◌*◌, ◌/◌, ◌%◌}
use Rattle.std.specs.Prelude.{leb, ltb, eqb, length, get_or, ℤ}
use Rattle.base_lists.specs.Folds.{every}
use Rattle.table_levels.specs.Level.{in_range}
use Rattle.table.specs.Refusals.{first_of}

-- the limits of a site
abbrev pub max_units : ℕ
max_units = 256

abbrev pub max_links : ℕ
max_links = 1024

-- the number of links in a table of words
abbrev pub link_count : List ℕ → ℕ
link_count t = length t / 2

-- the two ends of the link at position j
abbrev pub end_a : List ℕ → ℕ → ℕ
end_a t j = get_or t (2 * j) 0

abbrev pub end_b : List ℕ → ℕ → ℕ
end_b t j = get_or t (2 * j + 1) 0

-- 4: the unit count is 0 or above 256
abbrev pub bad_unit_count : ℕ → Bool
bad_unit_count n = eqb n 0 || ltb max_units n

-- 5: the table has an odd number of words
abbrev pub odd_words : List ℕ → Bool
odd_words t = eqb (length t % 2) 1

-- 6: there are more than 1,024 links
abbrev pub too_many_links : List ℕ → Bool
too_many_links t = ltb max_links (link_count t)

-- 15: the levels differ in number from the links
abbrev pub levels_differ : List ℕ → List ℤ → Bool
levels_differ t ls = not (eqb (length ls) (link_count t))

-- 16: a level is outside −127 to 0
abbrev pub level_outside : List ℤ → Bool
level_outside ls = not (every in_range ls)

-- 7: an end is n or more
unfoldable pub end_missing : ℕ → List ℕ → Bool
end_missing n [] = false
end_missing n (e ∷ t) = leb n e || end_missing n t

-- 8: a link has equal ends
unfoldable pub equal_ends : List ℕ → Bool
equal_ends [] = false
equal_ends (a ∷ []) = false
equal_ends (a ∷ b ∷ t) = eqb a b || equal_ends t

-- the links (a, b) and (c, d) join the same two units
abbrev pub same_ends : ℕ → ℕ → ℕ → ℕ → Bool
same_ends a b c d = (eqb a c && eqb b d) || (eqb a d && eqb b c)

-- they are the same ordered pair, from and to (document 02, T-11)
abbrev pub same_pair : ℕ → ℕ → ℕ → ℕ → Bool
same_pair a b c d = eqb a c && eqb b d

-- 9, over how two links are the same
module _ (same : ℕ → ℕ → ℕ → ℕ → Bool) where
  -- some link of the table is the same as (a, b)
  unfoldable pub joined_in : ℕ → ℕ → List ℕ → Bool
  joined_in a b [] = false
  joined_in a b (c ∷ []) = false
  joined_in a b (c ∷ d ∷ t) = same a b c d || joined_in a b t

  -- two links are the same
  abbrev pub repeated_by : List ℕ → Bool
  repeated_by [] = false
  repeated_by (a ∷ []) = false
  repeated_by (a ∷ b ∷ t) = joined_in a b t || repeated_by t

-- 9: two links join the same two units
unfoldable pub repeated_link : List ℕ → Bool
repeated_link t = repeated_by same_ends t

-- 9 where the table is read as ordered pairs: one stands in it twice
unfoldable pub repeated_pair : List ℕ → Bool
repeated_pair t = repeated_by same_pair t

-- either, as the table is read
abbrev pub repeated_as : Bool → List ℕ → Bool
repeated_as ordered t = cond ordered (repeated_pair t) (repeated_link t)

-- unit u is an end of some link
unfoldable pub is_end : ℕ → List ℕ → Bool
is_end u [] = false
is_end u (a ∷ []) = false
is_end u (a ∷ b ∷ t) = eqb u a || (eqb u b || is_end u t)

-- some unit below k is the end of no link
unfoldable pub unlinked_below : ℕ → List ℕ → Bool
unlinked_below zero t = false
unlinked_below (suc k) t = unlinked_below k t || not (is_end k t)

-- 22: n is 2 or more and some unit has no link (document 02, T-10)
abbrev pub unlinked_unit : ℕ → List ℕ → Bool
unlinked_unit n t = leb 2 n && unlinked_below n t

-- ---- the checks in their order

-- of the counts
abbrev pub count_tests : ℕ → List ℕ → List (ℕ × Bool)
count_tests n t = (4, bad_unit_count n) ∷ (5, odd_words t) ∷ (6, too_many_links t) ∷ []

-- of the levels
abbrev pub level_tests : List ℕ → List ℤ → List (ℕ × Bool)
level_tests t ls = (15, levels_differ t ls) ∷ (16, level_outside ls) ∷ []

-- of the ends, by what the search for repeats says
abbrev pub end_tests_by : ℕ → List ℕ → Bool → List (ℕ × Bool)
end_tests_by n t repeated = (7, end_missing n t) ∷ (8, equal_ends t) ∷ (9, repeated) ∷ []

abbrev pub end_tests : ℕ → List ℕ → List (ℕ × Bool)
end_tests n t = end_tests_by n t (repeated_link t)

-- of the units (document 02, T-10); last among the checks of a table
abbrev pub unit_tests : ℕ → List ℕ → List (ℕ × Bool)
unit_tests n t = (22, unlinked_unit n t) ∷ []

-- of a table with its levels that was stored
abbrev pub stored_tests : ℕ → List ℕ → List ℤ → List (ℕ × Bool)
stored_tests n t ls = count_tests n t ++ (level_tests t ls ++ end_tests n t)

-- of one that is fresh: the same, and that no unit is without a link
abbrev pub fresh_tests : ℕ → List ℕ → List ℤ → List (ℕ × Bool)
fresh_tests n t ls = stored_tests n t ls ++ unit_tests n t

-- of a table without levels, 4 to 9
abbrev pub bare_tests : ℕ → List ℕ → List (ℕ × Bool)
bare_tests n t = count_tests n t ++ end_tests n t

-- of a table of ordered pairs
abbrev pub pair_tests : ℕ → List ℕ → List (ℕ × Bool)
pair_tests n t = count_tests n t ++ end_tests_by n t (repeated_pair t)

-- the number of the first that fails, 0 where all pass
unfoldable pub count_refusal : ℕ → List ℕ → ℕ
count_refusal n t = first_of (count_tests n t)

unfoldable pub level_refusal : List ℕ → List ℤ → ℕ
level_refusal t ls = first_of (level_tests t ls)

unfoldable pub end_refusal : ℕ → List ℕ → Bool → ℕ
end_refusal n t repeated = first_of (end_tests_by n t repeated)

unfoldable pub bare_refusal : ℕ → List ℕ → ℕ
bare_refusal n t = first_of (bare_tests n t)

unfoldable pub stored_refusal : ℕ → List ℕ → List ℤ → ℕ
stored_refusal n t ls = first_of (stored_tests n t ls)

unfoldable pub fresh_refusal : ℕ → List ℕ → List ℤ → ℕ
fresh_refusal n t ls = first_of (fresh_tests n t ls)

-- either, as the table is taken
abbrev pub refusal_as : Bool → ℕ → List ℕ → List ℤ → ℕ
refusal_as fresh n t ls = cond fresh (fresh_refusal n t ls) (stored_refusal n t ls)

unfoldable pub pair_refusal : ℕ → List ℕ → ℕ
pair_refusal n t = first_of (pair_tests n t)

-- without levels, as the pairs are ordered or not
abbrev pub unlevelled_as : Bool → ℕ → List ℕ → ℕ
unlevelled_as ordered n t = cond ordered (pair_refusal n t) (bare_refusal n t)
