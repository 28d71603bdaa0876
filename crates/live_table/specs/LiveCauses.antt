-- Why a change of a live table is refused, in the words of document 02, T-09, and that each test decides its cause: the
-- reasons in order.
use Rattle.std.specs.Prelude.{◌≡◌, not, ◌||◌, ◌⊎◌, List, [], ◌∷◌, ℕ, ◌≤◌, ◌<◌, eqb, leb, ltb, length, get_or, ℤ}
use Rattle.std.proofs.Common.{ltb-true, lt-ltb}
use Rattle.base_lists.specs.Tests.{or_exact, not_exact}
use Rattle.table_levels.specs.Level.{in_range}
use Rattle.table_levels.specs.LevelLaws.{InRange, range-exact}
use Rattle.table.specs.RefusalLaws.{Reason}
use Rattle.table.specs.Table.{max_units, max_links, link_count, end_a, end_b, bad_unit_count, level_outside}
use Rattle.table.specs.Table.{end_missing}
use Rattle.table.specs.Table.{equal_ends, repeated_link, same_ends, joined_in}
use Rattle.table.specs.TableCauses.{SameEnds, LevelOutside, unit_count_exact, level_outside-exact, end_missing-exact}
use Rattle.table.specs.TableCauses.{equal_ends-exact, repeated_exact}
use Rattle.spec_rules.specs.BoundLaws.{le_exact, eq_exact}
use Rattle.spec_machine.specs.Load.{Input, links_in}
use Rattle.live_table.specs.Counts.{miscounted}
use Rattle.live_table.specs.CountLaws.{Miscounted, miscounted-exact}
use Rattle.live_table.specs.Live.{Live, held}
use Rattle.live_table.specs.PlaceLaws.{Joined, joined-exact}

-- two links join the same two units
abbrev pub Repeated : List ℕ → Type 0
Repeated t =
    (j : ℕ) × (k : ℕ) × (j ≡ k → ⊥) × (j < link_count t) × (k < link_count t)
    × SameEnds (end_a t j) (end_b t j) (end_a t k) (end_b t k)

-- of the given table: 4, 6, 16, 7, 8, 9, 10
unfoldable pub given_reasons : Live → List Reason
given_reasons l =
    let n = l.units in
    let t = (held l).words in
    let ls = (held l).levels in
    record { number = 4; test = bad_unit_count n; cause = (n ≡ 0) ⊎ (max_units < n); exact = unit_count_exact n }
    ∷ record {
      number = 6;
      test = ltb max_links l.links;
      cause = max_links < l.links;
      exact = (ltb-true max_links l.links, lt-ltb max_links l.links);
    }
    ∷ record { number = 16; test = level_outside ls; cause = LevelOutside ls; exact = level_outside-exact ls }
    ∷ record {
      number = 7;
      test = end_missing n t;
      cause = (i : ℕ) × (i < length t) × (n ≤ get_or t i 0);
      exact = end_missing-exact n t;
    }
    ∷ record {
      number = 8;
      test = equal_ends t;
      cause = (j : ℕ) × (j < link_count t) × (end_a t j ≡ end_b t j);
      exact = equal_ends-exact t;
    }
    ∷ record { number = 9; test = repeated_link t; cause = Repeated t; exact = repeated_exact t }
    ∷ record {
      number = 10;
      test = miscounted l.links t l.counts;
      cause = Miscounted l.links t l.counts;
      exact = miscounted-exact l.links t l.counts;
    }
    ∷ []

-- 7 and 8 of two units a and b
abbrev missing : ℕ → ℕ → ℕ → Reason
missing n a b =
    record {
      number = 7;
      test = leb n a || leb n b;
      cause = (n ≤ a) ⊎ (n ≤ b);
      exact = or_exact (leb n a) (leb n b) (le_exact n a) (le_exact n b);
    }

abbrev equal : ℕ → ℕ → Reason
equal a b = record { number = 8; test = eqb a b; cause = a ≡ b; exact = eq_exact a b }

-- of a link to be added: 6, 16, 7, 8, 9
unfoldable pub link_reasons : ℕ → ℕ → ℤ → Input → List Reason
link_reasons a b level x =
    record {
      number = 6;
      test = leb max_links (links_in x);
      cause = max_links ≤ links_in x;
      exact = le_exact max_links (links_in x);
    }
    ∷ record {
      number = 16;
      test = not (in_range level);
      cause = InRange level → ⊥;
      exact = not_exact (in_range level) (range-exact level);
    }
    ∷ missing x.units a b
    ∷ equal a b
    ∷ record {
      number = 9;
      test = joined_in same_ends a b x.words;
      cause = Joined a b x.words;
      exact = joined-exact a b x.words;
    }
    ∷ []

-- of two units whose link is to be withdrawn: 7, 8, 21
unfoldable pub pair_reasons : ℕ → ℕ → Input → List Reason
pair_reasons a b x =
    missing x.units a b
    ∷ equal a b
    ∷ record {
      number = 21;
      test = not (joined_in same_ends a b x.words);
      cause = Joined a b x.words → ⊥;
      exact = not_exact (joined_in same_ends a b x.words) (joined-exact a b x.words);
    }
    ∷ []
