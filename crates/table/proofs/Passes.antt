-- What a table that passes the checks 4 to 9 is like: no cause of a refusal holds. With levels: it passes alone, and
-- each link has a level in range.
use Rattle.std.specs.Prelude.{◌≡◌, true, List, ℕ, ◌*◌, ◌≤◌, ◌<◌, eqb, length, get_or, ℤ}
use Rattle.std.proofs.Common.{◌∙◌, inl, inr, arith}
use Rattle.std.proofs.Math.Decide.{dec_le, dec_lt, ℕ_discrete}
use borrow.Author.Tests.{eqb-true, not-false}
use Rattle.base_lists.specs.Folds.{every}
use Rattle.table_levels.specs.Level.{in_range}
use Rattle.table.specs.Table.{max_units, max_links, link_count, end_a, end_b, levels_differ, level_outside, count_tests}
use Rattle.table.specs.Table.{end_tests, count_refusal, level_refusal, end_refusal, bare_refusal}
use Rattle.table.specs.Table.{stored_refusal}
use Rattle.table.specs.RefusalLaws.{SomeCause, passed-test, first-none}
use Rattle.table.specs.TableLaws.{table-counts, table-levels, table-ends}
use Rattle.table.specs.TableCauses.{SameEnds, bare_reasons}
use Rattle.table.proofs.TableReplies.{bare-some_cause}

pub record Passes (n : ℕ) (t : List ℕ) : Type 0 where
  pub some_unit : 0 < n
  pub few_units : n ≤ max_units
  pub pairs : length t ≡ 2 * link_count t
  pub few_links : link_count t ≤ max_links
  pub ends_exist : (i : ℕ) → i < length t → get_or t i 0 < n
  pub ends_differ : (j : ℕ) → j < link_count t → end_a t j ≡ end_b t j → ⊥
  pub once : (j k : ℕ) → (j ≡ k → ⊥) → j < link_count t → k < link_count t →
      SameEnds (end_a t j) (end_b t j) (end_a t k) (end_b t k) → ⊥

pub passes : (n : ℕ) (t : List ℕ) → bare_refusal n t ≡ 0 → Passes n t
unfolding bare_reasons
passes n t e =
    record {
      some_unit = some (dec_lt 0 n);
      few_units = few (dec_le n max_units);
      pairs = even (ℕ_discrete (length t) (2 * link_count t));
      few_links = links (dec_le (link_count t) max_links);
      ends_exist = λ i l. exists i l (dec_lt (get_or t i 0) n);
      ends_differ = λ j l q. none (inr (inr (inr (inr (inl (j, l, q))))));
      once = λ j k d l m q. none (inr (inr (inr (inr (inr (inl (j, k, d, l, m, q)))))));
    }
  where
    none : SomeCause (bare_reasons n t) → ⊥
    none c = (bare-some_cause n t).1 c e

    some : Dec (0 < n) → 0 < n
    some (yes h) = h
    some (no h) = absurd (none (inl (inl (omega arith))))

    few : Dec (n ≤ max_units) → n ≤ max_units
    few (yes h) = h
    few (no h) = absurd (none (inl (inr (omega arith))))

    even : Dec (length t ≡ 2 * link_count t) → length t ≡ 2 * link_count t
    even (yes h) = h
    even (no h) = absurd (none (inr (inl (link_count t, omega arith))))

    links : Dec (link_count t ≤ max_links) → link_count t ≤ max_links
    links (yes h) = h
    links (no h) = absurd (none (inr (inr (inl (omega arith)))))

    exists : (i : ℕ) → i < length t → Dec (get_or t i 0 < n) → get_or t i 0 < n
    exists i l (yes h) = h
    exists i l (no h) = absurd (none (inr (inr (inr (inl (i, l, omega arith))))))

-- ---- with levels

module _ (n : ℕ) (t : List ℕ) (ls : List ℤ) (e : stored_refusal n t ls ≡ 0) where
  counts : count_refusal n t ≡ 0
  counts = go (ℕ_discrete (count_refusal n t) 0)
    where
      go : Dec (count_refusal n t ≡ 0) → count_refusal n t ≡ 0
      go (yes z) = z
      go (no z) = table-counts n t ls z ∙ e

  levels : level_refusal t ls ≡ 0
  levels = go (ℕ_discrete (level_refusal t ls) 0)
    where
      go : Dec (level_refusal t ls ≡ 0) → level_refusal t ls ≡ 0
      go (yes z) = z
      go (no z) = table-levels n t ls counts z ∙ e

  -- the table passes alone
  pub table-alone : bare_refusal n t ≡ 0
  unfolding bare_refusal count_refusal end_refusal
  table-alone = first-none (count_tests n t) (end_tests n t) (omega arith) counts ∙ table-ends n t ls counts levels ∙ e

  -- a level for each link
  pub table-levelled : length ls ≡ link_count t
  unfolding level_refusal
  table-levelled =
      eqb-true (length ls) (link_count t)
      (not-false (eqb (length ls) (link_count t)) (passed-test (levels_differ t ls) 15 _ (omega arith) levels).0)

  -- each in range
  pub table-range : every in_range ls ≡ true
  unfolding level_refusal
  table-range =
      not-false (every in_range ls) (passed-test (level_outside ls) 16 _ (omega arith)
      (passed-test (levels_differ t ls) 15 _ (omega arith) levels).1).0
