-- What each check says of a table that passes, test by test, and that a table of which no cause holds passes.
use Rattle.std.specs.Prelude.{◌≡◌, false, List, ℕ, ℤ}
use Rattle.std.proofs.Math.Decide.{ℕ_discrete}
use Rattle.std.proofs.Common.{arith}
use Rattle.table.specs.RefusalLaws.{SomeCause, passed-test}
use Rattle.table.specs.Table.{bad_unit_count, odd_words, too_many_links, levels_differ, level_outside, end_missing}
use Rattle.table.specs.Table.{equal_ends}
use Rattle.table.specs.Table.{repeated_link, stored_refusal}
use Rattle.table.specs.TableCauses.{stored_reasons}
use Rattle.table.proofs.TableReplies.{stored-some_cause}

pub record Passed (n : ℕ) (t : List ℕ) (ls : List ℤ) : Type 0 where
  pub four : bad_unit_count n ≡ false
  pub five : odd_words t ≡ false
  pub six : too_many_links t ≡ false
  pub fifteen : levels_differ t ls ≡ false
  pub sixteen : level_outside ls ≡ false
  pub seven : end_missing n t ≡ false
  pub eight : equal_ends t ≡ false
  pub nine : repeated_link t ≡ false

pub passed : (n : ℕ) (t : List ℕ) (ls : List ℤ) → stored_refusal n t ls ≡ 0 → Passed n t ls
unfolding stored_refusal
passed n t ls e =
    let a = passed-test (bad_unit_count n) 4 _ (omega arith) e in
    let b = passed-test (odd_words t) 5 _ (omega arith) a.1 in
    let c = passed-test (too_many_links t) 6 _ (omega arith) b.1 in
    let d = passed-test (levels_differ t ls) 15 _ (omega arith) c.1 in
    let f = passed-test (level_outside ls) 16 _ (omega arith) d.1 in
    let g = passed-test (end_missing n t) 7 _ (omega arith) f.1 in
    let h = passed-test (equal_ends t) 8 _ (omega arith) g.1 in
    let i = passed-test (repeated_link t) 9 _ (omega arith) h.1 in
    record {
      four = a.0;
      five = b.0;
      six = c.0;
      fifteen = d.0;
      sixteen = f.0;
      seven = g.0;
      eight = h.0;
      nine = i.0;
    }

pub passes_none : (n : ℕ) (t : List ℕ) (ls : List ℤ) → (SomeCause (stored_reasons n t ls) → ⊥) → stored_refusal n t ls
    ≡ 0
passes_none n t ls none = go (ℕ_discrete (stored_refusal n t ls) 0)
  where
    go : Dec (stored_refusal n t ls ≡ 0) → stored_refusal n t ls ≡ 0
    go (yes z) = z
    go (no z) = absurd (none ((stored-some_cause n t ls).0 z))
