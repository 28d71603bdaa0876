-- The reply of the table check to a fresh table: the two laws that bind every number to its cause, and what it says of
-- the same table stored.
use Rattle.std.specs.Prelude.{◌≡◌, Bool, true, false, cond, ◌↔◌, List, ℕ, ℤ}
use Rattle.std.proofs.Math.Path.{refl, sym}
use Rattle.std.proofs.Common.{◌∙◌, arith}
use Rattle.std.proofs.Math.Decide.{ℕ_discrete}
use Rattle.base_lists.specs.Tests.{not_both}
use Rattle.table.specs.Refusals.{first_of}
use Rattle.table.specs.RefusalLaws.{FirstCause, SomeCause, first-cause, some-cause, tests, first_some, first-none}
use Rattle.table.specs.RefusalLaws.{passed-test}
use Rattle.table.specs.TableCauses.{stored_reasons}
use Rattle.table.specs.FreshLaws.{UnlinkedUnit, unlinked_exact, fresh_reasons}
use Rattle.table.specs.Table.{unlinked_unit, unit_tests, stored_tests, stored_refusal, fresh_refusal, refusal_as}

pub fresh_refusal-tests : (n : ℕ) (t : List ℕ) (ls : List ℤ) →
    fresh_refusal n t ls ≡ first_of (tests (fresh_reasons n t ls))
unfolding fresh_refusal fresh_reasons stored_reasons
fresh_refusal-tests n t ls = refl

-- the reply is k exactly when cause k holds and no earlier one does
pub fresh-first_cause : (n : ℕ) (t : List ℕ) (ls : List ℤ) (k : ℕ) → (k ≡ 0 → ⊥) →
    (fresh_refusal n t ls ≡ k) ↔ FirstCause (fresh_reasons n t ls) k
fresh-first_cause n t ls k h = rw fresh_refusal-tests (first-cause (fresh_reasons n t ls) k h)

-- a fresh table is refused exactly when some cause holds
pub fresh-some_cause : (n : ℕ) (t : List ℕ) (ls : List ℤ) →
    (fresh_refusal n t ls ≡ 0 → ⊥) ↔ SomeCause (fresh_reasons n t ls)
unfolding fresh_reasons stored_reasons
fresh-some_cause n t ls = rw fresh_refusal-tests (some-cause (fresh_reasons n t ls) (omega arith))

-- ---- a fresh table and a stored one

module _ (n : ℕ) (t : List ℕ) (ls : List ℤ) where
  -- what is refused of a stored table is refused of a fresh one, by the same number
  pub fresh-stored : (stored_refusal n t ls ≡ 0 → ⊥) → stored_refusal n t ls ≡ fresh_refusal n t ls
  unfolding stored_refusal fresh_refusal
  fresh-stored h = sym (first_some (stored_tests n t ls) (unit_tests n t) h)

  -- where a stored table passes, only 22 is left
  fresh-last : stored_refusal n t ls ≡ 0 → fresh_refusal n t ls ≡ cond (unlinked_unit n t) 22 0
  unfolding stored_refusal fresh_refusal
  fresh-last e = first-none (stored_tests n t ls) (unit_tests n t) (omega arith) e

  -- a table that passes as a fresh one passes as a stored one, and no unit of two or more is without a link
  pub fresh-accepted : fresh_refusal n t ls ≡ 0 → stored_refusal n t ls ≡ 0
  fresh-accepted e = go (ℕ_discrete (stored_refusal n t ls) 0)
    where
      go : Dec (stored_refusal n t ls ≡ 0) → stored_refusal n t ls ≡ 0
      go (yes z) = z
      go (no h) = fresh-stored h ∙ e

  pub fresh-linked : fresh_refusal n t ls ≡ 0 → UnlinkedUnit n t → ⊥
  fresh-linked e c =
      not_both (unlinked_unit n t) ((unlinked_exact n t).1 c)
      (passed-test (unlinked_unit n t) 22 0 (omega arith) (sym (fresh-last (fresh-accepted e)) ∙ e)).0

-- ---- either, as the table is taken

module _ (fresh : Bool) (n : ℕ) (t : List ℕ) (ls : List ℤ) where
  pub as_refused : (stored_refusal n t ls ≡ 0 → ⊥) → stored_refusal n t ls ≡ refusal_as fresh n t ls
  as_refused h = go fresh
    where
      go : (b : Bool) → stored_refusal n t ls ≡ refusal_as b n t ls
      go true = fresh-stored n t ls h
      go false = refl

  pub as_stored : fresh ≡ false → stored_refusal n t ls ≡ 0 → 0 ≡ refusal_as fresh n t ls
  as_stored f p = rw f (sym p)

  pub as_unlinked : fresh ≡ true → stored_refusal n t ls ≡ 0 → unlinked_unit n t ≡ true → 22 ≡ refusal_as fresh n t ls
  as_unlinked f p e = rw f (sym (fresh-last n t ls p ∙ rw e refl))

  pub as_linked : fresh ≡ true → stored_refusal n t ls ≡ 0 → unlinked_unit n t ≡ false → 0 ≡ refusal_as fresh n t ls
  as_linked f p e = rw f (sym (fresh-last n t ls p ∙ rw e refl))

  -- a table that passes passes as a stored one
  pub as_accepted : refusal_as fresh n t ls ≡ 0 → stored_refusal n t ls ≡ 0
  as_accepted = go fresh
    where
      go : (b : Bool) → refusal_as b n t ls ≡ 0 → stored_refusal n t ls ≡ 0
      go true e = fresh-accepted n t ls e
      go false e = e
