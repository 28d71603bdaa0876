-- The reply of the table check is number k exactly when cause k holds and no earlier one does, and a table is refused
-- exactly when some cause holds: of a table alone, of a stored one and of one of ordered pairs.
use Rattle.std.specs.Prelude.{◌≡◌, refl, ◌↔◌, ℤ}
use mathlib.Core.List.{List}
use Prim.Native.Nat.{ℕ}
use native.Mathlib.Omega.{arith}
use Rattle.table.specs.Refusals.{first_of}
use Rattle.table.specs.RefusalLaws.{FirstCause, SomeCause, first-cause, some-cause, tests}
use Rattle.table.specs.Table.{bare_refusal, stored_refusal, pair_refusal}
use Rattle.table.specs.TableCauses.{bare_reasons, stored_reasons, pair_reasons}

bare_refusal-tests : (n : ℕ) (t : List ℕ) → bare_refusal n t ≡ first_of (tests (bare_reasons n t))
unfolding bare_refusal bare_reasons
bare_refusal-tests n t = refl

-- a table alone is refused exactly when some cause of 4 to 9 holds
pub bare-some_cause : (n : ℕ) (t : List ℕ) → (bare_refusal n t ≡ 0 → ⊥) ↔ SomeCause (bare_reasons n t)
unfolding bare_reasons
bare-some_cause n t = rw bare_refusal-tests (some-cause (bare_reasons n t) (omega arith))

stored_refusal-tests : (n : ℕ) (t : List ℕ) (ls : List ℤ) → stored_refusal n t ls
    ≡ first_of (tests (stored_reasons n t ls))
unfolding stored_refusal stored_reasons
stored_refusal-tests n t ls = refl

-- the reply is k exactly when cause k holds and no earlier one does
pub stored-first-cause : (n : ℕ) (t : List ℕ) (ls : List ℤ) (k : ℕ) → (k ≡ 0 → ⊥) →
    (stored_refusal n t ls ≡ k) ↔ FirstCause (stored_reasons n t ls) k
stored-first-cause n t ls k h = rw stored_refusal-tests (first-cause (stored_reasons n t ls) k h)

-- a table is refused exactly when some cause holds
pub stored-some_cause : (n : ℕ) (t : List ℕ) (ls : List ℤ) →
    (stored_refusal n t ls ≡ 0 → ⊥) ↔ SomeCause (stored_reasons n t ls)
unfolding stored_reasons
stored-some_cause n t ls =
    rw stored_refusal-tests (some-cause (stored_reasons n t ls) (omega arith))

pair_refusal-tests : (n : ℕ) (t : List ℕ) → pair_refusal n t ≡ first_of (tests (pair_reasons n t))
unfolding pair_refusal pair_reasons
pair_refusal-tests n t = refl

-- the same of ordered pairs
pub pair-first-cause : (n : ℕ) (t : List ℕ) (k : ℕ) → (k ≡ 0 → ⊥) →
    (pair_refusal n t ≡ k) ↔ FirstCause (pair_reasons n t) k
pair-first-cause n t k h = rw pair_refusal-tests (first-cause (pair_reasons n t) k h)

pub pair-some_cause : (n : ℕ) (t : List ℕ) → (pair_refusal n t ≡ 0 → ⊥) ↔ SomeCause (pair_reasons n t)
unfolding pair_reasons
pair-some_cause n t = rw pair_refusal-tests (some-cause (pair_reasons n t) (omega arith))
