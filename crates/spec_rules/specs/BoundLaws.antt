-- The words for what a stored entry may be, that the tests decide them, and what keeps them.
use Rattle.std.specs.Prelude.{◌≡◌, true, ◌↔◌, ◌⊎◌, List, ℕ, ◌≤◌, ◌<◌, eqb, leb, ltb}
use Rattle.std.proofs.Common.{inl, arith, eqb-true, leb-true, ltb-true, eq-eqb, le-leb, lt-ltb}
use Rattle.base_lists.specs.All.{All, all-at}
use Rattle.base_lists.specs.Tests.{or_exact}
use Rattle.spec_rules.specs.Basics.{ABSENT, MAX-NUMBER, at, bounded}
use Rattle.spec_rules.specs.Bounds.{name_ok, number_ok, dist_ok}

-- absent, or one of k that exist
abbrev pub Names : ℕ → ℕ → Type 0
Names k x = (x < k) ⊎ (x ≡ ABSENT)

abbrev pub Number : ℕ → Type 0
Number x = x ≤ MAX-NUMBER

abbrev pub Distance : ℕ → Type 0
Distance x = (x ≤ MAX-NUMBER) ⊎ (x ≡ ABSENT)

-- ---- the tests decide the words

pub le_exact : (a b : ℕ) → (leb a b ≡ true) ↔ (a ≤ b)
le_exact a b = (leb-true a b, le-leb a b)

pub eq_exact : (a b : ℕ) → (eqb a b ≡ true) ↔ (a ≡ b)
eq_exact a b = (eqb-true a b, eq-eqb a b)

pub name-exact : (k x : ℕ) → (name_ok k x ≡ true) ↔ Names k x
name-exact k x = or_exact (ltb x k) (eqb x ABSENT) (ltb-true x k, lt-ltb x k) (eq_exact x ABSENT)

pub number-exact : (x : ℕ) → (number_ok x ≡ true) ↔ Number x
number-exact x = le_exact x MAX-NUMBER

pub distance-exact : (x : ℕ) → (dist_ok x ≡ true) ↔ Distance x
distance-exact x = or_exact (number_ok x) (eqb x ABSENT) (number-exact x) (eq_exact x ABSENT)

-- ---- what keeps them

-- a read gives an entry, or 0, which exists where anything does
pub names_at : (k : ℕ) (t : List ℕ) (i : ℕ) → 0 < k → All (Names k) t → Names k (at t i)
names_at k t i h a = all-at (Names k) t i 0 (inl h) a

pub number_at : (t : List ℕ) (i : ℕ) → All Number t → Number (at t i)
number_at t i a = all-at Number t i 0 (omega arith) a

pub bounded-number : (x : ℕ) → Number (bounded x)
bounded-number x = omega arith
