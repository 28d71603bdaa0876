-- What a stored entry may be: a name, a number, a distance.
use Rattle.std.specs.Prelude.{Bool, ◌||◌, ℕ, eqb, leb, ltb}
use Rattle.spec_rules.specs.Basics.{ABSENT, MAX-NUMBER}

-- a stored name is absent or names one of k things that exist
abbrev pub name_ok : ℕ → ℕ → Bool
name_ok k x = ltb x k || eqb x ABSENT

-- no other stored number exceeds 2,048
abbrev pub number_ok : ℕ → Bool
number_ok x = leb x MAX-NUMBER

-- save that a distance may be absent
abbrev pub dist_ok : ℕ → Bool
dist_ok x = number_ok x || eqb x ABSENT
