-- The unit that names a link, picked in another order.
use Rattle.std.specs.Prelude.{◌≡◌, refl, Bool, true, false, cond, ◌&&◌, List, ℕ, ◌<◌, min, eqb, ltb}
use Rattle.std.proofs.Common.{arith}
use Rattle.spec_rules.specs.Basics.{at}
use Rattle.spec_rules.specs.Labels.{naming_unit}

-- where the parent decides, the place picks between two that are the same
pub place-last : (up before : Bool) (a b : ℕ) → cond before a (cond up a b) ≡ cond up a (cond before a b)
place-last true true a b = refl
place-last true false a b = refl
place-last false before a b = refl

picked-within : (up down before : Bool) (a b k : ℕ) → a < k → b < k →
    cond (up && down) (min a b) (cond down b (cond up a (cond before a b))) < k
picked-within true true before a b k l h = omega arith
picked-within true false before a b k l h = l
picked-within false true before a b k l h = h
picked-within false false true a b k l h = l
picked-within false false false a b k l h = h

-- the unit that names a link of two units exists
pub naming-within : (parent pre : List ℕ) (a b k : ℕ) → a < k → b < k → naming_unit parent pre a b < k
unfolding naming_unit
naming-within parent pre a b k l h = picked-within (eqb (at parent a) b) (eqb (at parent b) a)
    (ltb (at pre b) (at pre a)) a b k l h
