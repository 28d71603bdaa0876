-- The lifting order of T-07 as it is made: unit 0 stands first, then again and again the least unit that may; the unit
-- that stood last is lifted first. t has the words of the links, p those of the crew's pairs "this before that", two a
-- pair.
use Rattle.std.specs.Prelude.{◌≡◌, Bool, cond, not, ◌&&◌, ◌||◌, List, [], ◌∷◌, ℕ, zero, suc, ◌<◌, eqb, ltb, length}
use Rattle.base_lists.specs.Folds.{some, least}
use Rattle.base_lists.specs.Parts.{memb}
use Rattle.theory_graph.specs.Rings.{SameLink}
use Rattle.table.specs.Table.{link_count, end_a, end_b, odd_words, end_missing}

-- a link joins u and v; a pair says x before y
abbrev pub Joins : List ℕ → ℕ → ℕ → Type 0
Joins t u v = (j : ℕ) × (j < link_count t) × SameLink (end_a t j) (end_b t j) u v

abbrev pub Pair : List ℕ → ℕ → ℕ → Type 0
Pair p x y = (k : ℕ) × (k < link_count p) × (end_a p k ≡ x) × (end_b p k ≡ y)

-- link j joins v with a unit that stands
abbrev pub reaches : List ℕ → List ℕ → ℕ → ℕ → Bool
reaches t s v j = (eqb (end_a t j) v && memb s (end_b t j)) || (eqb (end_b t j) v && memb s (end_a t j))

-- unit 0 stands by itself, any other is linked to one that stands
abbrev pub held : List ℕ → List ℕ → ℕ → Bool
held t s v = eqb v 0 || some (link_count t) (reaches t s v)

-- pair k is in v's way: v goes before a unit that does not stand yet
abbrev pub blocks : List ℕ → List ℕ → ℕ → ℕ → Bool
blocks p s v k = eqb (end_a p k) v && not (memb s (end_b p k))

abbrev pub free : List ℕ → List ℕ → ℕ → Bool
free p s v = not (some (link_count p) (blocks p s v))

-- v may stand next, where the units of s stand
abbrev pub may_stand : List ℕ → List ℕ → List ℕ → ℕ → Bool
may_stand t p s v = not (memb s v) && (held t s v && free p s v)

-- the least of n units that may, n where none may
abbrev pub next_up : ℕ → (ℕ → Bool) → ℕ
next_up n may = least n (λ v. cond (may v) v n) n

-- at most so many units more stand
unfoldable pub grow : ℕ → List ℕ → List ℕ → ℕ → List ℕ → List ℕ
grow n t p zero s = s
grow n t p (suc k) s =
    let v = next_up n (may_stand t p s) in
    let later = grow n t p k (v ∷ s) in
    cond (ltb v n) later s

-- the order of n units
unfoldable pub order_of : ℕ → List ℕ → List ℕ → List ℕ
order_of n t p = grow n t p n []

-- 19: more than 256 pairs, an odd number of words, or a pair that names a missing unit
abbrev pub bad_pairs : ℕ → List ℕ → Bool
bad_pairs n p = ltb 256 (link_count p) || (odd_words p || end_missing n p)

-- 20: not all units come to stand, and no order exists
abbrev pub no_order : ℕ → List ℕ → List ℕ → Bool
no_order n t p = not (eqb (length (order_of n t p)) n)
