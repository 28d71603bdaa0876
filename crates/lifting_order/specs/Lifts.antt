-- What a lifting order is, in the words of T-07, over any links E and any pairs P: P x y says "x before y". The first
-- of the list is lifted first.
use Rattle.std.specs.Prelude.{◌≡◌, ◌⊎◌, ◌↔◌, List, [], ◌∷◌, ◌++◌, ℕ, ◌≤◌, ◌<◌}
use Rattle.base_lists.specs.Members.{Mem, Distinct}
use Rattle.theory_graph.specs.Rings.{Connected}

-- the links between units of a list
abbrev pub Among : List ℕ → (ℕ → ℕ → Type 0) → ℕ → ℕ → Type 0
Among s E u v = E u v × Mem u s × Mem v s

-- x stands in the list, and y further on
abbrev pub Before : List ℕ → ℕ → ℕ → Type 0
Before o x y = (a : List ℕ) × (b : List ℕ) × (o ≡ a ++ x ∷ b) × Mem y b

-- every one of n units once, unit 0 last; whatever part a is lifted, every unit of the rest is linked up with unit 0
-- through the rest; each pair is kept
pub record Lifts (n : ℕ) (E P : ℕ → ℕ → Type 0) (o : List ℕ) : Type 0 where
  pub once : Distinct o
  pub all : (v : ℕ) → (v < n) ↔ Mem v o
  pub zero_last : (a : List ℕ) × (o ≡ a ++ 0 ∷ [])
  pub standing : (a s : List ℕ) → o ≡ a ++ s → (v : ℕ) → Mem v s → Connected (Among s E) v 0
  pub kept : (x y : ℕ) → P x y → Before o x y

-- v may stand next, where the units of s stand: it is unit 0 or linked to one of them, and whatever is lifted after it
-- stands already
pub record MayStand (n : ℕ) (E P : ℕ → ℕ → Type 0) (s : List ℕ) (v : ℕ) : Type 0 where
  pub unit : v < n
  pub down : Mem v s → ⊥
  pub held : (v ≡ 0) ⊎ ((u : ℕ) × Mem u s × E v u)
  pub free : (y : ℕ) → P v y → Mem y s

-- from the last on, each unit is the least-numbered that may stand next
abbrev pub LeastEach : ℕ → (ℕ → ℕ → Type 0) → (ℕ → ℕ → Type 0) → List ℕ → Type 0
LeastEach n E P [] = Unit {0}
LeastEach n E P (v ∷ s) = (MayStand n E P s v × ((w : ℕ) → MayStand n E P s w → v ≤ w)) × LeastEach n E P s

-- reversed, the one list is not after the other: where they first differ, its unit has the lesser number
abbrev pub NotAfter : List ℕ → List ℕ → Type 0
NotAfter r o =
    (r ≡ o)
    ⊎ ((a : List ℕ) × (b : List ℕ) × (c : List ℕ) × (x : ℕ) × (y : ℕ) × (r ≡ a ++ x ∷ c) × (o ≡ b ++ y ∷ c) × (x < y))
