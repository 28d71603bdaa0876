-- The words of document 01 that the theorems cite, over any relation of links: E u v says that a link joins u and v.
use Rattle.std.specs.Prelude.{◌≡◌, ◌⊎◌, ◌≢◌, List, [], ◌∷◌, ℕ, zero, ◌≤◌, length}
use Rattle.base_lists.specs.Members.{Distinct}

-- links join different vertices, both ways
pub record Graph (E : ℕ → ℕ → Type 0) : Type 0 where
  pub flip : (u v : ℕ) → E u v → E v u
  pub loopless : (u : ℕ) → E u u → ⊥

-- the last vertex of the chain that starts at a and goes through the list
abbrev pub last : ℕ → List ℕ → ℕ
last a [] = a
last a (b ∷ l) = last b l

-- a chain of links from a through the list: each vertex is linked to the next
abbrev pub Walk : (ℕ → ℕ → Type 0) → ℕ → List ℕ → Type 0
Walk E a [] = Unit {0}
Walk E a (b ∷ l) = E a b × Walk E b l

-- the chain from a through the list goes from u straight on to v
abbrev pub Step : ℕ → List ℕ → ℕ → ℕ → Type 0
Step a [] u v = ⊥
Step a (b ∷ l) u v = ((u ≡ a) × (v ≡ b)) ⊎ Step b l u v

-- A ring: "a simple cycle: three or more different units, each linked to the next and the last to the first".
abbrev pub last_of : List ℕ → ℕ
last_of [] = zero
last_of (a ∷ l) = last a l

abbrev pub first_of : List ℕ → ℕ
first_of [] = zero
first_of (a ∷ l) = a

abbrev Linked : (ℕ → ℕ → Type 0) → List ℕ → Type 0
Linked E [] = Unit {0}
Linked E (a ∷ l) = Walk E a l

pub record Ring (E : ℕ → ℕ → Type 0) (r : List ℕ) : Type 0 where
  pub three : 3 ≤ length r
  pub different : Distinct r
  pub linked : Linked E r
  pub closed : E (last_of r) (first_of r)

-- v comes next after u in the list, the first after the last
abbrev pub Follows : List ℕ → ℕ → ℕ → Type 0
Follows [] u v = ⊥
Follows (a ∷ l) u v = Step a l u v ⊎ ((u ≡ last a l) × (v ≡ a))

-- the ring holds the link (u, v): u and v are neighbours in it, in either order
abbrev pub Holds : List ℕ → ℕ → ℕ → Type 0
Holds r u v = Follows r u v ⊎ Follows r v u

-- some ring holds both links
abbrev pub OnRing : (ℕ → ℕ → Type 0) → ℕ → ℕ → ℕ → ℕ → Type 0
OnRing E u v x y = (r : List ℕ) × Ring E r × Holds r u v × Holds r x y

-- (u, v) and (x, y) are one link: ends stand in either order
abbrev pub SameLink : ℕ → ℕ → ℕ → ℕ → Type 0
SameLink u v x y = ((u ≡ x) × (v ≡ y)) ⊎ ((u ≡ y) × (v ≡ x))

-- Route (a walk): a chain of links from a through the list to b.
abbrev pub Route : (ℕ → ℕ → Type 0) → ℕ → List ℕ → ℕ → Type 0
Route E a l b = Walk E a l × (last a l ≡ b)

-- the route avoids u: u is an end of none of its links
abbrev pub Avoids : ℕ → ℕ → List ℕ → Type 0
Avoids u a l = (x y : ℕ) → Step a l x y → (u ≢ x) × (u ≢ y)

-- linked up: a route joins the two
abbrev pub Connected : (ℕ → ℕ → Type 0) → ℕ → ℕ → Type 0
Connected E a b = (l : List ℕ) × Route E a l b

-- Single point (an articulation point): two different units other than u, linked up with each other, have no route that
-- avoids u.
pub record Articulation (E : ℕ → ℕ → Type 0) (u : ℕ) : Type 0 where
  pub x : ℕ
  pub y : ℕ
  pub apart : x ≢ y
  pub other-x : x ≢ u
  pub other-y : y ≢ u
  pub connected : Connected E x y
  pub cut : (l : List ℕ) → Route E x l y → Avoids u x l → ⊥
