-- Labels as the code hands them on: one link after the other, in whatever order. A link counts while its two ends have
-- one key.
use Rattle.std.specs.Prelude.{◌≡◌, Bool, false, cond, ◌&&◌, ◌||◌, List, [], ◌∷◌, ℕ, ◌+◌, ◌*◌, ◌≤◌, ◌<◌, eqb, ltb}
use Rattle.std.specs.Prelude.{length, get_or, set}
use Rattle.base_lists.specs.Folds.{sum}
use Rattle.theory_graph.specs.Rings.{Connected}
use Rattle.theory_min_label.specs.MinLabel.{at, giver, taker}
use Rattle.theory_min_label.specs.Groups.{Link}

-- the links that are left
abbrev pub Live : List ℕ → List ℕ → ℕ → ℕ → Type 0
Live t key u v = Link t u v × (at key u ≡ at key v)

-- they are the links of t'
abbrev pub Lives : List ℕ → List ℕ → List ℕ → Type 0
Lives t key t' = (u v : ℕ) → (Link t' u v → Live t key u v) × (Live t key u v → Link t' u v)

-- the link (a, b) lowers a label
abbrev pub lowers : Bool → List ℕ → List ℕ → ℕ → ℕ → Bool
lowers forward key x a b = eqb (at key a) (at key b) && ltb (at x (giver forward a b)) (at x (taker forward a b))

abbrev pub handed : Bool → List ℕ → List ℕ → ℕ → ℕ → List ℕ
handed forward key x a b = cond (lowers forward key x a b) (set x (taker forward a b) (at x (giver forward a b))) x

-- every link in turn
unfoldable pub swept : Bool → List ℕ → List ℕ → List ℕ → List ℕ
swept forward key [] x = x
swept forward key (a ∷ []) x = x
swept forward key (a ∷ b ∷ t) x = swept forward key t (handed forward key x a b)

-- some link lowers a label
unfoldable pub falls : Bool → List ℕ → List ℕ → List ℕ → Bool
falls forward key [] x = false
falls forward key (a ∷ []) x = false
falls forward key (a ∷ b ∷ t) x = lowers forward key x a b || falls forward key t x

-- y comes from x by labels handed on
pub record Spread (H : ℕ → ℕ → Type 0) (x y : List ℕ) : Type 0 where
  pub size : length y ≡ length x
  pub lower : (v : ℕ) → at y v ≤ at x v
  pub from : (v : ℕ) → (w : ℕ) × Connected H v w × (at y v ≡ at x w)

-- no link would lower a label
abbrev pub Settled : (ℕ → ℕ → Type 0) → List ℕ → Type 0
Settled H x = (v w : ℕ) → H v w → at x v ≤ at x w

-- the sum of the labels: it falls with every label that falls
unfoldable pub total : List ℕ → ℕ
total x = sum (length x) (at x)

-- every end has its key and its label
abbrev pub Ends : ℕ → List ℕ → Type 0
Ends k t = (i : ℕ) → i < length t → get_or t i 0 < k

pub record Room (t key x : List ℕ) : Type 0 where
  pub ends : Ends 256 t
  pub keys : length key ≡ 256
  pub labels : length x ≡ 256

-- a table that passes the checks
pub record Site (n : ℕ) (t : List ℕ) : Type 0 where
  pub few : n ≤ 256
  pub ends : Ends n t
  pub loopless : (u : ℕ) → Link t u u → ⊥

-- the two labels of a unit as one number; where they are equal, one that no other unit has
abbrev pub key_of : List ℕ → List ℕ → ℕ → ℕ
key_of f b v = cond (eqb (at f v) (at b v)) (65537 * v) (at f v + 65536 * at b v)
