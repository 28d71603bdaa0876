-- A spanning forest, any one; its auxiliary graph; and the classes of links that the auxiliary graph makes.
use Rattle.std.specs.Prelude.{◌≡◌, ◌⊎◌, ℕ, suc, ◌<◌}

-- p is the parent and d the depth of a vertex, root the vertex of depth 0 above it. A root has no parent (its p is not
-- read), and a number that is no vertex is a root with no link.
pub record Forest (E : ℕ → ℕ → Type 0) (p d root : ℕ → ℕ) : Type 0 where
  pub deeper : (v : ℕ) → 0 < d v → d v ≡ suc (d (p v))
  pub link : (v : ℕ) → 0 < d v → E v (p v)
  pub top : (v : ℕ) → d v ≡ 0 → root v ≡ v
  pub spans : (u v : ℕ) → E u v → root u ≡ root v

-- w is an ancestor of x, or x itself: x is in D(w)
pub data Anc (p d : ℕ → ℕ) (w : ℕ) : ℕ → Type 0 where
  self : {x : ℕ} → w ≡ x → Anc p d w x
  up : {x : ℕ} → 0 < d x → Anc p d w (p x) → Anc p d w x

-- one end is the other's parent
abbrev pub TreeLink : (ℕ → ℕ) → (ℕ → ℕ) → ℕ → ℕ → Type 0
TreeLink p d u v = ((0 < d u) × (p u ≡ v)) ⊎ ((0 < d v) × (p v ≡ u))

-- a link off the tree
pub record OffTree (E : ℕ → ℕ → Type 0) (p d : ℕ → ℕ) (u v : ℕ) : Type 0 where
  pub link : E u v
  pub off : TreeLink p d u v → ⊥

-- Auxiliary edges, between tree links named by their lower ends (document 01's joins): u and v across a link off the
-- tree between the two, neither an ancestor of the other; u and its parent v along the tree, v no root, by a link off
-- the tree that leads from below u to outside D(v).
pub data Aux (E : ℕ → ℕ → Type 0) (p d : ℕ → ℕ) (u v : ℕ) : Type 0 where
  across : OffTree E p d u v → (Anc p d u v → ⊥) → (Anc p d v u → ⊥) → Aux E p d u v
  along : 0 < d u → p u ≡ v → 0 < d v → (x y : ℕ) → OffTree E p d x y → Anc p d u y → (Anc p d v x → ⊥) → Aux E p d u v

-- a chain of auxiliary edges, each taken either way
pub data Joined (E : ℕ → ℕ → Type 0) (p d : ℕ → ℕ) (u : ℕ) : ℕ → Type 0 where
  stay : Joined E p d u u
  on : {v w : ℕ} → Joined E p d u v → Aux E p d v w → Joined E p d u w
  back : {v w : ℕ} → Joined E p d u v → Aux E p d w v → Joined E p d u w

-- cl v is the class of the tree link from v, no root, to its parent: classes are the auxiliary graph's components
pub record Classes (E : ℕ → ℕ → Type 0) (p d cl : ℕ → ℕ) : Type 0 where
  pub along-aux : (u v : ℕ) → Aux E p d u v → cl u ≡ cl v
  pub only-joined : (u v : ℕ) → 0 < d u → 0 < d v → cl u ≡ cl v → Joined E p d u v

-- c is the class of the link (u, v): that of its lower end where it is a tree link, else that of an end which is no
-- ancestor of the other
pub data ClassOf (E : ℕ → ℕ → Type 0) (p d cl : ℕ → ℕ) (u v c : ℕ) : Type 0 where
  lower : 0 < d u → p u ≡ v → c ≡ cl u → ClassOf E p d cl u v c
  upper : 0 < d v → p v ≡ u → c ≡ cl v → ClassOf E p d cl u v c
  first : OffTree E p d u v → (Anc p d u v → ⊥) → c ≡ cl u → ClassOf E p d cl u v c
  second : OffTree E p d u v → (Anc p d v u → ⊥) → c ≡ cl v → ClassOf E p d cl u v c
