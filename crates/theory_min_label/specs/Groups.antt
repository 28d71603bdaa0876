-- What the survey of one-way links promises (document 02, T-11), in the request's words. StrongProof.antt proves it.
use Rattle.std.specs.Prelude.{◌≡◌, ◌⊎◌, ◌↔◌, List, [], ◌∷◌, ℕ, ◌≤◌, ◌<◌, length}
use Rattle.base_lists.specs.Members.{Mem, Distinct}
use Rattle.theory_graph.specs.Rings.{Connected}
use Rattle.theory_min_label.specs.MinLabel.{at}

-- a link from u to v stands in the table
abbrev pub Link : List ℕ → ℕ → ℕ → Type 0
Link [] u v = ⊥
Link (a ∷ []) u v = ⊥
Link (a ∷ b ∷ t) u v = ((u ≡ a) × (v ≡ b)) ⊎ Link t u v

-- u reaches v: a walk along the links leads from u to v
abbrev pub Reaches : (ℕ → ℕ → Type 0) → ℕ → ℕ → Type 0
Reaches E u v = Connected E u v

-- each reaches the other: they are in one strongly connected group
abbrev pub Mutual : (ℕ → ℕ → Type 0) → ℕ → ℕ → Type 0
Mutual E u v = Reaches E u v × Reaches E v u

-- x is the least of the group of v
pub record LeastOf (E : ℕ → ℕ → Type 0) (v x : ℕ) : Type 0 where
  pub in_group : Mutual E v x
  pub least : (w : ℕ) → Mutual E v w → x ≤ w

-- one unit of each group: the list is as long as there are groups
pub record OneOfEach (n : ℕ) (E : ℕ → ℕ → Type 0) (l : List ℕ) : Type 0 where
  pub units : (r : ℕ) → Mem r l → r < n
  pub covers : (v : ℕ) → v < n → (r : ℕ) × Mem r l × Mutual E v r
  pub apart : (r s : ℕ) → Mem r l → Mem s l → Mutual E r s → r ≡ s
  pub once : Distinct l

-- n units and the links of t, the slice before and after, and the passes
pub record Strong (n : ℕ) (t before after : List ℕ) (passes : ℕ) : Type 0 where
  -- every unit has its number, the least of its group
  pub numbered : (v : ℕ) → v < n → at after v < n
  pub least : (v : ℕ) → v < n → LeastOf (Link t) v (at after v)
  -- two units have the same number exactly when each reaches the other
  pub same : (v w : ℕ) → v < n → w < n → (at after v ≡ at after w) ↔ Mutual (Link t) v w
  -- no more passes than groups
  pub groups : (l : List ℕ) × OneOfEach n (Link t) l
  pub few : (l : List ℕ) → OneOfEach n (Link t) l → passes ≤ length l
  -- words past the numbers stay
  pub past : (v : ℕ) → n ≤ v → at after v ≡ at before v
  pub size : length after ≡ length before
