-- Links of one ring have one class. Seen from a vertex b, each other vertex of b's tree has a class: that of the child
-- of b that it is below, or of b itself where it is not below b. Along a route that avoids b this class does not
-- change.
use Rattle.std.specs.Prelude.{◌≡◌, refl, ◌⊎◌, ◌≢◌, List, [], ◌∷◌, ℕ, zero, suc, ◌≤◌, ◌<◌}
use Rattle.std.proofs.Common.{sym, ap, subst, subst₂, ◌∙◌, inl, inr, arith}
use Rattle.std.proofs.Math.Decide.{ℕ_discrete}
use Rattle.theory_graph.specs.Rings.{Graph, last, Walk, Step, last_of, Ring, Follows, Holds, Connected, SameLink}
use Rattle.theory_graph.specs.Walks.{follows-step, step_follows, follows-from, follows_to}
use Rattle.theory_graph.specs.Routes.{Without, ring-around}
use Rattle.theory_graph.specs.Forest.{Forest, Anc, self, up, TreeLink, OffTree, Aux, across, along, ClassOf}
use Rattle.theory_graph.specs.Forest.{lower, upper, first, second}
use Rattle.theory_graph.proofs.Together.{ends-apart, ring-link}
use Rattle.theory_graph.specs.Ancestors.{anc_of, anc_trans, anc_depth, anc_level, anc_order, anc?, anc_child}
use Rattle.theory_graph.specs.Ancestors.{root-along, top_anc, tree?, tree_anc, leaves-off}

-- c is the class of x seen from b
pub data Side (p d cl : ℕ → ℕ) (b x : ℕ) : ℕ → Type 0 where
  below : (t : ℕ) → 0 < d t → p t ≡ b → Anc p d t x → Side p d cl b x (cl t)
  beside : (Anc p d b x → ⊥) → Side p d cl b x (cl b)

-- what has a class is a link
pub class-link : {E : ℕ → ℕ → Type 0} {p d root cl : ℕ → ℕ} → Graph E → Forest E p d root → {u v c : ℕ} →
    ClassOf E p d cl u v c → E u v
class-link {E} G F {u} (lower h e f) = subst (λ (z : ℕ). E u z) e (F.link u h)
class-link {E} {p} G F {v = v} (upper h e f) = subst (λ (z : ℕ). E z v) e (G.flip v (p v) (F.link v h))
class-link G F (first o n f) = o.link
class-link G F (second o n f) = o.link

module _ {E : ℕ → ℕ → Type 0} {p d root cl : ℕ → ℕ} (G : Graph E) (F : Forest E p d root) (aux : (u v : ℕ) →
    Aux E p d u v → cl u ≡ cl v) where
  off-flip : (x y : ℕ) → OffTree E p d x y → OffTree E p d y x
  off-flip x y o = record { link = G.flip x y o.link; off = λ t. o.off (turned t) }
    where
      turned : TreeLink p d y x → TreeLink p d x y
      turned (inl h) = inr h
      turned (inr h) = inl h

  -- up the tree from u to t, both above the end y of a link whose other end is not below t: one class
  climb : (t x y : ℕ) → 0 < d t → OffTree E p d x y → (Anc p d t x → ⊥) → {u : ℕ} → Anc p d t u → Anc p d u y →
      cl u ≡ cl t
  climb t x y h o n (self e) b = ap cl (sym e)
  climb t x y h o n {u} (up k a) b =
      aux u (p u) (along k refl (omega (arith, anc_depth F a)) x y o b (λ c. n (anc_trans a c)))
      ∙ climb t x y h o n a (anc_trans (up k (self refl)) b)

  pub side : (b x : ℕ) → b ≢ x → (c : ℕ) × Side p d cl b x c
  side b x n = go (anc? F b x)
    where
      go : Dec (Anc p d b x) → (c : ℕ) × Side p d cl b x c
      go (yes a) = let r = anc_child F a n in (cl r.0, below r.0 r.1 r.2 r.3)
      go (no a) = (cl b, beside a)

  -- two different children of b have no vertex below both
  siblings : (b t s : ℕ) → 0 < d t → 0 < d s → p t ≡ b → p s ≡ b → t ≢ s → {x : ℕ} → Anc p d t x → Anc p d s x → ⊥
  siblings b t s ht hs et es n a c =
      let level : d t ≡ d s = omega (arith, F.deeper t ht, F.deeper s hs, ap d et, ap d es) in
      n (anc_level F (anc_order F a c (omega arith)) (omega arith))

  -- from below the child t of b to beside b
  outward : (b t x y : ℕ) → 0 < d t → p t ≡ b → Anc p d t x → (Anc p d b y → ⊥) → E x y → cl t ≡ cl b
  outward b t x y h e a n l = aux t b (along h e (go (d b) refl) y x
      (leaves-off F t y x h (G.flip x y l) a (λ c. n (anc_of e c))) a n)
    where
      go : (i : ℕ) → d b ≡ i → 0 < d b
      go (suc i) z = omega arith
      go zero z = absurd (n (top_anc F (root-along F (anc_trans (up h (self (sym e))) a) ∙ F.spans x y l) z))

  side-link : {b x y c c' : ℕ} → E x y → Side p d cl b x c → Side p d cl b y c' → c ≡ c'
  side-link l (beside n) (beside m) = refl
  side-link {b} {x} {y} l (below t h e a) (beside m) = outward b t x y h e a m l
  side-link {b} {x} {y} l (beside n) (below s k f c) = sym (outward b s y x k f c n (G.flip x y l))
  side-link {b} {x} {y} l (below t h e a) (below s k f c) = go (ℕ_discrete t s)
    where
      go : Dec (t ≡ s) → cl t ≡ cl s
      go (yes g) = ap cl g
      go (no g) =
          sym (climb t y x h (off-flip x y o) (λ q. siblings b t s h k e f g q c) a (self refl))
          ∙ (aux x y (across o nxy nyx) ∙ climb s x y k o (λ q. siblings b t s h k e f g a q) c (self refl))
        where
          nxy : Anc p d x y → ⊥
          nxy q = siblings b t s h k e f g (anc_trans a q) c

          nyx : Anc p d y x → ⊥
          nyx q = siblings b t s h k e f g a (anc_trans c q)

          related : Anc p d x y ⊎ Anc p d y x → ⊥
          related (inl q) = nxy q
          related (inr q) = nyx q

          o : OffTree E p d x y
          o = record { link = l; off = λ q. related (tree_anc F x y q) }

  child_anc : (b t : ℕ) → 0 < d t → p t ≡ b → {x : ℕ} → Anc p d t x → Anc p d b x
  child_anc b t h e a = anc_trans (up h (self (sym e))) a

  side_same : {b x c c' : ℕ} → Side p d cl b x c → Side p d cl b x c' → c ≡ c'
  side_same (beside n) (beside m) = refl
  side_same {b} (below t h e a) (beside m) = absurd (m (child_anc b t h e a))
  side_same {b} (beside n) (below s k f c) = absurd (n (child_anc b s k f c))
  side_same {b} (below t h e a) (below s k f c) = go (ℕ_discrete t s)
    where
      go : Dec (t ≡ s) → cl t ≡ cl s
      go (yes g) = ap cl g
      go (no g) = absurd (siblings b t s h k e f g a c)

  -- the class does not change along a route that avoids b ..
  pub side_route : {b x y c c' : ℕ} → Connected (Without b E) x y → Side p d cl b x c → Side p d cl b y c' → c ≡ c'
  side_route {b} {x} {y} (l, w) = go x l w.0 w.1
    where
      go : (v : ℕ) (k : List ℕ) → Walk (Without b E) v k → last v k ≡ y → {c c' : ℕ} → Side p d cl b v c →
          Side p d cl b y c' → c ≡ c'
      go v [] w e {c} s t = side_same (subst (λ (z : ℕ). Side p d cl b z c) e s) t
      go v (z ∷ k) w e s t =
          let r = side b z w.0.2 in
          side-link w.0.0 s r.1 ∙ go z k w.1 e r.1 t

  -- .. and of a vertex next to b it is the class of the link between the two
  pub side-own : {b x c c' : ℕ} → ClassOf E p d cl b x c → Side p d cl b x c' → c ≡ c'
  side-own (lower h e f) (beside n) = f
  side-own {b} (lower h e f) (below t k g a) =
      absurd (omega (arith, anc_depth F a, F.deeper t k, ap d g, F.deeper b h, ap d e))
  side-own (upper h e f) (beside n) = absurd (n (up h (self (sym e))))
  side-own {x = x} (upper h e f) (below t k g a) =
      let level : d x ≤ d t = omega (arith, F.deeper t k, ap d g, F.deeper x h, ap d e) in
      f ∙ ap cl (sym (anc_level F a level))
  side-own (first o n f) (beside m) = f
  side-own {b} (first o n f) (below t k g a) = absurd (n (child_anc b t k g a))
  side-own {b} {x} (second o n f) (beside m) = f ∙ sym (aux b x (across o m n))
  side-own {b} {x} (second o n f) (below t k g a) = f ∙ climb t b x k o deep a (self refl)
    where
      deep : Anc p d t b → ⊥
      deep q = omega (arith, anc_depth F q, F.deeper t k, ap d g)

  pub class-flip : {u v c : ℕ} → ClassOf E p d cl u v c → ClassOf E p d cl v u c
  class-flip (lower h e f) = upper h e f
  class-flip (upper h e f) = lower h e f
  class-flip {u} {v} (first o n f) = second (off-flip u v o) n f
  class-flip {u} {v} (second o n f) = first (off-flip u v o) n f

  -- each link has one class
  pub class_unique : {u v c c' : ℕ} → E u v → ClassOf E p d cl u v c → ClassOf E p d cl u v c' → c ≡ c'
  class_unique {u} {v} l a b = let s = side u v (ends-apart G u v l) in side-own a s.1 ∙ sym (side-own b s.1)

  pub class_same : {u v x y c c' : ℕ} → E u v → SameLink u v x y → ClassOf E p d cl u v c → ClassOf E p d cl x y c' →
      c ≡ c'
  class_same {c' = c'} l (inl e) a b = class_unique l a
      (subst₂ (λ (i j : ℕ). ClassOf E p d cl i j c') (sym e.0) (sym e.1) b)
  class_same {c' = c'} l (inr e) a b = class_unique l a
      (class-flip (subst₂ (λ (i j : ℕ). ClassOf E p d cl i j c') (sym e.1) (sym e.0) b))

  pub class-exists : (u v : ℕ) → E u v → (c : ℕ) × ClassOf E p d cl u v c
  class-exists u v l = go (tree? F u v) (anc? F u v)
    where
      go : Dec (TreeLink p d u v) → Dec (Anc p d u v) → (c : ℕ) × ClassOf E p d cl u v c
      go (yes (inl t)) a = (cl u, lower t.0 t.1 refl)
      go (yes (inr t)) a = (cl v, upper t.0 t.1 refl)
      go (no t) (no a) = (cl u, first (record { link = l; off = t }) a refl)
      go (no t) (yes a) =
          (cl v, second (record { link = l; off = t }) (λ q. ends-apart G u v l (anc_level F a (anc_depth F q))) refl)

  -- two links at b with a way round between their other ends
  pub class-at : {b x y c c' : ℕ} → E b x → E b y → Connected (Without b E) x y → ClassOf E p d cl b x c →
      ClassOf E p d cl b y c' → c ≡ c'
  class-at {b} {x} {y} l m w h k =
      let s = side b x (ends-apart G b x l) in
      let t = side b y (ends-apart G b y m) in
      side-own h s.1 ∙ (side_route w s.1 t.1 ∙ sym (side-own k t.1))

  module _ (r : List ℕ) (R : Ring E r) where
    -- two links that follow one another on the ring
    turn-class : {a b w c c' : ℕ} → Follows r a b → Follows r b w → ClassOf E p d cl a b c → ClassOf E p d cl b w c' →
        c ≡ c'
    turn-class {a} {b} {w} h k x y =
        let ba = G.flip a b (ring-link G R a b (inl h)) in
        let bw = ring-link G R b w (inl k) in
        let way = ring-around G R b a w (follows_to r a b h) (follows-from r a b h) (follows_to r b w k)
        (ends-apart G b a ba) (ends-apart G b w bw) in
        class-at ba bw way (class-flip x) y

    class-along : (a b : ℕ) (l : List ℕ) → ((u v : ℕ) → Step a (b ∷ l) u v → Follows r u v) → {c : ℕ} →
        ClassOf E p d cl a b c
        → (u v : ℕ) → Step a (b ∷ l) u v → {c' : ℕ} → ClassOf E p d cl u v c' → c ≡ c'
    class-along a b [] on h u v (inl s) k =
        class_same (ring-link G R a b (inl (on a b (inl (refl, refl))))) (inl (sym s.0, sym s.1)) h k
    class-along a b [] on h u v (inr s) k = absurd s
    class-along a b (w ∷ l) on h u v (inl s) k =
        class_same (ring-link G R a b (inl (on a b (inl (refl, refl))))) (inl (sym s.0, sym s.1)) h k
    class-along a b (w ∷ l) on h u v (inr s) k =
        let m = class-exists b w (ring-link G R b w (inl (on b w (inr (inl (refl, refl)))))) in
        turn-class (on a b (inl (refl, refl))) (on b w (inr (inl (refl, refl)))) h m.1
        ∙ class-along b w l (λ x y q. on x y (inr q)) m.1 u v s k

  -- all links of a ring have one class
  pub ring-class : {r : List ℕ} → Ring E r → {u v x y c c' : ℕ} → Holds r u v → Holds r x y → ClassOf E p d cl u v c →
      ClassOf E p d cl x y c' → c ≡ c'
  ring-class {r = []} R h k m n = absurd (omega (arith, R.three))
  ring-class {r = a ∷ l} R {u} {v} {x} {y} h k m n = sym (one u v h m) ∙ one x y k n
    where
      r : List ℕ
      r = a ∷ l

      start : (c : ℕ) × ClassOf E p d cl (last_of r) a c
      start = class-exists (last_of r) a R.closed

      step : (i j : ℕ) → Follows r i j → {c : ℕ} → ClassOf E p d cl i j c → start.0 ≡ c
      step i j f q = class-along r R (last_of r) a l (step_follows r) start.1 i j (follows-step r i j f) q

      one : (i j : ℕ) → Holds r i j → {c : ℕ} → ClassOf E p d cl i j c → start.0 ≡ c
      one i j (inl f) q = step i j f q
      one i j (inr f) q = step j i f (class-flip q)
