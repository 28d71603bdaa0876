-- The pure theorem: links have one class exactly where they are one link or lie on a common ring, and a link is alone
-- in its class exactly where no ring holds it.
use Rattle.std.specs.Prelude.{◌≡◌, refl, ◌⊎◌, ◌↔◌, List, [], ◌∷◌, ℕ, zero, suc, ◌<◌}
use Rattle.std.proofs.Common.{sym, subst, ◌∙◌, inl, inr, arith}
use Rattle.base_lists.specs.Members.{Mem}
use Rattle.theory_graph.specs.Rings.{Graph, last, last_of, first_of, Ring, Holds, OnRing, SameLink}
use Rattle.theory_graph.specs.Walks.{last_mem}
use Rattle.theory_graph.proofs.Turn.{turn, turn-ring, turn-link}
use Rattle.theory_graph.specs.Forest.{Forest, Anc, self, up, Aux, across, along, Joined, stay, on, back, Classes}
use Rattle.theory_graph.specs.Forest.{ClassOf, lower, upper, first, second}
use Rattle.theory_graph.specs.Ancestors.{anc_trans, top_anc}
use Rattle.theory_graph.specs.TreePath.{fundamental, fundamental-ring, fundamental-link, fundamental-tree}
use Rattle.theory_graph.proofs.Together.{Together, together_trans, together-flip, same-flip, same_trans}
use Rattle.theory_graph.proofs.Together.{holds_same, ring-link}
use Rattle.theory_graph.proofs.Sides.{class-link, class_same, class-exists, ring-class}

-- each other link has another class
abbrev pub Alone : (ℕ → ℕ → Type 0) → (ℕ → ℕ) → (ℕ → ℕ) → (ℕ → ℕ) → ℕ → ℕ → ℕ → Type 0
Alone E p d cl u v c = (x y c' : ℕ) → E x y → ClassOf E p d cl x y c' → c ≡ c' → SameLink u v x y

-- a ring holds the link from its last vertex to its first, and another one
other-link : (E : ℕ → ℕ → Type 0) (r : List ℕ) → Ring E r
    → (x : ℕ) × (y : ℕ) × Holds r (last_of r) (first_of r) × Holds r x y × (SameLink (last_of r) (first_of r) x y → ⊥)
other-link E [] R = absurd (omega (arith, R.three))
other-link E (a ∷ []) R = absurd (omega (arith, R.three))
other-link E (a ∷ (b ∷ [])) R = absurd (omega (arith, R.three))
other-link E (a ∷ (b ∷ (e ∷ l))) R = (a, b, inl (inr (refl, refl)), inl (inl (inl (refl, refl))), go)
  where
    go : SameLink (last e l) a a b → ⊥
    go (inl h) = R.different.0 (inl h.1)
    go (inr h) = R.different.1.0 (subst (λ (z : ℕ). Mem z (e ∷ l)) h.0 (last_mem e l))

module _ {E : ℕ → ℕ → Type 0} {p d root : ℕ → ℕ} (G : Graph E) (F : Forest E p d root) where
  -- an end of a link that is no ancestor of the other end is no root
  pub not_top : (u v : ℕ) → E u v → (Anc p d u v → ⊥) → 0 < d u
  not_top u v l n = go (d u) refl
    where
      go : (i : ℕ) → d u ≡ i → 0 < d u
      go zero z = absurd (n (top_anc F (F.spans u v l) z))
      go (suc i) z = omega arith

  -- an auxiliary edge is witnessed by a ring that holds both tree links
  pub aux-ring : (u v : ℕ) → Aux E p d u v → (0 < d u) × (0 < d v) × OnRing E u (p u) v (p v)
  aux-ring u v (across o n m) =
      let hu = not_top u v o.link n in
      let hv = not_top v u (G.flip u v o.link) m in (
        hu,
        hv,
        (
          fundamental p d u v,
          fundamental-ring G F o,
          fundamental-tree G F o u hu (inl (self refl, n)),
          fundamental-tree G F o v hv (inr (m, self refl)),
        ),
      )
  aux-ring u v (along h e k x y o a n) =
      let above : Anc p d v u = up h (self (sym e)) in (
        h,
        k,
        (
          fundamental p d x y,
          fundamental-ring G F o,
          fundamental-tree G F o u h (inr (λ q. n (anc_trans above q), a)),
          fundamental-tree G F o v k (inr (n, anc_trans above a)),
        ),
      )

  -- so a chain of them joins tree links of one ring
  joined-together : {u v : ℕ} → 0 < d u → Joined E p d u v → (0 < d v) × Together E u (p u) v (p v)
  joined-together h stay = (h, inl (inl (refl, refl)))
  joined-together {u} h (on {v = v} {w = w} j a) =
      let t = joined-together h j in
      let r = aux-ring v w a in
      (r.1, together_trans G u (p u) v (p v) w (p w) t.1 (inr r.2))
  joined-together {u} h (back {v = v} {w = w} j a) =
      let t = joined-together h j in
      let r = aux-ring w v a in
      (r.0, together_trans G u (p u) v (p v) w (p w) t.1 (together-flip E w (p w) v (p v) (inr r.2)))

module _ {E : ℕ → ℕ → Type 0} {p d root cl : ℕ → ℕ} (G : Graph E) (F : Forest E p d root) (C : Classes E p d cl) where
  -- a tree link of the same class, with its ring
  class-tree : {u v c : ℕ} → ClassOf E p d cl u v c → (w : ℕ) × (0 < d w) × (c ≡ cl w) × Together E u v w (p w)
  class-tree {u} (lower h e f) = (u, h, f, inl (inl (refl, sym e)))
  class-tree {v = v} (upper h e f) = (v, h, f, inl (inr (sym e, refl)))
  class-tree {u} {v} (first o n f) =
      let h = not_top G F u v o.link n in (
        u,
        h,
        f,
        inr (
          fundamental p d u v,
          fundamental-ring G F o,
          fundamental-link G F o,
          fundamental-tree G F o u h (inl (self refl, n)),
        ),
      )
  class-tree {u} {v} (second o n f) =
      let h = not_top G F v u (G.flip u v o.link) n in (
        v,
        h,
        f,
        inr (
          fundamental p d u v,
          fundamental-ring G F o,
          fundamental-link G F o,
          fundamental-tree G F o v h (inr (n, self refl)),
        ),
      )

  -- links of one class are one link, or lie on one ring
  pub class-together : {u v x y c c' : ℕ} → ClassOf E p d cl u v c → ClassOf E p d cl x y c' → c ≡ c' →
      Together E u v x y
  class-together {u} {v} {x} {y} h k e =
      let (s, hs, es, ts) = class-tree h in
      let (t, ht, et, tq) = class-tree k in
      let j = joined-together G F hs (C.only-joined s t hs ht (sym es ∙ (e ∙ et))) in
      together_trans G u v s (p s) x y ts (together_trans G s (p s) t (p t) x y j.1 (together-flip E x y t (p t) tq))

  pub blocks : {u v x y c c' : ℕ} → ClassOf E p d cl u v c → ClassOf E p d cl x y c'
      → (c ≡ c') ↔ (SameLink u v x y ⊎ OnRing E u v x y)
  blocks {u} {v} {x} {y} {c} {c'} h k = (class-together h k, go)
    where
      go : SameLink u v x y ⊎ OnRing E u v x y → c ≡ c'
      go (inl e) = class_same G F C.along-aux (class-link G F h) e h k
      go (inr (r, R, a, b)) = ring-class G F C.along-aux R a b h k

  -- of two different links: one class exactly where some ring holds both
  pub blocks-other : {u v x y c c' : ℕ} → (SameLink u v x y → ⊥) → ClassOf E p d cl u v c → ClassOf E p d cl x y c'
      → (c ≡ c') ↔ OnRing E u v x y
  blocks-other {u} {v} {x} {y} n h k =
      (λ e. other (class-together h k e), λ o. ring-class G F C.along-aux o.1 o.2 o.3 h k)
    where
      other : Together E u v x y → OnRing E u v x y
      other (inl s) = absurd (n s)
      other (inr o) = o

  -- lone (a bridge): alone in its class exactly where no ring holds it
  pub bridge : {u v c : ℕ} → ClassOf E p d cl u v c → Alone E p d cl u v c ↔ ((r : List ℕ) → Ring E r → Holds r u v → ⊥)
  bridge {u} {v} {c} h = (there, λ f x y c' l k e. back_to f x y (class-together h k e))
    where
      there : Alone E p d cl u v c → (r : List ℕ) → Ring E r → Holds r u v → ⊥
      there alone r R q =
          let t = turn u v r in
          let T = turn-ring R u v q in
          let s = turn-link R u v q in
          let (x, y, h0, hx, n) = other-link E t T in
          let lxy = ring-link G T x y hx in
          let m = class-exists G F C.along-aux x y lxy in
          let hu = holds_same t (same-flip s) h0 in
          let e = ring-class G F C.along-aux T hu hx h m.1 in
          n (same_trans (same-flip s) (alone x y m.0 lxy m.1 e))

      back_to : ((r : List ℕ) → Ring E r → Holds r u v → ⊥) → (x y : ℕ) → Together E u v x y → SameLink u v x y
      back_to f x y (inl s) = s
      back_to f x y (inr o) = absurd (f o.0 o.1 o.2)
