-- Connected vertices: an equivalence; and the routes that avoid a vertex as routes of a smaller graph.
use Rattle.std.specs.Prelude.{◌≡◌, refl, ◌⊎◌, ◌≢◌, List, [], ◌∷◌, ◌++◌, ℕ, suc, ◌≤◌, length}
use Rattle.std.proofs.Common.{sym, ap, subst, ◌∙◌, inl, inr, arith, length-append}
use Rattle.base_lists.specs.Members.{Mem, mem?, Distinct, mem_split, mem_cases, mem_right, mem_left, distinct_swap}
use Rattle.base_lists.specs.Members.{distinct_right}
use Rattle.theory_graph.specs.Rings.{Graph, last, Walk, last_of, Ring, Route, Avoids, Connected}
use Rattle.theory_graph.specs.Walks.{last-append, walk_join, walk_left, walk_right, walk_map, walk_step}
use Rattle.theory_graph.specs.Walks.{ring-closed, last_of_split}

-- the links that do not end at u
abbrev pub Without : ℕ → (ℕ → ℕ → Type 0) → ℕ → ℕ → Type 0
Without u E x y = E x y × (u ≢ x) × (u ≢ y)

module _ (E : ℕ → ℕ → Type 0) where
  pub connected_refl : (a : ℕ) → Connected E a a
  connected_refl a = ([], (tt, refl))

  pub connected-link : (a b : ℕ) → E a b → Connected E a b
  connected-link a b e = (b ∷ [], ((e, tt), refl))

  pub connected_trans : (a b c : ℕ) → Connected E a b → Connected E b c → Connected E a c
  connected_trans a b c h k =
      let s = h.0 in
      let t = k.0 in
      let e : last a s ≡ b = h.1.1 in
      let w : Walk E (last a s) t = rw e k.1.0 in
      let f : last (last a s) t ≡ c = rw e k.1.1 in
      (s ++ t, (walk_join E a s t h.1.0 w, last-append a s t ∙ f))

  pub connected_sym : ((u v : ℕ) → E u v → E v u) → (a b : ℕ) → Connected E a b → Connected E b a
  connected_sym flip a b h = go a h.0 h.1.0 h.1.1
    where
      go : (x : ℕ) (l : List ℕ) → Walk E x l → last x l ≡ b → Connected E b x
      go x [] w e = ([], (tt, sym e))
      go x (y ∷ l) w e = connected_trans b y x (go y l w.1 e) (connected-link y x (flip x y w.0))

  -- a walk made simple: one with the same ends, not longer, that meets no vertex twice
  pub simple : (a : ℕ) (l : List ℕ) → Walk E a l
      → (k : List ℕ) × Walk E a k × (last a k ≡ last a l) × (length k ≤ length l) × Distinct (a ∷ k)
  simple a [] w = ([], tt, refl, omega arith, (λ m. m, tt))
  simple a (b ∷ l) w = go (simple b l w.1)
    where
      Simple : ℕ → List ℕ → Type 0
      Simple x l = (k : List ℕ) × Walk E x k × (last x k ≡ last x l) × (length k ≤ length l) × Distinct (x ∷ k)

      cut : (r : Simple b l) → Dec (Mem a (b ∷ r.0)) → Simple a (b ∷ l)
      cut r (no m) = let h : length r.0 ≤ length l = r.3 in (b ∷ r.0, (w.0, r.1), r.2, omega arith, (m, r.4))
      cut r (yes m) =
          let c = mem_split a (b ∷ r.0) m in
          let s = c.0 in
          let t = c.1 in
          let e : b ∷ r.0 ≡ s ++ a ∷ t = c.2 in
          let v : Walk E a (b ∷ r.0) = (w.0, r.1) in
          let d : Distinct (s ++ a ∷ t) = subst (λ (q : List ℕ). Distinct q) e r.4 in
          let f : last b r.0 ≡ last (last a s) (a ∷ t) = ap (λ (q : List ℕ). last a q) e ∙ last-append a s (a ∷ t) in
          let n : suc (length r.0) ≡ length (s ++ a ∷ t) = ap (λ (q : List ℕ). length q) e in
          let h : length r.0 ≤ length l = r.3 in (
            t,
            (walk_right E a s (a ∷ t) (subst (λ (q : List ℕ). Walk E a q) e v)).1,
            sym f ∙ r.2,
            omega (arith, length-append s (a ∷ t)),
            distinct_right s (a ∷ t) d,
          )

      go : Simple b l → Simple a (b ∷ l)
      go r = cut r (mem? a (b ∷ r.0))

module _ (E : ℕ → ℕ → Type 0) where
  -- a route that avoids u is a route of the graph without the links at u, and back
  pub avoiding : (u a : ℕ) (l : List ℕ) (b : ℕ) → Route E a l b → Avoids u a l → Route (Without u E) a l b
  avoiding u a l b r h = (walk_map E (Without u E) a l (λ x y s e. (e, (h x y s).0, (h x y s).1)) r.0, r.1)

  pub avoided : (u a : ℕ) (l : List ℕ) (b : ℕ) → Route (Without u E) a l b → Route E a l b × Avoids u a l
  avoided u a l b r = (
    (walk_map (Without u E) E a l (λ x y s e. e.0) r.0, r.1),
    λ x y s. let h = walk_step (Without u E) a l r.0 x y s in (h.1, h.2),
  )

  -- a walk that meets no u connects its start with each of its vertices, without the links at u
  connected-along : (u a : ℕ) (l : List ℕ) → Walk E a l → (Mem u (a ∷ l) → ⊥) → (z : ℕ) → Mem z (a ∷ l) →
      Connected (Without u E) a z
  connected-along u a [] w h z (inl e) = ([], (tt, sym e))
  connected-along u a [] w h z (inr m) = absurd m
  connected-along u a (b ∷ l) w h z (inl e) = ([], (tt, sym e))
  connected-along u a (b ∷ l) w h z (inr m) =
      let k = connected-along u b l w.1 (λ x. h (inr x)) z m in
      (b ∷ k.0, (((w.0, λ e. h (inl e), λ e. h (inr (inl e))), k.1.0), k.1.1))

module _ {E : ℕ → ℕ → Type 0} (G : Graph E) where
  -- two vertices of a ring, other than u of it: the rest of the ring connects them
  pub ring-around : {r : List ℕ} → Ring E r → (u a b : ℕ) → Mem u r → Mem a r → Mem b r → u ≢ a → u ≢ b
      → Connected (Without u E) a b
  ring-around {r} R u a b mu ma mb na nb = go (mem_split u r mu)
    where
      flipped : (v w : ℕ) → Without u E v w → Without u E w v
      flipped v w h = (G.flip v w h.0, h.2, h.1)

      round : (l : List ℕ) → Walk E u l → (Mem u l → ⊥) → Mem a l → Mem b l → Connected (Without u E) a b
      round [] w h m k = absurd m
      round (c ∷ l) w h m k =
          let to : (z : ℕ) → Mem z (c ∷ l) → Connected (Without u E) c z = connected-along E u c l w.1 h in
          connected_trans (Without u E) a c b (connected_sym (Without u E) flipped c a (to a m)) (to b k)

      other : (s t : List ℕ) (z : ℕ) → u ≢ z → Mem z (s ++ u ∷ t) → Mem z (t ++ s)
      other s t z n m = cases (mem_cases z s (u ∷ t) m)
        where
          cases : Mem z s ⊎ Mem z (u ∷ t) → Mem z (t ++ s)
          cases (inl h) = mem_right z t s h
          cases (inr (inl e)) = absurd (n (sym e))
          cases (inr (inr h)) = mem_left z t s h

      go : (s : List ℕ) × (t : List ℕ) × (r ≡ s ++ u ∷ t) → Connected (Without u E) a b
      go k =
          let s = k.0 in
          let t = k.1 in
          let e : r ≡ s ++ u ∷ t = k.2 in
          let w : Walk E (last_of (s ++ u ∷ t)) (s ++ u ∷ t) = rw e at (ring-closed R) in
          let d : Distinct (s ++ u ∷ t) = rw e at R.different in
          let before : Walk E (last u t) s =
          rw (last_of_split s u t) at (walk_left E (last_of (s ++ u ∷ t)) s (u ∷ t) w) in
          let after : Walk E u t = (walk_right E (last_of (s ++ u ∷ t)) s (u ∷ t) w).1 in
          round (t ++ s) (walk_join E u t s after before) (distinct_swap s (u ∷ t) d).0 (other s t a na (rw e at ma))
          (other s t b nb (rw e at mb))
