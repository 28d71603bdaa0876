-- Links on one ring: 'the same link, or on a common ring' is an equivalence, and grows with the links.
use Rattle.std.specs.Prelude.{◌≡◌, ◌⊎◌, ◌≢◌, List, [], ◌∷◌, ℕ}
use Rattle.std.proofs.Common.{sym, subst, subst₂, ◌∙◌, inl, inr}
use Rattle.std.proofs.Math.Decide.{ℕ_discrete}
use Rattle.base_lists.specs.Members.{Mem}
use Rattle.theory_graph.specs.Rings.{Graph, last_of, Ring, Holds, OnRing, SameLink}
use Rattle.theory_graph.specs.Walks.{walk_step, walk_map, ring-closed, follows-step, holds-first, holds-second}
use Rattle.theory_graph.specs.Walks.{holds-flip}
use Rattle.theory_graph.proofs.Turn.{turn, turn-ring, turn_mem, turn-link}
use Rattle.theory_graph.proofs.Splice.{splice, splice-ring}

pub ends-apart : {E : ℕ → ℕ → Type 0} → Graph E → (u v : ℕ) → E u v → u ≢ v
ends-apart {E} G u v l e = G.loopless v (subst (λ (z : ℕ). E z v) e l)

-- one link, or two on a common ring
abbrev pub Together : (ℕ → ℕ → Type 0) → ℕ → ℕ → ℕ → ℕ → Type 0
Together E u v x y = SameLink u v x y ⊎ OnRing E u v x y

same? : (u v x y : ℕ) → Dec (SameLink u v x y)
same? u v x y = go (ℕ_discrete u x) (ℕ_discrete v y) (ℕ_discrete u y) (ℕ_discrete v x)
  where
    go : Dec (u ≡ x) → Dec (v ≡ y) → Dec (u ≡ y) → Dec (v ≡ x) → Dec (SameLink u v x y)
    go (yes a) (yes b) c d = yes (inl (a, b))
    go (no a) b (yes c) (yes d) = yes (inr (c, d))
    go (yes a) (no b) (yes c) (yes d) = yes (inr (c, d))
    go (no a) b (no c) d = no (elim [ inl h ↦ a h.0 | inr h ↦ c h.0 ])
    go (no a) b (yes c) (no d) = no (elim [ inl h ↦ a h.0 | inr h ↦ d h.1 ])
    go (yes a) (no b) (no c) d = no (elim [ inl h ↦ b h.1 | inr h ↦ c h.0 ])
    go (yes a) (no b) (yes c) (no d) = no (elim [ inl h ↦ b h.1 | inr h ↦ d h.1 ])

pub same-flip : {u v x y : ℕ} → SameLink u v x y → SameLink x y u v
same-flip (inl h) = inl (sym h.0, sym h.1)
same-flip (inr h) = inr (sym h.1, sym h.0)

pub same_trans : {u v x y a b : ℕ} → SameLink u v x y → SameLink x y a b → SameLink u v a b
same_trans (inl h) (inl k) = inl (h.0 ∙ k.0, h.1 ∙ k.1)
same_trans (inl h) (inr k) = inr (h.0 ∙ k.0, h.1 ∙ k.1)
same_trans (inr h) (inl k) = inr (h.0 ∙ k.1, h.1 ∙ k.0)
same_trans (inr h) (inr k) = inl (h.0 ∙ k.1, h.1 ∙ k.0)

-- what holds a link holds it under both of its names
pub holds_same : (r : List ℕ) {u v x y : ℕ} → SameLink u v x y → Holds r u v → Holds r x y
holds_same r (inl e) h = subst₂ (λ (a b : ℕ). Holds r a b) e.0 e.1 h
holds_same r {u} {v} (inr e) h = subst₂ (λ (a b : ℕ). Holds r a b) e.1 e.0 (holds-flip r u v h)

pub ring-link : {E : ℕ → ℕ → Type 0} → Graph E → {r : List ℕ} → Ring E r → (u v : ℕ) → Holds r u v → E u v
ring-link {E} G {r} R u v (inl h) = walk_step E (last_of r) r (ring-closed R) u v (follows-step r u v h)
ring-link {E} G {r} R u v (inr h) = G.flip v u (walk_step E (last_of r) r (ring-closed R) v u (follows-step r v u h))

-- more links, more rings
module _ (E F : ℕ → ℕ → Type 0) (more : (u v : ℕ) → E u v → F u v) where
  pub ring-more : (r : List ℕ) → Ring E r → Ring F r
  ring-more [] R = record { three = R.three; different = R.different; linked = tt; closed = more 0 0 R.closed }
  ring-more (a ∷ l) R =
      let linked = walk_map E F a l (λ u v s. more u v) R.linked in
      record {
        three = R.three;
        different = R.different;
        linked = linked;
        closed = more (last_of (a ∷ l)) a R.closed;
      }

  pub on_ring_more : (u v x y : ℕ) → OnRing E u v x y → OnRing F u v x y
  on_ring_more u v x y (r, R, h, k) = (r, ring-more r R, h, k)

-- the ring through (a, b) of r and (u, v) of q
abbrev pub through : ℕ → ℕ → List ℕ → ℕ → ℕ → List ℕ → List ℕ
through a b r u v q = splice (turn a b r) (turn u v q)

module _ {E : ℕ → ℕ → Type 0} (G : Graph E) where
  -- two rings with a common link
  through-ring : {r q : List ℕ} → Ring E r → Ring E q → (a b c d u v : ℕ) → Holds r a b → Holds r c d → Holds q c d →
      Holds q u v
      → (SameLink a b u v → ⊥) → Ring E (through a b r u v q) × Holds (through a b r u v q) a b
      × Holds (through a b r u v q) u v
  through-ring {r} {q} R Q a b c d u v ha hc kc ku other =
      let er = turn-link R a b ha in
      let eq = turn-link Q u v ku in
      let apart = ends-apart G c d (ring-link G R c d hc) in
      let on-r : (z : ℕ) → Mem z r → Mem z (turn a b r) = turn_mem R a b ha in
      let on-q : (z : ℕ) → Mem z q → Mem z (turn u v q) = turn_mem Q u v ku in
      let s =
      splice-ring G (turn-ring R a b ha) (turn-ring Q u v ku) c d apart
      (on-r c (holds-first r c d hc)) (on-q c (holds-first q c d kc)) (on-r d (holds-second r c d hc))
      (on-q d (holds-second q c d kc))
      (λ e. other (same_trans er (same_trans e (same-flip eq)))) in (
        s.0,
        holds_same (through a b r u v q) (same-flip er) s.1,
        holds_same (through a b r u v q) (same-flip eq) s.2,
      )

  pub together_trans : (a b c d u v : ℕ) → Together E a b c d → Together E c d u v → Together E a b u v
  together_trans a b c d u v (inl h) (inl k) = inl (same_trans h k)
  together_trans a b c d u v (inl h) (inr (q, Q, kc, ku)) = inr (q, Q, holds_same q (same-flip h) kc, ku)
  together_trans a b c d u v (inr (r, R, ha, hc)) (inl k) = inr (r, R, ha, holds_same r k hc)
  together_trans a b c d u v (inr (r, R, ha, hc)) (inr (q, Q, kc, ku)) = go (same? a b u v)
    where
      go : Dec (SameLink a b u v) → Together E a b u v
      go (yes h) = inl h
      go (no h) = let t = through-ring R Q a b c d u v ha hc kc ku h in inr (through a b r u v q, t.0, t.1, t.2)

pub together-flip : (E : ℕ → ℕ → Type 0) (u v x y : ℕ) → Together E u v x y → Together E x y u v
together-flip E u v x y (inl h) = inl (same-flip h)
together-flip E u v x y (inr (r, R, h, k)) = inr (r, R, k, h)
