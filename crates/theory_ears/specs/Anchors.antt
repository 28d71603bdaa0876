-- Why no ring is missed: where each vertex off the order is tied to one vertex of it, and no link leads from what is
-- tied to one to what is tied to another, a ring through a link of the order stays on the order.
use Rattle.std.specs.Prelude.{◌≡◌, refl, ◌⊎◌, ◌≢◌, Bool, true, false, List, [], ◌∷◌, ◌++◌, ℕ, suc, ◌+◌}
use Rattle.std.proofs.Common.{sym, ap, subst, ◌∙◌, inl, inr, true≢false, arith}
use Rattle.std.proofs.Math.Decide.{ℕ_discrete}
use Rattle.base_lists.specs.Members.{Mem, mem?}
use Rattle.base_lists.specs.Tests.{either, not_both}
use Rattle.theory_graph.specs.Rings.{Graph, last, Walk, last_of, Ring, Holds, Connected}
use Rattle.theory_graph.specs.Walks.{holds-first, holds-second}
use Rattle.theory_graph.specs.Routes.{Without, connected_trans, connected_sym, ring-around}
use Rattle.theory_graph.proofs.Together.{ends-apart, ring-link}

-- a walk that meets no u connects its start with each of its vertices
reaches : (E : ℕ → ℕ → Type 0) (u a : ℕ) (l : List ℕ) → Walk E a l → (Mem u (a ∷ l) → ⊥) → (z : ℕ) → Mem z (a ∷ l) →
    Connected (Without u E) a z
reaches E u a [] w h z (inl e) = ([], (tt, sym e))
reaches E u a [] w h z (inr m) = absurd m
reaches E u a (b ∷ l) w h z (inl e) = ([], (tt, sym e))
reaches E u a (b ∷ l) w h z (inr m) =
    let k = reaches E u b l w.1 (λ x. h (inr x)) z m in
    (b ∷ k.0, (((w.0, λ e. h (inl e), λ e. h (inr (inl e))), k.1.0), k.1.1))

module _ {E : ℕ → ℕ → Type 0} (G : Graph E) where
  -- two vertices of a ring other than u are connected without u, whether or not the ring has u
  pub ring-beside : {r : List ℕ} → Ring E r → (u a b : ℕ) → Mem a r → Mem b r → u ≢ a → u ≢ b →
      Connected (Without u E) a b
  ring-beside {r} R u a b ma mb na nb = go (mem? u r)
    where
      flipped : (v w : ℕ) → Without u E v w → Without u E w v
      flipped v w h = (G.flip v w h.0, h.2, h.1)

      off : (q : List ℕ) → Ring E q → (Mem u q → ⊥) → Mem a q → Mem b q → Connected (Without u E) a b
      off [] Q n x y = absurd x
      off (c ∷ l) Q n x y =
          let to : (z : ℕ) → Mem z (c ∷ l) → Connected (Without u E) c z = reaches E u c l Q.linked n in
          connected_trans (Without u E) a c b (connected_sym (Without u E) flipped c a (to a x)) (to b y)

      go : Dec (Mem u r) → Connected (Without u E) a b
      go (yes m) = ring-around G R u a b m ma mb na nb
      go (no n) = off r R n ma mb

-- anchor: the vertex of the order that v is tied to, itself where v is on it. Known: what is tied to some vertex.
pub record Shut (E : ℕ → ℕ → Type 0) (Known : ℕ → Type 0) (on : ℕ → Bool) (anchor : ℕ → ℕ) : Type 0 where
  pub spreads : (u v : ℕ) → Known u → E u v → Known v
  pub loose : (v : ℕ) → Known v → on v ≡ false → anchor v ≢ v
  pub own : (v : ℕ) → Known v → on v ≡ true → anchor v ≡ v
  pub within : (u v : ℕ) → Known u → E u v → (anchor u ≡ anchor v) ⊎ ((on u ≡ true) × (on v ≡ true))

module _ {E : ℕ → ℕ → Type 0} (G : Graph E) {Known : ℕ → Type 0} {on : ℕ → Bool} {anchor : ℕ →
    ℕ} (S : Shut E Known on anchor) where
  known-along : (u : ℕ) {v w : ℕ} → Known v → Connected (Without u E) v w → Known w
  known-along u {v} {w} k (l, r) = go v l k r.0 r.1
    where
      go : (x : ℕ) (t : List ℕ) → Known x → Walk (Without u E) x t → last x t ≡ w → Known w
      go x [] k s e = subst Known e k
      go x (y ∷ t) k s e = go y t (S.spreads x y k s.0.0) s.1 e

  -- what is tied to x off the order stays so along a route without x
  tied_along : (x : ℕ) {v w : ℕ} → Known v → on v ≡ false → anchor v ≡ x → Connected (Without x E) v w → on w ≡ false
  tied_along x {v} {w} k o a (l, r) = go v l k o a r.0 r.1
    where
      go : (y : ℕ) (t : List ℕ) → Known y → on y ≡ false → anchor y ≡ x → Walk (Without x E) y t → last y t ≡ w →
          on w ≡ false
      go y [] k o a s e = subst (λ (z : ℕ). on z ≡ false) e o
      go y (z ∷ t) k o a s e = next (S.within y z k s.0.0) (either (on z)) (go z t)
        where
          kz : Known z
          kz = S.spreads y z k s.0.0

          next : (anchor y ≡ anchor z) ⊎ ((on y ≡ true) × (on z ≡ true)) → (on z ≡ true) ⊎ (on z ≡ false)
              → (Known z → on z ≡ false → anchor z ≡ x → Walk (Without x E) z t → last z t ≡ w → on w ≡ false) →
              on w ≡ false
          next (inr q) p f = absurd (not_both (on y) q.0 o)
          next (inl q) (inl p) f = absurd (s.0.2 (sym a ∙ q ∙ S.own z kz p))
          next (inl q) (inr p) f = f kz p (sym q ∙ a) s.1 e

  pub ring-stays : {r : List ℕ} → Ring E r → (a b : ℕ) → Known a → on a ≡ true → on b ≡ true → Holds r a b → (z : ℕ) →
      Mem z r → on z ≡ true
  ring-stays {r} R a b ka oa ob h z mz = go (either (on z))
    where
      ma : Mem a r
      ma = holds-first r a b h

      mb : Mem b r
      mb = holds-second r a b h

      kz : Known z
      kz = known-along (suc (a + z)) ka (ring-beside G R (suc (a + z)) a z ma mz (λ e. omega arith) (λ e. omega arith))

      never : (y : ℕ) → Mem y r → on y ≡ true → anchor z ≢ y → on z ≡ false → ⊥
      never y my oy n o = not_both (on y) oy
          (tied_along (anchor z) kz o refl (ring-beside G R (anchor z) z y mz my (S.loose z kz o) n))

      go : (on z ≡ true) ⊎ (on z ≡ false) → on z ≡ true
      go (inl o) = o
      go (inr o) = pick (ℕ_discrete (anchor z) a)
        where
          pick : Dec (anchor z ≡ a) → on z ≡ true
          pick (no n) = absurd (never a ma oa n o)
          pick (yes e) = absurd (never b mb ob (λ q. ends-apart G a b (ring-link G R a b h) (sym e ∙ q)) o)
