-- Laws on walks: joined, parted, turned back; and the closed form of a ring.
use Rattle.std.specs.Prelude.{◌≡◌, refl, ◌⊎◌, ◌↔◌, ℕ, ◌≤◌, length}
use Rattle.std.proofs.Common.{inl, inr, arith, subst, sym}
use mathlib.Core.List.{List, [], ◌∷◌, ◌++◌, reverse, reverse-cons}
use Rattle.base_lists.specs.Members.{Mem, Distinct}
use Rattle.theory_graph.specs.Rings.{last, Walk, Step, last_of, Ring, Follows, Holds}

pub last-append : (a : ℕ) (s t : List ℕ) → last a (s ++ t) ≡ last (last a s) t
last-append a [] t = refl
last-append a (b ∷ s) t = last-append b s t

pub last_mem : (a : ℕ) (l : List ℕ) → Mem (last a l) (a ∷ l)
last_mem a [] = inl refl
last_mem a (b ∷ l) = inr (last_mem b l)

module _ (E : ℕ → ℕ → Type 0) where
  pub walk_join : (a : ℕ) (s t : List ℕ) → Walk E a s → Walk E (last a s) t → Walk E a (s ++ t)
  walk_join a [] t ws wt = wt
  walk_join a (b ∷ s) t ws wt = (ws.0, walk_join b s t ws.1 wt)

  pub walk_left : (a : ℕ) (s t : List ℕ) → Walk E a (s ++ t) → Walk E a s
  walk_left a [] t w = tt
  walk_left a (b ∷ s) t w = (w.0, walk_left b s t w.1)

  pub walk_right : (a : ℕ) (s t : List ℕ) → Walk E a (s ++ t) → Walk E (last a s) t
  walk_right a [] t w = w
  walk_right a (b ∷ s) t w = walk_right b s t w.1

  -- a walk backwards: from s to t, where it went from t through the list to s
  pub walk_back : ((u v : ℕ) → E u v → E v u) → (t : ℕ) (l : List ℕ) (s : ℕ) → Walk E t (l ++ s ∷ []) →
      Walk E s (reverse l ++ t ∷ [])
  walk_back flip t [] s w = (flip t s w.0, tt)
  walk_back flip t (c ∷ l) s w =
      let h = walk_back flip c l s w.1 in
      rw (reverse-cons c l) (walk_join s (reverse l ++ c ∷ []) (t ∷ []) h
      (rw (last-append s (reverse l) (c ∷ [])) (flip t c w.0, tt)))

  -- each step of a walk is a link
  pub walk_step : (a : ℕ) (l : List ℕ) → Walk E a l → (u v : ℕ) → Step a l u v → E u v
  walk_step a [] w u v h = absurd h
  walk_step a (b ∷ l) w u v (inl (e, f)) = rw (e, f) w.0
  walk_step a (b ∷ l) w u v (inr h) = walk_step b l w.1 u v h

pub walk_map : (E F : ℕ → ℕ → Type 0) (a : ℕ) (l : List ℕ) → ((u v : ℕ) → Step a l u v → E u v → F u v) → Walk E a l →
    Walk F a l
walk_map E F a [] f w = tt
walk_map E F a (b ∷ l) f w = (f a b (inl (refl, refl)) w.0, walk_map E F b l (λ u v h. f u v (inr h)) w.1)

pub step_left : (a : ℕ) (s t : List ℕ) (u v : ℕ) → Step a s u v → Step a (s ++ t) u v
step_left a [] t u v h = absurd h
step_left a (b ∷ s) t u v (inl h) = inl h
step_left a (b ∷ s) t u v (inr h) = inr (step_left b s t u v h)

pub step_right : (a : ℕ) (s t : List ℕ) (u v : ℕ) → Step (last a s) t u v → Step a (s ++ t) u v
step_right a [] t u v h = h
step_right a (b ∷ s) t u v h = inr (step_right b s t u v h)

pub step-cases : (a : ℕ) (s t : List ℕ) (u v : ℕ) → Step a (s ++ t) u v → Step a s u v ⊎ Step (last a s) t u v
step-cases a [] t u v h = inr h
step-cases a (b ∷ s) t u v (inl h) = inl (inl h)
step-cases a (b ∷ s) t u v (inr h) = go (step-cases b s t u v h)
  where
    go : Step b s u v ⊎ Step (last b s) t u v → Step a (b ∷ s) u v ⊎ Step (last b s) t u v
    go (inl k) = inl (inr k)
    go (inr k) = inr k

-- a step's ends stand on the walk, the second past the start
step_from : (a : ℕ) (l : List ℕ) (u v : ℕ) → Step a l u v → Mem u (a ∷ l)
step_from a [] u v h = absurd h
step_from a (b ∷ l) u v (inl h) = inl h.0
step_from a (b ∷ l) u v (inr h) = inr (step_from b l u v h)

step-to : (a : ℕ) (l : List ℕ) (u v : ℕ) → Step a l u v → Mem v l
step-to a [] u v h = absurd h
step-to a (b ∷ l) u v (inl h) = inl h.1
step-to a (b ∷ l) u v (inr h) = inr (step-to b l u v h)

pub step_back : (t : ℕ) (l : List ℕ) (s u v : ℕ) → Step t (l ++ s ∷ []) u v → Step s (reverse l ++ t ∷ []) v u
step_back t [] s u v (inl h) = inl (h.1, h.0)
step_back t [] s u v (inr h) = absurd h
step_back t (c ∷ l) s u v (inl h) =
    rw (reverse-cons c l) (step_right s (reverse l ++ c ∷ []) (t ∷ []) v u
    (rw (last-append s (reverse l) (c ∷ [])) (inl (h.1, h.0))))
step_back t (c ∷ l) s u v (inr h) = rw (reverse-cons c l)
    (step_left s (reverse l ++ c ∷ []) (t ∷ []) v u (step_back c l s u v h))

-- the step into b, where b stands once on the list: it comes from the vertex before
pub step-into : (a : ℕ) (s : List ℕ) (b : ℕ) (t : List ℕ) (u : ℕ) → (Mem b s → ⊥) → (Mem b t → ⊥) →
    Step a (s ++ b ∷ t) u b → u ≡ last a s
step-into a s b t u hs ht h = go (step-cases a s (b ∷ t) u b h)
  where
    go : Step a s u b ⊎ Step (last a s) (b ∷ t) u b → u ≡ last a s
    go (inl k) = absurd (hs (step-to a s u b k))
    go (inr (inl k)) = k.0
    go (inr (inr k)) = absurd (ht (step-to b t u b k))

-- A ring as a closed walk: from its last vertex through the whole list.
module _ {E : ℕ → ℕ → Type 0} where
  pub ring-closed : {r : List ℕ} → Ring E r → Walk E (last_of r) r
  ring-closed {r = []} R = tt
  ring-closed {r = a ∷ l} R = (R.closed, R.linked)

  pub closed-ring : (r : List ℕ) → 3 ≤ length r → Distinct r → Walk E (last_of r) r → Ring E r
  closed-ring [] h d w = absurd (omega arith)
  closed-ring (a ∷ l) h d w = record { three = h; different = d; linked = w.1; closed = w.0 }

pub follows-step : (r : List ℕ) (u v : ℕ) → Follows r u v → Step (last_of r) r u v
follows-step [] u v h = h
follows-step (a ∷ l) u v (inl h) = inr h
follows-step (a ∷ l) u v (inr h) = inl h

pub step_follows : (r : List ℕ) (u v : ℕ) → Step (last_of r) r u v → Follows r u v
step_follows [] u v h = h
step_follows (a ∷ l) u v (inl h) = inr h
step_follows (a ∷ l) u v (inr h) = inl h

pub ring_as_closed : (E : ℕ → ℕ → Type 0) (r : List ℕ) → Ring E r ↔ ((3 ≤ length r) × Distinct r × Walk E (last_of r) r)
ring_as_closed E r = (λ R. (R.three, R.different, ring-closed R), λ h. closed-ring r h.0 h.1 h.2)

pub follows_as_step : (r : List ℕ) (u v : ℕ) → Follows r u v ↔ Step (last_of r) r u v
follows_as_step r u v = (follows-step r u v, step_follows r u v)

pub last_of_split : (s : List ℕ) (u : ℕ) (t : List ℕ) → last_of (s ++ u ∷ t) ≡ last u t
last_of_split [] u t = refl
last_of_split (a ∷ s) u t = last-append a s (u ∷ t)

pub follows-from : (r : List ℕ) (u v : ℕ) → Follows r u v → Mem u r
follows-from [] u v h = h
follows-from (a ∷ l) u v (inl h) = step_from a l u v h
follows-from (a ∷ l) u v (inr h) = subst (λ (z : ℕ). Mem z (a ∷ l)) (sym h.0) (last_mem a l)

pub follows_to : (r : List ℕ) (u v : ℕ) → Follows r u v → Mem v r
follows_to r u v h = step-to (last_of r) r u v (follows-step r u v h)

pub holds-first : (r : List ℕ) (u v : ℕ) → Holds r u v → Mem u r
holds-first r u v (inl h) = follows-from r u v h
holds-first r u v (inr h) = follows_to r v u h

pub holds-second : (r : List ℕ) (u v : ℕ) → Holds r u v → Mem v r
holds-second r u v (inl h) = follows_to r u v h
holds-second r u v (inr h) = follows-from r v u h

pub holds-flip : (r : List ℕ) (u v : ℕ) → Holds r u v → Holds r v u
holds-flip r u v (inl h) = inr h
holds-flip r u v (inr h) = inl h
