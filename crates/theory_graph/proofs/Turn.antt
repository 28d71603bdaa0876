-- A ring turned so that a given link of it is the one from the last vertex to the first.
use Rattle.std.specs.Prelude.{◌≡◌, refl, Bool, true, false, cond, List, ◌∷◌, ◌++◌, ℕ, ◌≤◌, eqb, length}
use Rattle.std.proofs.Common.{sym, ap, subst, ◌∙◌, inl, inr, arith, length-append, eqb-true, eq-eqb}
use Rattle.std.proofs.lemmas.Bool.{eqb-false}
use Rattle.base_lists.specs.Members.{Mem, Distinct, mem_left, mem_swap, distinct_swap, distinct_apart}
use Rattle.base_lists.specs.Parts.{before, after, first_on, first-split, first_on_lem, any_of}
use Rattle.theory_graph.specs.Rings.{last, Walk, Step, last_of, first_of, Ring, Follows, Holds, SameLink}
use Rattle.theory_graph.specs.Walks.{last-append, last_of_split, walk_join, walk_left, walk_right, ring-closed}
use Rattle.theory_graph.specs.Walks.{follows-step, step-into, holds-first, holds-second}

-- the ring read from b on
abbrev rotate : ℕ → List ℕ → List ℕ
rotate b r = b ∷ (after (λ z. eqb z b) r ++ before (λ z. eqb z b) r)

-- the ring read so that the link (a, b), in one of its two orders, leads from the last vertex to the first
abbrev pub turn : ℕ → ℕ → List ℕ → List ℕ
turn a b r = cond (eqb (last_of (rotate b r)) a) (rotate b r) (rotate a r)

rotate-split : (b : ℕ) (r : List ℕ) → Mem b r → r ≡ before (λ z. eqb z b) r ++ b ∷ after (λ z. eqb z b) r
rotate-split b r m =
    let h = any_of (λ z. eqb z b) b r m (eq-eqb b b refl) in
    let e : first_on (λ z. eqb z b) r ≡ b = eqb-true (first_on (λ z. eqb z b) r) b (first_on_lem (λ z. eqb z b) r h) in
    rw e at (first-split (λ z. eqb z b) r h)

rotate_mem : (b : ℕ) (r : List ℕ) → Mem b r → (z : ℕ) → Mem z r → Mem z (rotate b r)
rotate_mem b r m z h =
    mem_swap z (before (λ z. eqb z b) r) (b ∷ after (λ z. eqb z b) r)
    (subst (λ (l : List ℕ). Mem z l) (rotate-split b r m) h)

module _ {E : ℕ → ℕ → Type 0} {r : List ℕ} (R : Ring E r) where
  rotate-ring : (b : ℕ) → Mem b r → Ring E (rotate b r)
  rotate-ring b m = go (before (λ z. eqb z b) r) (after (λ z. eqb z b) r) (rotate-split b r m)
    where
      go : (s t : List ℕ) → r ≡ s ++ b ∷ t → Ring E (b ∷ (t ++ s))
      go s t e =
          let w : Walk E (last_of (s ++ b ∷ t)) (s ++ b ∷ t) =
          subst (λ (l : List ℕ). Walk E (last_of l) l) e (ring-closed R) in
          let v : Walk E (last b t) (s ++ b ∷ t) = rw last_of_split at w in
          let n : length r ≡ length (s ++ b ∷ t) = ap length e in
          let h : 3 ≤ length r = R.three in
          let k = walk_right E (last b t) s (b ∷ t) v in
          record {
            three = omega (arith, length-append s (b ∷ t), length-append t s);
            different = distinct_swap s (b ∷ t) (subst (λ (l : List ℕ). Distinct l) e R.different);
            linked = walk_join E b t s k.1 (walk_left E (last b t) s (b ∷ t) v);
            closed = rw (last-append b t s) k.0;
          }

  -- the vertex that b follows is the last, read from b on
  rotate-last : (a b : ℕ) → Follows r a b → Mem b r → last_of (rotate b r) ≡ a
  rotate-last a b h m = go (before (λ z. eqb z b) r) (after (λ z. eqb z b) r) (rotate-split b r m)
    where
      go : (s t : List ℕ) → r ≡ s ++ b ∷ t → last b (t ++ s) ≡ a
      go s t e =
          let k : Step (last_of (s ++ b ∷ t)) (s ++ b ∷ t) a b =
          subst (λ (l : List ℕ). Step (last_of l) l a b) e (follows-step r a b h) in
          let j : Step (last b t) (s ++ b ∷ t) a b = rw last_of_split at k in
          let d : Distinct (s ++ b ∷ t) = subst (λ (l : List ℕ). Distinct l) e R.different in
          let f = step-into (last b t) s b t a (λ x. distinct_apart s (b ∷ t) d b x (inl refl))
          (λ x. (distinct_swap s (b ∷ t) d).0 (mem_left b t s x)) j in
          last-append b t s ∙ sym f

  pub turn-ring : (a b : ℕ) → Holds r a b → Ring E (turn a b r)
  turn-ring a b h = go (eqb (last_of (rotate b r)) a)
    where
      go : (t : Bool) → Ring E (cond t (rotate b r) (rotate a r))
      go true = rotate-ring b (holds-second r a b h)
      go false = rotate-ring a (holds-first r a b h)

  pub turn_mem : (a b : ℕ) → Holds r a b → (z : ℕ) → Mem z r → Mem z (turn a b r)
  turn_mem a b h z m = go (eqb (last_of (rotate b r)) a)
    where
      go : (t : Bool) → Mem z (cond t (rotate b r) (rotate a r))
      go true = rotate_mem b r (holds-second r a b h) z m
      go false = rotate_mem a r (holds-first r a b h) z m

  pub turn-link : (a b : ℕ) → Holds r a b → SameLink a b (last_of (turn a b r)) (first_of (turn a b r))
  turn-link a b h = go (eqb (last_of (rotate b r)) a) refl h
    where
      go : (t : Bool) → eqb (last_of (rotate b r)) a ≡ t → Holds r a b
          → SameLink a b (last_of (cond t (rotate b r) (rotate a r))) (first_of (cond t (rotate b r) (rotate a r)))
      go true e k = inl (sym (eqb-true (last_of (rotate b r)) a e), refl)
      go false e (inl k) = absurd (eqb-false (last_of (rotate b r)) a e (rotate-last a b k (holds-second r a b h)))
      go false e (inr k) = inr (refl, sym (rotate-last b a k (holds-first r a b h)))
