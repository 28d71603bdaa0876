-- An order of some vertices from a to b, linked, in which each other one has a linked vertex before it and one after it
-- (an st-order of what is on it). Two monotone walks then give a ring through (a, b) and any other link between two of
-- them.
use Rattle.std.specs.Prelude.{◌≡◌, refl, ◌⊎◌, ◌≢◌, Bool, true, cond, length}
use Rattle.std.proofs.Common.{sym, subst, ◌∙◌, inl, eqb-true, eq-eqb}
use Rattle.std.proofs.Math.Path.{ap}
use Rattle.std.proofs.Math.Logic.{inr}
use Rattle.std.proofs.Math.Bool.{false}
use mathlib.Core.List.{List, [], ◌∷◌, ◌++◌, reverse, reverse-cons}
use Prim.Native.Nat.{ℕ, zero, suc, ◌+◌, ◌-◌, ◌≤◌, ◌<◌}
use Rattle.std.proofs.Math.Decide.{ℕ_discrete}
use native.Mathlib.Omega.{arith}
use Rattle.std.proofs.Math.Dec.{eqb}
use Rattle.std.proofs.Math.ListN.{length-append}
use Rattle.std.proofs.lemmas.Bool.{eqb-false}
use Rattle.base_lists.specs.Members.{Mem, Distinct, Disjoint, mem_left, mem_right, mem_cases, mem_reverse}
use Rattle.base_lists.specs.Members.{distinct_join, distinct_reverse}
use Rattle.base_lists.specs.Tests.{either}
use Rattle.theory_graph.specs.Rings.{Graph, last, Walk, Step, last_of, Ring, Follows, Holds}
use Rattle.theory_graph.specs.Walks.{last-append, walk_join, walk_left, walk_right, walk_back, closed-ring, step_right}
use Rattle.theory_graph.specs.Walks.{step_follows}

-- the first of v, next v, .. that passes the test, after at most k steps; and those before it
abbrev pub ended : (ℕ → ℕ) → (ℕ → Bool) → ℕ → ℕ → ℕ
ended next stop zero v = v
ended next stop (suc k) v = let later = ended next stop k (next v) in cond (stop v) v later

abbrev pub chain : (ℕ → ℕ) → (ℕ → Bool) → ℕ → ℕ → List ℕ
chain next stop zero v = []
chain next stop (suc k) v = let later = chain next stop k (next v) in cond (stop v) [] (v ∷ later)

-- each step from a vertex of On that does not pass leads over a link to one of On, with less of h
pub record Falls (E : ℕ → ℕ → Type 0) (On : ℕ → Type 0) (h next : ℕ → ℕ) (stop : ℕ → Bool) : Type 0 where
  pub stays : (v : ℕ) → On v → stop v ≡ false → On (next v)
  pub linked : (v : ℕ) → On v → stop v ≡ false → E v (next v)
  pub less : (v : ℕ) → On v → stop v ≡ false → h (next v) < h v

-- what such a chain l from v to e is
pub record Chain (E : ℕ → ℕ → Type 0) (On : ℕ → Type 0) (h : ℕ → ℕ) (stop : ℕ →
    Bool) (v e : ℕ) (l : List ℕ) : Type 0 where
  pub ends : stop e ≡ true
  pub arrives : On e
  pub way : ((v ≡ e) × (l ≡ [])) ⊎ ((t : List ℕ) × (l ≡ v ∷ t) × Walk E v (t ++ e ∷ []))
  pub members : (z : ℕ) → Mem z l → On z × (h z ≤ h v) × (stop z ≡ false)
  pub different : Distinct l

module _ {E : ℕ → ℕ → Type 0} {On : ℕ → Type 0} {h next : ℕ → ℕ} {stop : ℕ → Bool} (F : Falls E On h next stop) where
  one_more : (v e : ℕ) (l : List ℕ) → On v → stop v ≡ false → Chain E On h stop (next v) e l →
      Chain E On h stop v e (v ∷ l)
  one_more v e l o n C =
      record {
        ends = C.ends;
        arrives = C.arrives;
        way = inr (l, refl, way C.way);
        members = members;
        different = (λ m. let k = (C.members v m).1 in omega (arith, F.less v o n), C.different);
      }
    where
      way : ((next v ≡ e) × (l ≡ [])) ⊎ ((t : List ℕ) × (l ≡ next v ∷ t) × Walk E (next v) (t ++ e ∷ [])) →
          Walk E v (l ++ e ∷ [])
      way (inl (f, g)) = rw g (rw f at (F.linked v o n), tt)
      way (inr (t, g, w)) = rw g (F.linked v o n, w)

      members : (z : ℕ) → Mem z (v ∷ l) → On z × (h z ≤ h v) × (stop z ≡ false)
      members z (inl f) = rw f (o, omega arith, n)
      members z (inr m) = let k = C.members z m in (
        k.0,
        let i : h z ≤ h (next v) = k.1 in omega (arith, F.less v o n),
        k.2,
      )

  nothing : (v : ℕ) → On v → stop v ≡ true → Chain E On h stop v v []
  nothing v o e = record { ends = e; arrives = o; way = inl (refl, refl); members = λ z m. absurd m; different = tt }

  pub chain-is : (k v : ℕ) → On v → h v ≤ k → Chain E On h stop v (ended next stop k v) (chain next stop k v)
  chain-is zero v o b = go (either (stop v))
    where
      go : (stop v ≡ true) ⊎ (stop v ≡ false) → Chain E On h stop v v []
      go (inl e) = nothing v o e
      go (inr n) = absurd (omega (arith, F.less v o n))
  chain-is (suc k) v o b = go (stop v) refl (chain-is k)
    where
      go : (t : Bool) → stop v ≡ t → ((w : ℕ) → On w → h w ≤ k →
          Chain E On h stop w (ended next stop k w) (chain next stop k w))
          → Chain E On h stop v (cond t v (ended next stop k (next v))) (cond t [] (v ∷ chain next stop k (next v)))
      go true e ih = nothing v o e
      go false e ih = one_more v (ended next stop k (next v)) (chain next stop k (next v)) o e
          (ih (next v) (F.stays v o e) (omega (arith, F.less v o e)))

  -- enough steps end at the same vertex
  pub ended_same : (k j v : ℕ) → On v → h v ≤ k → h v ≤ j → ended next stop k v ≡ ended next stop j v
  ended_same zero zero v o a b = refl
  ended_same zero (suc j) v o a b = go (stop v) refl
    where
      go : (t : Bool) → stop v ≡ t → v ≡ cond t v (ended next stop j (next v))
      go true e = refl
      go false e = absurd (omega (arith, F.less v o e))
  ended_same (suc k) zero v o a b = go (stop v) refl
    where
      go : (t : Bool) → stop v ≡ t → cond t v (ended next stop k (next v)) ≡ v
      go true e = refl
      go false e = absurd (omega (arith, F.less v o e))
  ended_same (suc k) (suc j) v o a b = go (stop v) refl (ended_same k j (next v))
    where
      go : (t : Bool) → stop v ≡ t → (On (next v) → h (next v) ≤ k → h (next v) ≤ j →
          ended next stop k (next v) ≡ ended next stop j (next v))
          → cond t v (ended next stop k (next v)) ≡ cond t v (ended next stop j (next v))
      go true e ih = refl
      go false e ih = ih (F.stays v o e) (omega (arith, F.less v o e)) (omega (arith, F.less v o e))

  -- one step before the end leads to it too
  pub ended-next : (k v : ℕ) → On v → h v ≤ k → stop v ≡ false → ended next stop k v ≡ ended next stop k (next v)
  ended-next zero v o b e = absurd (omega (arith, F.less v o e))
  ended-next (suc k) v o b e =
      rw e (ended_same k (suc k) (next v) (F.stays v o e) (omega (arith, F.less v o e))
      (omega (arith, F.less v o e)))

  -- and so do all vertices of the chain
  pub ended-members : (j k v : ℕ) → On v → h v ≤ k → h v ≤ j → (z : ℕ) → Mem z (chain next stop k v) →
      ended next stop j z ≡ ended next stop j v
  ended-members j zero v o b c z m = absurd m
  ended-members j (suc k) v o b c z m = go (stop v) refl (ended-members j k (next v)) m
    where
      go : (t : Bool) → stop v ≡ t
          → (On (next v) → h (next v) ≤ k → h (next v) ≤ j → (w : ℕ) → Mem w (chain next stop k (next v)) →
          ended next stop j w ≡ ended next stop j (next v))
          → Mem z (cond t [] (v ∷ chain next stop k (next v))) → ended next stop j z ≡ ended next stop j v
      go true e ih m = absurd m
      go false e ih (inl q) = ap (ended next stop j) q
      go false e ih (inr q) =
          ih (F.stays v o e) (omega (arith, F.less v o e)) (omega (arith, F.less v o e)) z q
          ∙ sym (ended-next j v o c e)

-- on: which vertices are in the order; pos: their places in it
pub record Upright (E : ℕ → ℕ → Type 0) (on : ℕ → Bool) (pos : ℕ → ℕ) (a b : ℕ) : Type 0 where
  pub link : E a b
  pub first : on a ≡ true
  pub final : on b ≡ true
  pub least : (v : ℕ) → on v ≡ true → pos a ≤ pos v
  pub greatest : (v : ℕ) → on v ≡ true → pos v ≤ pos b
  pub once : (v w : ℕ) → on v ≡ true → on w ≡ true → pos v ≡ pos w → v ≡ w
  pub below : (v : ℕ) → on v ≡ true → v ≢ a → v ≢ b → (u : ℕ) × (on u ≡ true) × E v u × (pos u < pos v)
  pub above : (v : ℕ) → on v ≡ true → v ≢ a → v ≢ b → (u : ℕ) × (on u ≡ true) × E v u × (pos v < pos u)

-- choices of a vertex before and of one after
pub record Lower (E : ℕ → ℕ → Type 0) (on : ℕ → Bool) (pos : ℕ → ℕ) (a b : ℕ) (low : ℕ → ℕ) : Type 0 where
  pub chosen : (v : ℕ) → on v ≡ true → v ≢ a → v ≢ b → (on (low v) ≡ true) × E v (low v) × (pos (low v) < pos v)

pub record Higher (E : ℕ → ℕ → Type 0) (on : ℕ → Bool) (pos : ℕ → ℕ) (a b : ℕ) (high : ℕ → ℕ) : Type 0 where
  pub chosen : (v : ℕ) → on v ≡ true → v ≢ a → v ≢ b → (on (high v) ≡ true) × E v (high v) × (pos v < pos (high v))

-- the ring through (a, b) and a link (c, d), c before d: a, b, back along the way up from d to b, then down from c to a
abbrev pub ring_through : (ℕ → ℕ) → (ℕ → ℕ) → ℕ → ℕ → ℕ → ℕ → ℕ → List ℕ
ring_through low high k a b c d = a ∷ (b ∷ (reverse (chain high (λ z. eqb z b) k d) ++ chain low (λ z. eqb z a) k c))

module _
    {E : ℕ → ℕ → Type 0} {on : ℕ → Bool} {pos : ℕ → ℕ} {a b : ℕ} (G : Graph E) (U : Upright E on pos a b)
    {low high : ℕ → ℕ} (L : Lower E on pos a b low) (H : Higher E on pos a b high)
  where
    Down : ℕ → Type 0
    Down v = (on v ≡ true) × (pos v < pos b)

    Up : ℕ → Type 0
    Up v = (on v ≡ true) × (pos a < pos v)

    rest : ℕ → ℕ
    rest v = pos b - pos v

    falls : Falls E Down pos low (λ z. eqb z a)
    unfolding Down
    falls =
        record {
          stays = λ v o n. let c = chosen v o n in (
            c.0,
            let i : pos (low v) < pos v = c.2 in let j : pos v < pos b = o.1 in omega arith,
          );
          linked = λ v o n. (chosen v o n).1;
          less = λ v o n. (chosen v o n).2;
        }
      where
        chosen : (v : ℕ) → Down v → eqb v a ≡ false → (on (low v) ≡ true) × E v (low v) × (pos (low v) < pos v)
        chosen v o n = L.chosen v o.0 (eqb-false v a n)
            (λ e. let i : pos v < pos b = o.1 in omega (arith, ap pos e))

    rises : Falls E Up rest high (λ z. eqb z b)
    unfolding Up rest
    rises =
        record {
          stays = λ v o n. let c = chosen v o n in (
            c.0,
            let i : pos v < pos (high v) = c.2 in let j : pos a < pos v = o.1 in omega arith,
          );
          linked = λ v o n. (chosen v o n).1;
          less = λ v o n. let c = chosen v o n in omega (arith, c.2, U.greatest (high v) c.0);
        }
      where
        chosen : (v : ℕ) → Up v → eqb v b ≡ false → (on (high v) ≡ true) × E v (high v) × (pos v < pos (high v))
        chosen v o n = H.chosen v o.0 (λ e. let i : pos a < pos v = o.1 in omega (arith, ap pos e))
            (eqb-false v b n)

    -- a chain that stops at one vertex
    way-to : {On : ℕ → Type 0} {h : ℕ → ℕ} (stop v e : ℕ) (l : List ℕ) → Chain E On h (λ z. eqb z stop) v e l
        → ((v ≡ stop) × (l ≡ [])) ⊎ ((t : List ℕ) × (l ≡ v ∷ t) × Walk E v (t ++ stop ∷ []))
    way-to stop v e l C = subst (λ (q : ℕ). ((v ≡ q) × (l ≡ []))
        ⊎ ((t : List ℕ) × (l ≡ v ∷ t) × Walk E v (t ++ q ∷ []))) (eqb-true e stop C.ends) C.way

    module _ (k c d : ℕ) (room : pos b ≤ k) (oc : on c ≡ true) (od : on d ≡ true) (before : pos c < pos d) (l : E c d)
        (differ : c ≡ a → d ≡ b → ⊥) where
      down : Chain E Down pos (λ z. eqb z a) c (ended low (λ z. eqb z a) k c) (chain low (λ z. eqb z a) k c)
      unfolding Down
      down = chain-is falls k c (oc, omega (arith, U.greatest d od)) (omega (arith, U.greatest d od))

      up : Chain E Up rest (λ z. eqb z b) d (ended high (λ z. eqb z b) k d) (chain high (λ z. eqb z b) k d)
      unfolding Up rest
      up = chain-is rises k d (od, omega (arith, U.least c oc)) (omega arith)

      down-way : ((c ≡ a) × (chain low (λ z. eqb z a) k c ≡ []))
          ⊎ ((t : List ℕ) × (chain low (λ z. eqb z a) k c ≡ c ∷ t) × Walk E c (t ++ a ∷ []))
      down-way = way-to a c (ended low (λ z. eqb z a) k c) (chain low (λ z. eqb z a) k c) down

      up_way : ((d ≡ b) × (chain high (λ z. eqb z b) k d ≡ []))
          ⊎ ((t : List ℕ) × (chain high (λ z. eqb z b) k d ≡ d ∷ t) × Walk E d (t ++ b ∷ []))
      up_way = way-to b d (ended high (λ z. eqb z b) k d) (chain high (λ z. eqb z b) k d) up

      -- from b back along the way up to d
      backward : (t : List ℕ) → ((d ≡ b) × (t ≡ [])) ⊎ ((s : List ℕ) × (t ≡ d ∷ s) × Walk E d (s ++ b ∷ [])) →
          Walk E b (reverse t) × (last b (reverse t) ≡ d)
      backward t (inl (e, f)) = rw f (tt, sym e)
      backward t (inr (s, f, w)) =
          rw (f, reverse-cons d s) (walk_back E G.flip d s b w, last-append b (reverse s) (d ∷ []))

      -- from d over the link to c, down, and over one more link to a
      forward : (t : List ℕ) → ((c ≡ a) × (t ≡ [])) ⊎ ((s : List ℕ) × (t ≡ c ∷ s) × Walk E c (s ++ a ∷ [])) →
          Walk E d t × E (last d t) a
      forward t (inl (e, f)) = rw f (tt, rw e at (G.flip c d l))
      forward t (inr (s, f, w)) = rw f ((G.flip c d l, walk_left E c s (a ∷ []) w), (walk_right E c s (a ∷ []) w).0)

      pub through-ring : Ring E (ring_through low high k a b c d)
      unfolding Down Up rest
      through-ring =
          closed-ring (a ∷ (b ∷ (u ++ t))) (omega (arith, long, length-append u t)) (
            fresh-a,
            (fresh-b, distinct_join u t (distinct_reverse u' up.different) down.different apart),
          ) (
            rw (last-append b u t, back.1) on-way.1,
            (U.link, walk_join E b u t back.0 (rw back.1 on-way.0)),
          )
        where
          u' : List ℕ
          u' = chain high (λ z. eqb z b) k d

          u : List ℕ
          u = reverse u'

          t : List ℕ
          t = chain low (λ z. eqb z a) k c

          back : Walk E b u × (last b u ≡ d)
          back = backward u' up_way

          on-way : Walk E d t × E (last d t) a
          on-way = forward t down-way

          from_up : (z : ℕ) → Mem z u → Up z × (rest z ≤ rest d) × (eqb z b ≡ false)
          from_up z m = up.members z (mem_reverse z u' m)

          apart : Disjoint u t
          apart z m n =
              let p = from_up z m in
              let q = down.members z n in
              omega (arith, p.1, q.1, U.greatest z p.0.0, U.greatest d od)

          fresh-a : Mem a (b ∷ (u ++ t)) → ⊥
          fresh-a (inl e) = G.loopless b (subst (λ (z : ℕ). E z b) e U.link)
          fresh-a (inr m) = go (mem_cases a u t m)
            where
              go : Mem a u ⊎ Mem a t → ⊥
              go (inl x) = omega (arith, (from_up a x).0.1)
              go (inr x) = eqb-false a a (down.members a x).2 refl

          fresh-b : Mem b (u ++ t) → ⊥
          fresh-b m = go (mem_cases b u t m)
            where
              go : Mem b u ⊎ Mem b t → ⊥
              go (inl x) = eqb-false b b (from_up b x).2 refl
              go (inr x) = omega (arith, (down.members b x).0.1)

          long : 1 ≤ length u + length t
          long = go up_way down-way
            where
              go : ((d ≡ b) × (u' ≡ [])) ⊎ ((s : List ℕ) × (u' ≡ d ∷ s) × Walk E d (s ++ b ∷ []))
                  → ((c ≡ a) × (t ≡ [])) ⊎ ((s : List ℕ) × (t ≡ c ∷ s) × Walk E c (s ++ a ∷ [])) →
                  1 ≤ length u + length t
              go (inl x) (inl y) = absurd (differ y.0 x.0)
              go (inl x) (inr y) = omega (arith, ap length y.1)
              go (inr (s, e, w)) y = omega (
                arith,
                ap (λ (q : List ℕ). length (reverse q)) e,
                ap length (reverse-cons d s),
                length-append (reverse s) (d ∷ []),
              )

      pub through-first : Holds (ring_through low high k a b c d) a b
      through-first = inl (inl (inl (refl, refl)))

      pub through-second : Holds (ring_through low high k a b c d) c d
      unfolding Down Up rest
      through-second = inr (step_follows (a ∷ (b ∷ (u ++ t))) d c (go down-way))
        where
          u' : List ℕ
          u' = chain high (λ z. eqb z b) k d

          u : List ℕ
          u = reverse u'

          t : List ℕ
          t = chain low (λ z. eqb z a) k c

          back : last b u ≡ d
          back = (backward u' up_way).1

          go : ((c ≡ a) × (t ≡ [])) ⊎ ((s : List ℕ) × (t ≡ c ∷ s) × Walk E c (s ++ a ∷ [])) →
              Step (last b (u ++ t)) (a ∷ (b ∷ (u ++ t))) d c
          go (inl (e, f)) = inl (sym (last-append b u t ∙ ap (λ (q : List ℕ). last (last b u) q) f ∙ back), e)
          go (inr (s, f, w)) = inr (inr (step_right b u t d c (rw f (inl (sym back, refl)))))
