-- Each step of the method is what it is meant to be: n rounds settle at the least labels, and what remains are the
-- links that do not cross.
use Rattle.std.specs.Prelude.{◌≡◌, refl, Bool, true, false, cond, not, ◌&&◌, ◌⊎◌, ◌≢◌, ◌↔◌, List, [], ◌∷◌, ℕ, zero, suc}
use Rattle.std.specs.Prelude.{◌≤◌, ◌<◌, min, eqb}
use Rattle.std.proofs.Common.{sym, ◌∙◌, inl, inr, arith, eqb-true, eq-eqb}
use Rattle.std.proofs.Math.Decide.{dec_lt}
use Rattle.std.proofs.lemmas.Bool.{eqb-false}
use Rattle.base_lists.specs.Tables.{tab, get_d_tab}
use Rattle.base_lists.specs.Tests.{either, not_both, and_exact, not_exact}
use Rattle.theory_graph.specs.Rings.{Connected}
use Rattle.theory_graph.specs.Routes.{connected_trans, connected-link, connected_refl}
use Rattle.theory_min_label.specs.Groups.{Link}
use Rattle.theory_min_label.specs.Spread.{Within, Least, Rounds, rounds-least}
use Rattle.theory_min_label.specs.PassLaws.{Turned, Left}
use Rattle.theory_min_label.specs.MinLabel.{NONE, at, giver, taker, received, propagated, min_forward, source}
use Rattle.theory_min_label.specs.MinLabel.{min_backward, stays, remaining}

-- v is handed w's label by a link of L
abbrev pub Hears : Bool → (ℕ → ℕ → Type 0) → ℕ → ℕ → Type 0
Hears forward L v w = L (giver forward w v) (taker forward w v)

-- ---- the labels that a unit receives

hears-cases : (d : Bool) (a b : ℕ) (t : List ℕ) (v w : ℕ) → Hears d (Link (a ∷ b ∷ t)) v w →
    ((v ≡ taker d a b) × (w ≡ giver d a b)) ⊎ Hears d (Link t) v w
hears-cases true a b t v w (inl h) = inl (h.1, h.0)
hears-cases true a b t v w (inr h) = inr h
hears-cases false a b t v w (inl h) = inl (h.0, h.1)
hears-cases false a b t v w (inr h) = inr h

hears-first : (d : Bool) (a b : ℕ) (t : List ℕ) → Hears d (Link (a ∷ b ∷ t)) (taker d a b) (giver d a b)
hears-first true a b t = inl (refl, refl)
hears-first false a b t = inl (refl, refl)

received-own : (d : Bool) (t x : List ℕ) (v : ℕ) → received d t x v ≤ at x v
unfolding received
received-own d [] x v = omega arith
received-own d (a ∷ []) x v = omega arith
received-own d (a ∷ b ∷ t) x v = go (eqb (taker d a b) v) (received-own d t x v)
  where
    go : (e : Bool) → received d t x v ≤ at x v →
        cond e (min (at x (giver d a b)) (received d t x v)) (received d t x v) ≤ at x v
    go true h = omega arith
    go false h = h

received-near : (d : Bool) (t x : List ℕ) (v w : ℕ) → Hears d (Link t) v w → received d t x v ≤ at x w
unfolding received
received-near d [] x v w h = absurd (none d h)
  where
    none : (d : Bool) → Hears d (Link []) v w → ⊥
    none true h = h
    none false h = h
received-near d (a ∷ []) x v w h = absurd (none d h)
  where
    none : (d : Bool) → Hears d (Link (a ∷ [])) v w → ⊥
    none true h = h
    none false h = h
received-near d (a ∷ b ∷ t) x v w h = go (hears-cases d a b t v w h) (received-near d t x v w)
    (either (eqb (taker d a b) v))
  where
    go : ((v ≡ taker d a b) × (w ≡ giver d a b)) ⊎ Hears d (Link t) v w →
        (Hears d (Link t) v w → received d t x v ≤ at x w)
        → (eqb (taker d a b) v ≡ true) ⊎ (eqb (taker d a b) v ≡ false)
        → cond (eqb (taker d a b) v) (min (at x (giver d a b)) (received d t x v)) (received d t x v) ≤ at x w
    go (inl (p, q)) later (inl e) = rw (e, q) (omega arith)
    go (inl (p, q)) later (inr e) = absurd (eqb-false (taker d a b) v e (sym p))
    go (inr k) later (inl e) = rw e (omega (arith, later k))
    go (inr k) later (inr e) = rw e (later k)

-- no label comes from nowhere
received-from : (d : Bool) (t x : List ℕ) (v : ℕ)
    → (received d t x v ≡ at x v) ⊎ ((w : ℕ) × Hears d (Link t) v w × (received d t x v ≡ at x w))
unfolding received
received-from d [] x v = inl refl
received-from d (a ∷ []) x v = inl refl
received-from d (a ∷ b ∷ t) x v = go (either (eqb (taker d a b) v)) (received-from d t x v)
    (dec_lt (at x (giver d a b)) (received d t x v))
  where
    From : ℕ → Type 0
    From y = (y ≡ at x v) ⊎ ((w : ℕ) × Hears d (Link (a ∷ b ∷ t)) v w × (y ≡ at x w))

    more : (d : Bool) (w : ℕ) → Hears d (Link t) v w → Hears d (Link (a ∷ b ∷ t)) v w
    more true w h = inr h
    more false w h = inr h

    later : (received d t x v ≡ at x v) ⊎ ((w : ℕ) × Hears d (Link t) v w × (received d t x v ≡ at x w)) →
        From (received d t x v)
    later (inl e) = inl e
    later (inr (w, h, e)) = inr (w, more d w h, e)

    go : (eqb (taker d a b) v ≡ true) ⊎ (eqb (taker d a b) v ≡ false)
        → (received d t x v ≡ at x v) ⊎ ((w : ℕ) × Hears d (Link t) v w × (received d t x v ≡ at x w))
        → Dec (at x (giver d a b) < received d t x v)
        → From (cond (eqb (taker d a b) v) (min (at x (giver d a b)) (received d t x v)) (received d t x v))
    go (inr e) r m = rw e (later r)
    go (inl e) r (yes m) =
        let k : min (at x (giver d a b)) (received d t x v) ≡ at x (giver d a b) = omega arith in
        let q : taker d a b ≡ v = eqb-true (taker d a b) v e in
        rw (e, k) (inr (giver d a b, subst_to q, refl))
      where
        subst_to : taker d a b ≡ v → Hears d (Link (a ∷ b ∷ t)) v (giver d a b)
        subst_to q = rw (← q) (hears-first d a b t)
    go (inl e) r (no m) =
        let k : min (at x (giver d a b)) (received d t x v) ≡ received d t x v = omega arith in
        rw (e, k) (later r)

-- ---- n rounds

-- one round more at the end
propagated_suc : (k n : ℕ) (d : Bool) (t x : List ℕ) →
    propagated (suc k) n d t x ≡ tab n (received d t (propagated k n d t x))
unfolding propagated
propagated_suc zero n d t x = refl
propagated_suc (suc k) n d t x = propagated_suc k n d t (tab n (received d t x))

module _ (n : ℕ) (d : Bool) (t : List ℕ) (inside : Within n (Hears d (Link t))) (init : ℕ → ℕ) where
  rounds : Rounds n (Hears d (Link t)) init (λ (k : ℕ). at (propagated k n d t (tab n init)))
  unfolding propagated
  rounds = record { start = λ v h. get_d_tab n init v 0 h; own = own; near = near; reached = reached }
    where
      after : (k v : ℕ) → v < n → at (propagated (suc k) n d t (tab n init)) v
          ≡ received d t (propagated k n d t (tab n init)) v
      after k v h = rw (propagated_suc k n d t (tab n init))
          (get_d_tab n (received d t (propagated k n d t (tab n init))) v 0 h)

      own : (k v : ℕ) → v < n → at (propagated (suc k) n d t (tab n init)) v ≤ at (propagated k n d t (tab n init)) v
      own k v h = rw (after k v h) (received-own d t (propagated k n d t (tab n init)) v)

      near : (k v w : ℕ) → Hears d (Link t) v w →
          at (propagated (suc k) n d t (tab n init)) v ≤ at (propagated k n d t (tab n init)) w
      near k v w h = rw (after k v (inside v w h).0) (received-near d t (propagated k n d t (tab n init)) v w h)

      reached : (k v : ℕ) → v < n → (w : ℕ) × Connected (Hears d (Link t)) v w
          × (at (propagated k n d t (tab n init)) v ≡ init w)
      reached zero v h = (v, connected_refl (Hears d (Link t)) v, get_d_tab n init v 0 h)
      reached (suc k) v h = go (reached k) (received-from d t (propagated k n d t (tab n init)) v)
        where
          go : ((y : ℕ) → y < n → (w : ℕ) × Connected (Hears d (Link t)) y w
              × (at (propagated k n d t (tab n init)) y ≡ init w))
              → (received d t (propagated k n d t (tab n init)) v ≡ at (propagated k n d t (tab n init)) v)
              ⊎ ((w : ℕ) × Hears d (Link t) v w
              × (received d t (propagated k n d t (tab n init)) v ≡ at (propagated k n d t (tab n init)) w))
              → (w : ℕ) × Connected (Hears d (Link t)) v w × (at (propagated (suc k) n d t (tab n init)) v ≡ init w)
          go before (inl e) = let (z, c, q) = before v h in (z, c, after k v h ∙ (e ∙ q))
          go before (inr (w, l, e)) =
              let (z, c, q) = before w (inside v w l).1 in (
                z,
                connected_trans (Hears d (Link t)) v w z (connected-link (Hears d (Link t)) v w l) c,
                after k v h ∙ (e ∙ q),
              )

  pub propagated-least : Least n (Hears d (Link t)) init (at (propagated n n d t (tab n init)))
  propagated-least = rounds-least inside rounds

-- step 1 gives the least unit that reaches each unit
pub forward-least : (n : ℕ) (t : List ℕ) → Within n (Link t) →
    Least n (Turned (Link t)) (λ (v : ℕ). v) (at (min_forward n t))
unfolding min_forward
forward-least n t inside = propagated-least n true t (λ v w h. let p = inside w v h in (p.1, p.0)) (λ (v : ℕ). v)

-- step 2 the least source that each unit reaches
pub backward-least : (n : ℕ) (t f : List ℕ) → Within n (Link t) → Least n (Link t) (source f) (at (min_backward n t f))
unfolding min_backward
backward-least n t f inside = propagated-least n false t inside (source f)

-- ---- step 4

eqb-exact : (a b : ℕ) → (eqb a b ≡ true) ↔ (a ≡ b)
eqb-exact a b = (eqb-true a b, eq-eqb a b)

pub stays-exact : (f b : List ℕ) (u v : ℕ) →
    (stays f b u v ≡ true) ↔ ((at f u ≡ at f v) × ((at b u ≡ at b v) × (at f u ≢ at b u)))
stays-exact f b u v =
    and_exact (eqb (at f u) (at f v)) (eqb (at b u) (at b v) && not (eqb (at f u) (at b u)))
    (eqb-exact (at f u) (at f v))
    (and_exact (eqb (at b u) (at b v)) (not (eqb (at f u) (at b u))) (eqb-exact (at b u) (at b v))
    (not_exact (eqb (at f u) (at b u)) (eqb-exact (at f u) (at b u))))

pub remaining-exact : (f b t : List ℕ) (u v : ℕ) → Link (remaining f b t) u v ↔ (Link t u v × (stays f b u v ≡ true))
unfolding remaining
remaining-exact f b [] u v = (λ h. absurd h, λ p. p.0)
remaining-exact f b (x ∷ []) u v = (λ h. absurd h, λ p. p.0)
remaining-exact f b (x ∷ y ∷ t) u v = go (either (stays f b x y)) (remaining-exact f b t u v)
  where
    go : (stays f b x y ≡ true) ⊎ (stays f b x y ≡ false) →
        Link (remaining f b t) u v ↔ (Link t u v × (stays f b u v ≡ true))
        → Link (cond (stays f b x y) (x ∷ y ∷ remaining f b t) (remaining f b t)) u v
        ↔ ((((u ≡ x) × (v ≡ y)) ⊎ Link t u v) × (stays f b u v ≡ true))
    go (inl e) later = rw e (to, from)
      where
        to : ((u ≡ x) × (v ≡ y)) ⊎ Link (remaining f b t) u v →
            (((u ≡ x) × (v ≡ y)) ⊎ Link t u v) × (stays f b u v ≡ true)
        to (inl (p, q)) = (inl (p, q), rw (p, q) e)
        to (inr h) = let r = later.0 h in (inr r.0, r.1)

        from : (((u ≡ x) × (v ≡ y)) ⊎ Link t u v) × (stays f b u v ≡ true) →
            ((u ≡ x) × (v ≡ y)) ⊎ Link (remaining f b t) u v
        from (inl h, s) = inl h
        from (inr h, s) = inr (later.1 (h, s))
    go (inr e) later = rw e (to, from)
      where
        to : Link (remaining f b t) u v → (((u ≡ x) × (v ≡ y)) ⊎ Link t u v) × (stays f b u v ≡ true)
        to h = let r = later.0 h in (inr r.0, r.1)

        from : (((u ≡ x) × (v ≡ y)) ⊎ Link t u v) × (stays f b u v ≡ true) → Link (remaining f b t) u v
        from (inl (p, q), s) = absurd (not_both (stays f b x y) (rw (p, q) at s) e)
        from (inr h, s) = later.1 (h, s)

pub remaining-left : (f b t : List ℕ) (u v : ℕ) → Link (remaining f b t) u v ↔ Left NONE (at f) (at b) (Link t) u v
remaining-left f b t u v = (
  λ h. let r = (remaining-exact f b t u v).0 h in let s =
      (stays-exact f b u v).0 r.1 in (r.0, s.0, s.1.0, s.1.1),
  λ p. (remaining-exact f b t u v).1 (p.0, (stays-exact f b u v).1 (p.1, (p.2, p.3))),
)
