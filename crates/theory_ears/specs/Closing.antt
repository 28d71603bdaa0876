-- The ring, or that there is none (T-04): from an order on which nothing ties any more, and a second link within it.
use Rattle.std.specs.Prelude.{◌≡◌, refl, Bool, true, false, cond, not, ◌&&◌, ◌⊎◌, ◌≢◌, List, [], ◌∷◌, ℕ, suc, ◌≤◌, ◌<◌}
use Rattle.std.specs.Prelude.{eqb, ltb, length}
use Rattle.std.proofs.Common.{sym, ap, subst, ◌∙◌, inl, inr, arith, eqb-true, eq-eqb, ne_eqb, ltb-true, ltb-false}
use Rattle.std.proofs.Math.Decide.{ℕ_discrete}
use Rattle.std.proofs.lemmas.Bool.{eqb-false}
use Rattle.base_lists.specs.Counts.{count_le, count_true}
use Rattle.base_lists.specs.Members.{Mem}
use Rattle.base_lists.specs.Pigeonhole.{pigeonhole}
use Rattle.base_lists.specs.Tests.{either, cond_true, cond_false, and_left, and_right, and-true, not_both}
use Rattle.table.specs.Table.{end_a, end_b}
use Rattle.spec_rules.specs.Basics.{at}
use Rattle.theory_graph.specs.Rings.{Walk, last_of, Ring, Holds, SameLink}
use Rattle.theory_graph.specs.Walks.{holds-first, holds-second, holds-flip, ring-closed}
use Rattle.theory_graph.proofs.Together.{ends-apart}
use Rattle.theory_reach.specs.Site.{Site, link-below}
use Rattle.theory_ears.specs.Present.{Present, Ringed, Shows, present-graph, missing}
use Rattle.theory_ears.specs.Steps.{on_order}
use Rattle.theory_ears.specs.Tree.{Tree, Whole}
use Rattle.theory_ears.specs.Order.{Ordering}
use Rattle.theory_ears.specs.Growth.{Grown, Settled, stays}
use Rattle.theory_ears.specs.Sides.{Leant, within, lower-all, higher-all}
use Rattle.theory_ears.specs.Upright.{ring_through, through-ring, through-second}

-- link k may be the second of the ring: link j itself, or, where j is the first link again, any other link within the
-- order
abbrev pub serves : (ℕ → Bool) → List ℕ → List ℕ → ℕ → ℕ → ℕ → Bool
serves ok ends pos i j k = within ok ends pos k && cond (eqb i j) (not (eqb k i)) (eqb k j)

not-true : (b : Bool) → not b ≡ true → b ≡ false
not-true true e = sym e
not-true false e = refl

into : (E : ℕ → ℕ → Type 0) (a : ℕ) (l : List ℕ) → Walk E a l → (z : ℕ) → Mem z l → (u : ℕ) × E u z
into E a [] w z m = absurd m
into E a (b ∷ l) w z (inl e) = (a, rw e w.0)
into E a (b ∷ l) w z (inr m) = into E b l w.1 z m

-- a ring has at most n units: so many places are enough
pub shows-short : {n m : ℕ} {ends : List ℕ} {ok : ℕ → Bool} {i j : ℕ} {r : List ℕ} → Site n m ends →
    Shows ok m ends i j r → length r ≤ n
shows-short {n} {m} {ends} {ok} {r = r} site S =
    omega (
      arith,
      pigeonhole (λ i. true) n r S.ring.different
          (λ z mz. let k = (into (Present ok m ends) (last_of r) r
          (ring-closed S.ring) z mz).1 in record {
            below = (link-below site _ z (k.0, k.1, k.3)).1;
            passes = refl;
          }),
      count_le n (λ i. true),
    )

-- three different units are not two
two-few : (E : ℕ → ℕ → Type 0) (a b : ℕ) (r : List ℕ) → Ring E r → ((z : ℕ) → Mem z r → (z ≡ a) ⊎ (z ≡ b)) → ⊥
two-few E a b [] R h = absurd (omega (arith, R.three))
two-few E a b (x ∷ []) R h = absurd (omega (arith, R.three))
two-few E a b (x ∷ (y ∷ [])) R h = absurd (omega (arith, R.three))
two-few E a b (x ∷ (y ∷ (z ∷ l))) R h = go (h x (inl refl)) (h y (inr (inl refl))) (h z (inr (inr (inl refl))))
  where
    go : (x ≡ a) ⊎ (x ≡ b) → (y ≡ a) ⊎ (y ≡ b) → (z ≡ a) ⊎ (z ≡ b) → ⊥
    go (inl e) (inl f) g = R.different.0 (inl (e ∙ sym f))
    go (inr e) (inr f) g = R.different.0 (inl (e ∙ sym f))
    go (inl e) (inr f) (inl g) = R.different.0 (inr (inl (e ∙ sym g)))
    go (inl e) (inr f) (inr g) = R.different.1.0 (inl (f ∙ sym g))
    go (inr e) (inl f) (inl g) = R.different.1.0 (inl (f ∙ sym g))
    go (inr e) (inl f) (inr g) = R.different.0 (inr (inl (e ∙ sym g)))

module _
    {n m : ℕ} {ends : List ℕ} (site : Site n m ends) (ok : ℕ → Bool) (i : ℕ) (hi : i < m) (parent seq : List ℕ) (c : ℕ)
    (T : Tree n (Present ok m ends) (end_a ends i) parent seq c) (W : Whole ok m ends parent)
    (pos held : List ℕ) (R : Grown n (Present ok m ends) (end_a ends i) (end_b ends i) parent pos held)
  where
    abbrev a : ℕ
    a = end_a ends i

    abbrev b : ℕ
    b = end_b ends i

    O : Ordering n (Present ok m ends) (end_a ends i) (end_b ends i) parent pos
    O = R.ordering

    -- ---- none

    pub none-serves : Settled ok m ends parent pos held → (j : ℕ) → j < m →
        ((k : ℕ) → k < m → serves ok ends pos i j k ≡ false) → Ringed ok m ends i j → ⊥
    none-serves none j hj h (r, Q, p, q) = go (ℕ_discrete i j)
      where
        on-ring : (z : ℕ) → Mem z r → on_order pos z ≡ true
        on-ring = stays site ok (end_a ends i) (end_b ends i) parent seq c T W pos held R none Q p

        other : (i ≡ j → ⊥) → ⊥
        other ne = by (either (ok j))
          where
            by : (ok j ≡ true) ⊎ (ok j ≡ false) → ⊥
            by (inr e) = missing site ok j i hj e (r, Q, q, p)
            by (inl e) =
                not_both (serves ok ends pos i j j)
                (and-true (within ok ends pos j) (cond (eqb i j) (not (eqb j i)) (eqb j j))
                (and-true (ok j) _ e (and-true (on_order pos (end_a ends j)) (on_order pos (end_b ends j))
                (on-ring (end_a ends j) (holds-first r (end_a ends j) (end_b ends j) q))
                (on-ring (end_b ends j) (holds-second r (end_a ends j) (end_b ends j) q))))
                (cond_false (eqb i j) (not (eqb j i)) (eqb j j) (ne_eqb i j ne) ∙ eq-eqb j j refl))
                (h j hj)

        twice : i ≡ j → ⊥
        twice e = two-few (Present ok m ends) a b r Q (λ z mz. pick z mz (ℕ_discrete z a) (ℕ_discrete z b))
          where
            -- a third unit would have a link within the order
            third : (z : ℕ) → z ≢ a → z ≢ b → on_order pos z ≡ true
                → (u : ℕ) × (on_order pos u ≡ true) × Present ok m ends z u × (at pos u < at pos z) → ⊥
            third z na nb oz (u, ou, (k, hk, ok-k, s), less) =
                not_both (serves ok ends pos i j k)
                (and-true (within ok ends pos k) (cond (eqb i j) (not (eqb k i)) (eqb k j)) (both s)
                (cond_true (eqb i j) (not (eqb k i)) (eqb k j) (eq-eqb i j e) ∙ rw (ne_eqb k i (λ f. mine f s)) refl))
                (h k hk)
              where
                both : SameLink (end_a ends k) (end_b ends k) z u → within ok ends pos k ≡ true
                both (inl (x, y)) = and-true (ok k) _ ok-k
                    (and-true (on_order pos (end_a ends k)) (on_order pos (end_b ends k)) (rw x oz) (rw y ou))
                both (inr (x, y)) = and-true (ok k) _ ok-k
                    (and-true (on_order pos (end_a ends k)) (on_order pos (end_b ends k)) (rw x ou) (rw y oz))

                mine : k ≡ i → SameLink (end_a ends k) (end_b ends k) z u → ⊥
                mine f (inl (x, y)) = na (sym x ∙ ap (end_a ends) f)
                mine f (inr (x, y)) = nb (sym y ∙ ap (end_b ends) f)

            pick : (z : ℕ) → Mem z r → Dec (z ≡ a) → Dec (z ≡ b) → (z ≡ a) ⊎ (z ≡ b)
            pick z mz (yes x) y = inl x
            pick z mz (no x) (yes y) = inr y
            pick z mz (no x) (no y) = absurd (third z x y (on-ring z mz) (O.upright.below z (on-ring z mz) x y))

        go : Dec (i ≡ j) → ⊥
        go (yes e) = twice e
        go (no e) = other e

    -- ---- one

    module _ (low high : List ℕ) (H : Leant ok m ends pos low high m) (j k : ℕ) (hk : k < m)
        (t : serves ok ends pos i j k ≡ true) where
      here : within ok ends pos k ≡ true
      here = and_left (within ok ends pos k) (cond (eqb i j) (not (eqb k i)) (eqb k j)) t

      chosen : cond (eqb i j) (not (eqb k i)) (eqb k j) ≡ true
      chosen = and_right (within ok ends pos k) (cond (eqb i j) (not (eqb k i)) (eqb k j)) t

      okk : ok k ≡ true
      okk = and_left (ok k) _ here

      oc : on_order pos (end_a ends k) ≡ true
      oc = and_left (on_order pos (end_a ends k)) (on_order pos (end_b ends k)) (and_right (ok k) _ here)

      od : on_order pos (end_b ends k) ≡ true
      od = and_right (on_order pos (end_a ends k)) (on_order pos (end_b ends k)) (and_right (ok k) _ here)

      lk : Present ok m ends (end_a ends k) (end_b ends k)
      lk = (k, hk, okk, inl (refl, refl))

      room : at pos b ≤ n
      room = omega (arith, O.full, count_le n (on_order pos))

      pub places-apart : at pos (end_a ends k) ≢ at pos (end_b ends k)
      places-apart q = ends-apart (present-graph site ok) (end_a ends k) (end_b ends k) lk
          (O.upright.once (end_a ends k) (end_b ends k) oc od q)

      -- it is another link than the first
      other : SameLink a b (end_a ends k) (end_b ends k) → ⊥
      other s = go (ℕ_discrete i k)
        where
          go : Dec (i ≡ k) → ⊥
          go (no ne) = site.once i k ne hi hk s
          go (yes e) = by (either (eqb i j))
            where
              by : (eqb i j ≡ true) ⊎ (eqb i j ≡ false) → ⊥
              by (inl x) = eqb-false k i
                  (not-true (eqb k i) (sym (cond_true (eqb i j) (not (eqb k i)) (eqb k j) x) ∙ chosen)) (sym e)
              by (inr x) = eqb-false i j x (e
                  ∙ eqb-true k j (sym (cond_false (eqb i j) (not (eqb k i)) (eqb k j) x) ∙ chosen))

      shows : (r rest : List ℕ) → Ring (Present ok m ends) r → r ≡ a ∷ (b ∷ rest) → Holds r a b →
          Holds r (end_a ends k) (end_b ends k) → Shows ok m ends i j r
      shows r rest Q st f s = record { ring = Q; rest = rest; starts = st; first = f; second = go (either (eqb i j)) }
        where
          go : (eqb i j ≡ true) ⊎ (eqb i j ≡ false) → Holds r (end_a ends j) (end_b ends j)
          go (inl x) = subst (λ (z : ℕ). Holds r (end_a ends z) (end_b ends z)) (eqb-true i j x) f
          go (inr x) = subst (λ (z : ℕ). Holds r (end_a ends z) (end_b ends z))
              (eqb-true k j (sym (cond_false (eqb i j) (not (eqb k i)) (eqb k j) x) ∙ chosen)) s

      pub ring-shown : (s : Bool) → s ≡ ltb (at pos (end_a ends k)) (at pos (end_b ends k))
          → Shows ok m ends i j (ring_through (at low) (at high) n (end_a ends i) (end_b ends i)
          (cond s (end_a ends k) (end_b ends k)) (cond s (end_b ends k) (end_a ends k)))
      ring-shown true e =
          let less = ltb-true (at pos (end_a ends k)) (at pos (end_b ends k)) (sym e) in
          let L = lower-all site ok pos low high H O.upright in
          let G = higher-all site ok pos low high H O.upright in
          shows _ _
          (through-ring (present-graph site ok) O.upright L G n (end_a ends k) (end_b ends k) room oc od less lk
          (λ f g. other (inl (sym f, sym g)))) refl
          (inl (inl (inl (refl, refl))))
          (through-second (present-graph site ok) O.upright L G n (end_a ends k) (end_b ends k) room oc od less lk
          (λ f g. other (inl (sym f, sym g))))
      ring-shown false e =
          let less : at pos (end_b ends k) < at pos (end_a ends k) =
          omega (arith, places-apart, ltb-false (at pos (end_a ends k)) (at pos (end_b ends k)) (sym e)) in
          let L = lower-all site ok pos low high H O.upright in
          let G = higher-all site ok pos low high H O.upright in
          let back = (present-graph site ok).flip (end_a ends k) (end_b ends k) lk in
          shows _ _
          (through-ring (present-graph site ok) O.upright L G n (end_b ends k) (end_a ends k) room od oc less back
          (λ f g. other (inr (sym f, sym g)))) refl
          (inl (inl (inl (refl, refl))))
          (holds-flip (ring_through (at low) (at high) n (end_a ends i) (end_b ends i) (end_b ends k) (end_a ends k))
          (end_b ends k) (end_a ends k)
          (through-second (present-graph site ok) O.upright L G n (end_b ends k) (end_a ends k) room od oc less back
          (λ f g. other (inr (sym f, sym g)))))
