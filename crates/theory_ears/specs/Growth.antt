-- The order grows (T-04): from the two ends of the first link, by an ear for each link that ties; where none ties any
-- more, every ring through the first link stays on it. `held` tells of each unit of the tree its anchor.
use Rattle.std.specs.Prelude.{◌≡◌, refl, Bool, cond, ◌&&◌, ◌⊎◌, ◌≢◌, List, [], ◌∷◌, ℕ, zero, suc, ◌+◌, ◌≤◌, ◌<◌, eqb}
use Rattle.std.specs.Prelude.{ltb}
use Rattle.std.proofs.Common.{sym, subst, ◌∙◌, arith, get_or-set_same, get_or-set_other}
use Rattle.std.proofs.Math.Path.{ap}
use Rattle.std.proofs.Math.Bool.{true, false, not}
use Rattle.std.proofs.Math.Logic.{inl, inr}
use Rattle.std.proofs.Math.Decide.{ℕ_discrete, dec_lt}
use lib.ListN.{length, set, length-set}
use borrow.Author.Tests.{eqb-true, eqb-false, ltb-true, ltb-false}
use Rattle.base_lists.specs.Counts.{count_le}
use Rattle.base_lists.specs.Folds.{count}
use Rattle.base_lists.specs.Members.{Mem}
use Rattle.base_lists.specs.Tests.{either, cond_true, cond_false, and_left, and_right, and-true, not_both, refuted}
use Rattle.table.specs.Table.{end_a, end_b}
use Rattle.spec_rules.specs.Basics.{at}
use Rattle.theory_graph.specs.Rings.{Ring, Holds}
use Rattle.theory_graph.proofs.Together.{ends-apart}
use Rattle.theory_reach.specs.Site.{Site}
use Rattle.theory_ears.specs.Upright.{ended-next}
use Rattle.theory_ears.specs.Anchors.{Shut, ring-stays}
use Rattle.theory_ears.specs.Present.{Present, present-graph}
use Rattle.theory_ears.specs.Steps.{seen, on_order, anchor, ties, woven}
use Rattle.theory_ears.specs.Lists.{count_list}
use Rattle.theory_ears.specs.Tree.{Known, Tree, Whole, spanning, spreads}
use Rattle.theory_ears.specs.Order.{Ordering, on-place, place-on, falls, hangs, ordering-new, more-new}

-- an order, and the anchors of the tree's units beside it
pub record Grown (n : ℕ) (E : ℕ → ℕ → Type 0) (a b : ℕ) (parent pos held : List ℕ) : Type 0 where
  pub ordering : Ordering n E a b parent pos
  pub space : length held ≡ 256
  pub holds : (v : ℕ) → Known n parent v → at held v ≡ anchor (suc n) parent pos v

-- no link ties two units that hang on different units of the order
abbrev pub Settled : (ℕ → Bool) → ℕ → List ℕ → List ℕ → List ℕ → List ℕ → Type 0
Settled ok m ends parent pos held = (j : ℕ) → j < m → ties ok ends parent pos held j ≡ false

-- the anchors of the first i units of the tree
abbrev pub HeldTo : ℕ → List ℕ → List ℕ → List ℕ → List ℕ → ℕ → Type 0
HeldTo n parent seq pos held i = (q : ℕ) → q < i → at held (at seq q) ≡ anchor (suc n) parent pos (at seq q)

not-true : (b : Bool) → not b ≡ true → b ≡ false
not-true true e = sym e
not-true false e = refl

-- ---- a tie

record Tie (ok : ℕ → Bool) (ends parent pos held : List ℕ) (j : ℕ) : Type 0 where
  counts : ok j ≡ true
  tree : seen parent (end_a ends j) ≡ true
  differ : at held (end_a ends j) ≢ at held (end_b ends j)
  loose : (on_order pos (end_a ends j) && on_order pos (end_b ends j)) ≡ false

module _ (ok : ℕ → Bool) (ends parent pos held : List ℕ) (j : ℕ) where
  A : Bool
  A = seen parent (end_a ends j)

  B : Bool
  B = eqb (at held (end_a ends j)) (at held (end_b ends j))

  C : Bool
  C = on_order pos (end_a ends j) && on_order pos (end_b ends j)

  tie-of : ties ok ends parent pos held j ≡ true → Tie ok ends parent pos held j
  unfolding A B C
  tie-of t =
      let t₁ = and_left (ok j && A && not B) (not C) t in
      let t₂ = and_left (ok j && A) (not B) t₁ in
      record {
        counts = and_left (ok j) A t₂;
        tree = and_right (ok j) A t₂;
        differ = eqb-false _ _ (not-true B (and_right (ok j && A) (not B) t₁));
        loose = not-true C (and_right (ok j && A && not B) (not C) t);
      }

  -- no tie, of a link of the tree that counts: one anchor, or both on the order
  tie_none : ties ok ends parent pos held j ≡ false → ok j ≡ true → seen parent (end_a ends j) ≡ true
      → (at held (end_a ends j) ≡ at held (end_b ends j))
      ⊎ ((on_order pos (end_a ends j) ≡ true) × (on_order pos (end_b ends j) ≡ true))
  unfolding A B C
  tie_none t o s = go (either B) (either C)
    where
      go : (B ≡ true) ⊎ (B ≡ false) → (C ≡ true) ⊎ (C ≡ false)
          → (at held (end_a ends j) ≡ at held (end_b ends j))
          ⊎ ((on_order pos (end_a ends j) ≡ true) × (on_order pos (end_b ends j) ≡ true))
      go (inl e) c = inl (eqb-true _ _ e)
      go (inr e) (inl c) = inr (
        and_left (on_order pos (end_a ends j)) (on_order pos (end_b ends j)) c,
        and_right (on_order pos (end_a ends j)) (on_order pos (end_b ends j)) c,
      )
      go (inr e) (inr c) =
          absurd (not_both (ok j && A && not B && not C)
          (and-true (ok j && A && not B) (not C) (and-true (ok j && A) (not B) (and-true (ok j) A o s) (ap not e))
          (ap not c)) t)

module _
    {n m : ℕ} {ends : List ℕ} (site : Site n m ends) (ok : ℕ → Bool) (a b : ℕ) (parent seq : List ℕ) (k : ℕ)
    (T : Tree n (Present ok m ends) a parent seq k)
  where
    -- ---- the first order

    module _ (lb : b < n) (l : Present ok m ends a b) (kb : Known n parent b) (blank : List ℕ)
        (room : length blank ≡ 256) (zeros : (i : ℕ) → i < 256 → at blank i ≡ 0) where
      abbrev first : List ℕ
      first = set (set blank a 1) b 2

      apart : a ≢ b
      apart = ends-apart (present-graph site ok) a b l

      la : a < n
      la = T.root.0

      begun-a : at first a ≡ 1
      begun-a = get_or-set_other (set blank a 1) b a 2 0 apart
          ∙ get_or-set_same blank a 1 0 (omega (arith, room, site.few_units, la))

      begun-b : at first b ≡ 2
      begun-b = get_or-set_same (set blank a 1) b 2 0 (omega (arith, length-set blank a 1, room, site.few_units))

      begun-other : (z : ℕ) → z ≢ a → z ≢ b → at first z ≡ 0
      begun-other z na nb = get_or-set_other (set blank a 1) b z 2 0 nb ∙ get_or-set_other blank a z 1 0 na
          ∙ past (dec_lt z 256)
        where
          past : Dec (z < 256) → at blank z ≡ 0
          past (yes h) = zeros z h
          past (no h) = lib.ListN.get_or-eq_default blank 0 {n = z} (omega (arith, room))

      only_two : (z : ℕ) → on_order first z ≡ true → (z ≡ a) ⊎ (z ≡ b)
      only_two z o = go (ℕ_discrete z a) (ℕ_discrete z b)
        where
          go : Dec (z ≡ a) → Dec (z ≡ b) → (z ≡ a) ⊎ (z ≡ b)
          go (yes e) q = inl e
          go (no e) (yes q) = inr q
          go (no e) (no q) = absurd (omega (arith, on-place first z o, begun-other z e q))

      on-a : on_order first a ≡ true
      on-a = place-on first a (omega (arith, begun-a))

      on-b : on_order first b ≡ true
      on-b = place-on first b (omega (arith, begun-b))

      pub order-begun : Ordering n (Present ok m ends) a b parent (set (set blank a 1) b 2)
      order-begun =
          record {
            room = length-set (set blank a 1) b 2 ∙ length-set blank a 1 ∙ room;
            upright =
                record {
                  link = l;
                  first = on-a;
                  final = on-b;
                  least = λ v o. least v (only_two v o);
                  greatest = λ v o. greatest v (only_two v o);
                  once = λ v w o p e. once v w e (only_two v o) (only_two w p);
                  below = λ v o na nb. absurd (neither v na nb (only_two v o));
                  above = λ v o na nb. absurd (neither v na nb (only_two v o));
                };
            known = λ v o. known v (only_two v o);
            full = full;
          }
        where
          least : (v : ℕ) → (v ≡ a) ⊎ (v ≡ b) → at first a ≤ at first v
          least v (inl e) = rw e (omega arith)
          least v (inr e) = rw e (omega (arith, begun-a, begun-b))

          greatest : (v : ℕ) → (v ≡ a) ⊎ (v ≡ b) → at first v ≤ at first b
          greatest v (inl e) = rw e (omega (arith, begun-a, begun-b))
          greatest v (inr e) = rw e (omega arith)

          once : (v w : ℕ) → at first v ≡ at first w → (v ≡ a) ⊎ (v ≡ b) → (w ≡ a) ⊎ (w ≡ b) → v ≡ w
          once v w e (inl f) (inl g) = f ∙ sym g
          once v w e (inr f) (inr g) = f ∙ sym g
          once v w e (inl f) (inr g) = absurd (omega (arith, begun-a, begun-b, ap (at first) f, ap (at first) g))
          once v w e (inr f) (inl g) = absurd (omega (arith, begun-a, begun-b, ap (at first) f, ap (at first) g))

          neither : (v : ℕ) → v ≢ a → v ≢ b → (v ≡ a) ⊎ (v ≡ b) → ⊥
          neither v na nb (inl e) = na e
          neither v na nb (inr e) = nb e

          known : (v : ℕ) → (v ≡ a) ⊎ (v ≡ b) → Known n parent v
          known v (inl e) = subst (Known n parent) (sym e) T.root
          known v (inr e) = subst (Known n parent) (sym e) kb

          none : ℕ → Bool
          none z = false

          full : at first b ≤ count n (on_order first)
          full =
              let q = count_list n (a ∷ (b ∷ [])) none (on_order first) (
                different,
                (λ x. x, tt),
              ) both (λ z e. absurd (not_both (none z) e refl)) in
              omega (arith, begun-b)
            where
              different : Mem a (b ∷ []) → ⊥
              different (inl e) = apart e
              different (inr x) = x

              both : (z : ℕ) → Mem z (a ∷ (b ∷ [])) → (z < n) × (none z ≡ false) × (on_order first z ≡ true)
              both z (inl e) = rw e (la, refl, on-a)
              both z (inr (inl e)) = rw e (lb, refl, on-b)
              both z (inr (inr x)) = absurd x

    module _ (W : Whole ok m ends parent) where
      -- ---- the anchors, unit by unit as the tree has them

      module _ (pos : List ℕ) (O : Ordering n (Present ok m ends) a b parent pos) where
        pub held-turn : (held new : List ℕ) (i v x : ℕ) → length held ≡ 256 → i < k → HeldTo n parent seq pos held i →
            v ≡ at seq i
            → x ≡ cond (on_order pos v) v (at held (at parent v)) → new ≡ set held v x →
            HeldTo n parent seq pos new (i + 1)
        held-turn held new i v x long h H ev ex en q hq = go (dec_lt q i)
          where
            kv : Known n parent (at seq i)
            kv = (T.listed i h).0

            small : at seq i < 256
            small = omega (arith, kv.0, site.few_units)

            moved : new ≡ set held (at seq i)
                (cond (on_order pos (at seq i)) (at seq i) (at held (at parent (at seq i))))
            moved = rw (en, ex, ev) refl

            own : cond (on_order pos (at seq i)) (at seq i) (at held (at parent (at seq i)))
                ≡ anchor (suc n) parent pos (at seq i)
            own = by (either (on_order pos (at seq i)))
              where
                by : (on_order pos (at seq i) ≡ true) ⊎ (on_order pos (at seq i) ≡ false)
                    → cond (on_order pos (at seq i)) (at seq i) (at held (at parent (at seq i)))
                    ≡ anchor (suc n) parent pos (at seq i)
                by (inl o) = cond_true (on_order pos (at seq i)) (at seq i) _ o
                    ∙ sym (cond_true (on_order pos (at seq i)) (at seq i) _ o)
                by (inr o) =
                    let na : at seq i ≢ a = λ e. not_both (on_order pos (at seq i)) (rw e O.upright.first) o in
                    let r = T.up (at seq i) kv na in
                    let p = T.placed (at parent (at seq i)) r.0 in
                    let less : T.depth (at parent (at seq i)) < i = omega (arith, r.2, (T.listed i h).1) in
                    let there : at held (at parent (at seq i)) ≡ anchor (suc n) parent pos (at parent (at seq i)) =
                    subst (λ (z : ℕ). at held z ≡ anchor (suc n) parent pos z) p.1
                    (H (T.depth (at parent (at seq i))) less) in
                    cond_false (on_order pos (at seq i)) (at seq i) _ o ∙ there
                    ∙ sym (ended-next (falls site ok (spanning T) W pos O) (suc n) (at seq i) kv
                    ((spanning T).bound (at seq i) kv) o)

            go : Dec (q < i) → at new (at seq q) ≡ anchor (suc n) parent pos (at seq q)
            go (yes b) =
                rw moved
                (get_or-set_other held (at seq i) (at seq q) _ 0
                (λ e. omega (arith, ap T.depth e, (T.listed i h).1, (T.listed q (omega arith)).1)) ∙ H q b)
            go (no b) =
                let e : q ≡ i = omega arith in
                rw (e, moved) (get_or-set_same held (at seq i) _ 0 (omega (arith, small, long)) ∙ own)

        pub held-done : (held : List ℕ) → length held ≡ 256 → HeldTo n parent seq pos held k →
            Grown n (Present ok m ends) a b parent pos held
        held-done held long H =
            record {
              ordering = O;
              space = long;
              holds = λ v q. let p = T.placed v q in subst (λ (z : ℕ). at held z ≡ anchor (suc n) parent pos z) p.1
                  (H (T.depth v) p.0);
            }

      -- ---- an ear for a link that ties

      module _ (pos held : List ℕ) (R : Grown n (Present ok m ends) a b parent pos held) (j : ℕ) (h : j < m)
          (t : ties ok ends parent pos held j ≡ true) where
        u : ℕ
        u = end_a ends j

        v : ℕ
        v = end_b ends j

        O : Ordering n (Present ok m ends) a b parent pos
        O = R.ordering

        X : Tie ok ends parent pos held j
        X = tie-of ok ends parent pos held j t

        lk : Present ok m ends (end_a ends j) (end_b ends j)
        lk = (j, h, X.counts, inl (refl, refl))

        lk' : Present ok m ends (end_b ends j) (end_a ends j)
        lk' = (present-graph site ok).flip (end_a ends j) (end_b ends j) lk

        pub tie-known : Known n parent (end_a ends j) × Known n parent (end_b ends j)
        tie-known = let ku : Known n parent (end_a ends j) =
            (site.below_a j h, X.tree) in (ku, spreads site ok parent W (end_a ends j) (end_b ends j) ku lk)

        ku : Known n parent (end_a ends j)
        ku = tie-known.0

        kv : Known n parent (end_b ends j)
        kv = tie-known.1

        turned : (on_order pos (end_b ends j) && on_order pos (end_a ends j)) ≡ false
        turned =
            refuted (on_order pos (end_b ends j) && on_order pos (end_a ends j))
            (λ e. not_both (on_order pos (end_a ends j) && on_order pos (end_b ends j))
            (and-true (on_order pos (end_a ends j)) (on_order pos (end_b ends j))
            (and_right (on_order pos (end_b ends j)) (on_order pos (end_a ends j)) e)
            (and_left (on_order pos (end_b ends j)) (on_order pos (end_a ends j)) e))
            X.loose)

        pu : ℕ
        pu = at pos (at held (end_a ends j))

        pv : ℕ
        pv = at pos (at held (end_b ends j))

        place-u : pu ≡ at pos (anchor (suc n) parent pos (end_a ends j))
        unfolding pu
        place-u = ap (at pos) (R.holds (end_a ends j) ku)

        place-v : pv ≡ at pos (anchor (suc n) parent pos (end_b ends j))
        unfolding pv
        place-v = ap (at pos) (R.holds (end_b ends j) kv)

        -- places of different anchors differ
        other : pu ≢ pv
        other e =
            X.differ
            (R.holds (end_a ends j) ku
            ∙ O.upright.once _ _ (hangs site ok (spanning T) W pos O (end_a ends j) ku).ends
            (hangs site ok (spanning T) W pos O (end_b ends j) kv).ends (sym place-u ∙ e ∙ place-v)
            ∙ sym (R.holds (end_b ends j) kv))

        -- the ear goes from the lower anchor to the higher
        pub eared : (s : Bool) → s ≡ ltb (at pos (at held (end_a ends j))) (at pos (at held (end_b ends j)))
            → Ordering n (Present ok m ends) a b parent
            (woven n parent pos (cond s (end_a ends j) (end_b ends j)) (cond s (end_b ends j) (end_a ends j)))
            × (at pos b < at (woven n parent pos (cond s (end_a ends j) (end_b ends j))
            (cond s (end_b ends j) (end_a ends j))) b)
        unfolding pu pv
        eared true e =
            let f : at pos (anchor (suc n) parent pos (end_a ends j))
            < at pos (anchor (suc n) parent pos (end_b ends j)) =
            omega (arith, ltb-true pu pv (sym e), place-u, place-v) in (
              ordering-new site ok (spanning T) W pos O (end_a ends j) (end_b ends j) ku kv lk f X.loose,
              more-new site ok (spanning T) W pos O (end_a ends j) (end_b ends j) ku kv lk f X.loose,
            )
        eared false e =
            let f : at pos (anchor (suc n) parent pos (end_b ends j))
            < at pos (anchor (suc n) parent pos (end_a ends j)) =
            omega (arith, ltb-false pu pv (sym e), other, place-u, place-v) in (
              ordering-new site ok (spanning T) W pos O (end_b ends j) (end_a ends j) kv ku lk' f turned,
              more-new site ok (spanning T) W pos O (end_b ends j) (end_a ends j) kv ku lk' f turned,
            )

      -- ---- where nothing ties any more, rings through (a, b) stay on the order

      module _ (pos held : List ℕ) (R : Grown n (Present ok m ends) a b parent pos held)
          (none : Settled ok m ends parent pos held) where
        shut : Shut (Present ok m ends) (Known n parent) (on_order pos) (anchor (suc n) parent pos)
        shut =
            record {
              spreads = spreads site ok parent W;
              loose = λ v q o e. not_both (on_order pos v)
                  (subst (λ (z : ℕ). on_order pos z ≡ true) e (hangs site ok (spanning T) W pos R.ordering v q).ends)
                  o;
              own = λ v q o. cond_true (on_order pos v) v _ o;
              within = within;
            }
          where
            Same : ℕ → ℕ → Type 0
            Same u v = (anchor (suc n) parent pos u ≡ anchor (suc n) parent pos v)
                ⊎ ((on_order pos u ≡ true) × (on_order pos v ≡ true))

            by-held : (u v : ℕ) → Known n parent u → Known n parent v →
                (at held u ≡ at held v) ⊎ ((on_order pos u ≡ true) × (on_order pos v ≡ true)) → Same u v
            by-held u v ku kv (inl q) = inl (sym (R.holds u ku) ∙ q ∙ R.holds v kv)
            by-held u v ku kv (inr q) = inr q

            turn : (u v : ℕ) → Same v u → Same u v
            turn u v (inl q) = inl (sym q)
            turn u v (inr q) = inr (q.1, q.0)

            within : (u v : ℕ) → Known n parent u → Present ok m ends u v → Same u v
            within u v q (j, h, o, inl (e, f)) =
                by-held u v q (spreads site ok parent W u v q (j, h, o, inl (e, f)))
                (rw (e, f) at (tie_none ok ends parent pos held j (none j h) o (rw e q.1)))
            within u v q (j, h, o, inr (e, f)) =
                let kv = spreads site ok parent W u v q (j, h, o, inr (e, f)) in
                turn u v (by-held v u kv q
                (rw (e, f) at (tie_none ok ends parent pos held j (none j h) o (rw e kv.1))))

        pub stays : {r : List ℕ} → Ring (Present ok m ends) r → Holds r a b → (z : ℕ) → Mem z r → on_order pos z ≡ true
        stays Q h = ring-stays (present-graph site ok) shut Q a b T.root R.ordering.upright.first
            R.ordering.upright.final h
