-- The order (T-04): a list of places from a to b as `Upright` has it, of units that the tree has. An ear put in leaves
-- an order.
use Rattle.std.specs.Prelude.{◌≡◌, refl, Bool, false, not, ◌&&◌, ◌||◌, ◌⊎◌, ◌↔◌, ◌≢◌, eqb, ltb, get_or, set, replicate}
use Rattle.std.proofs.Common.{sym, subst, ◌∙◌, inl, inr, length-append, length-set, get_or-set_same, get_or-set_other}
use Rattle.std.proofs.Common.{eqb-true, eq-eqb, ne_eqb, ltb-true, ltb-false, lt-ltb, le-ltb}
use Rattle.std.proofs.Math.Path.{ap}
use Rattle.std.proofs.Math.Bool.{true, cond}
use mathlib.Core.List.{List, [], ◌∷◌, ◌++◌, reverse, reverse-cons, append_assoc}
use Prim.Native.Nat.{ℕ, zero, suc, ◌+◌, ◌-◌, ◌≤◌, ◌<◌, min}
use Rattle.std.proofs.Math.Decide.{ℕ_discrete, dec_lt, dec_le}
use native.Mathlib.Omega.{arith}
use Rattle.std.proofs.Math.ListN.{length}
use Rattle.std.proofs.lemmas.List.{length-replicate, get_or-replicate}
use Rattle.std.proofs.lemmas.Bool.{eqb-false}
use Rattle.base_lists.specs.Members.{Mem, Distinct, Disjoint, mem_cases, mem_left, mem_right, mem_split, mem_reverse}
use Rattle.base_lists.specs.Members.{distinct_join, distinct_reverse}
use Rattle.base_lists.specs.Counts.{count_le}
use Rattle.base_lists.specs.Folds.{count}
use Rattle.base_lists.specs.Tables.{over, length_over, get_d_over, get_d_over_past}
use Rattle.base_lists.specs.Tests.{either, cond_true, cond_false, and_left, and_right, and-true, not_both, refuted}
use Rattle.table.specs.Table.{end_a, end_b}
use Rattle.spec_rules.specs.Basics.{ABSENT, at}
use Rattle.theory_graph.specs.Rings.{Graph, last, Walk, SameLink}
use Rattle.theory_graph.specs.Walks.{last-append, walk_join, walk_back}
use Rattle.theory_graph.proofs.Together.{ends-apart}
use Rattle.theory_ears.specs.Upright.{ended, chain, Falls, Chain, chain-is, ended-next, ended-members, Upright}
use Rattle.theory_ears.specs.Ears.{Inserted, ear-upright}
use Rattle.theory_reach.specs.Site.{Site}
use Rattle.theory_ears.specs.Present.{Present, present-graph}
use Rattle.theory_ears.specs.Steps.{on_order, anchor, hanging, up_from, down_from, moved, woven}
use Rattle.theory_ears.specs.Lists.{length-reverse, reverse-split, one_place, up-length, down-length, up-other}
use Rattle.theory_ears.specs.Lists.{down-other, up_at, down-at, count_list}
use Rattle.theory_ears.specs.Tree.{Known, Spanning, Whole}

pub record Ordering (n : ℕ) (E : ℕ → ℕ → Type 0) (a b : ℕ) (parent pos : List ℕ) : Type 0 where
  pub room : length pos ≡ 256
  pub upright : Upright E (on_order pos) (at pos) a b
  pub known : (v : ℕ) → on_order pos v ≡ true → Known n parent v
  pub full : at pos b ≤ count n (on_order pos)

pub on-place : (pos : List ℕ) (v : ℕ) → on_order pos v ≡ true → 1 ≤ at pos v
on-place pos v h = go (ℕ_discrete (at pos v) 0)
  where
    go : Dec (at pos v ≡ 0) → 1 ≤ at pos v
    go (yes e) = absurd (not_both (on_order pos v) h (rw e refl))
    go (no e) = omega arith

pub place-on : (pos : List ℕ) (v : ℕ) → 1 ≤ at pos v → on_order pos v ≡ true
place-on pos v h = rw (ne_eqb (at pos v) 0 (λ e. omega arith)) refl

-- a chain read back from its end; and one link before it
chain_back : {E : ℕ → ℕ → Type 0} {On : ℕ → Type 0} {h : ℕ → ℕ} {stop : ℕ → Bool} (G : Graph E) {v e : ℕ} {l : List ℕ} →
    Chain E On h stop v e l
    → Walk E e (reverse l) × (last e (reverse l) ≡ v)
chain_back {E} G {v} {e} {l} C = go C.way
  where
    go : ((v ≡ e) × (l ≡ [])) ⊎ ((t : List ℕ) × (l ≡ v ∷ t) × Walk E v (t ++ e ∷ [])) →
        Walk E e (reverse l) × (last e (reverse l) ≡ v)
    go (inl (f, g)) = rw g (tt, sym f)
    go (inr (t, g, w)) = rw (g, reverse-cons v t) (walk_back E G.flip v t e w, last-append e (reverse t) (v ∷ []))

chain-from : {E : ℕ → ℕ → Type 0} {On : ℕ → Type 0} {h : ℕ → ℕ} {stop : ℕ → Bool} {v e : ℕ} {l : List ℕ} →
    Chain E On h stop v e l → (u : ℕ) → E u v
    → Walk E u (l ++ e ∷ [])
chain-from {E} {v = v} {e} {l} C u k = go C.way
  where
    go : ((v ≡ e) × (l ≡ [])) ⊎ ((t : List ℕ) × (l ≡ v ∷ t) × Walk E v (t ++ e ∷ [])) → Walk E u (l ++ e ∷ [])
    go (inl (f, g)) = rw g (subst (λ (z : ℕ). E u z) f k, tt)
    go (inr (t, g, w)) = rw g (k, w)

-- a chain from a unit that does not pass is not empty
chain-some : {E : ℕ → ℕ → Type 0} {On : ℕ → Type 0} {h : ℕ → ℕ} {stop : ℕ → Bool} {v e : ℕ} {l : List ℕ} →
    Chain E On h stop v e l → stop v ≡ false
    → Mem v l × (1 ≤ length l)
chain-some {E} {stop = stop} {v = v} {e} {l} C o = go C.way
  where
    go : ((v ≡ e) × (l ≡ [])) ⊎ ((t : List ℕ) × (l ≡ v ∷ t) × Walk E v (t ++ e ∷ [])) → Mem v l × (1 ≤ length l)
    go (inl (f, g)) = absurd (not_both (stop e) C.ends (rw (← f) o))
    go (inr (t, g, w)) = rw g (inl refl, omega arith)

-- a chain is no longer than its steps
pub chain-short : (next : ℕ → ℕ) (stop : ℕ → Bool) (k v : ℕ) → length (chain next stop k v) ≤ k
chain-short next stop zero v = omega arith
chain-short next stop (suc k) v = go (stop v) (chain-short next stop k (next v))
  where
    go : (t : Bool) → length (chain next stop k (next v)) ≤ k →
        length (cond t [] (v ∷ chain next stop k (next v))) ≤ suc k
    go true h = omega arith
    go false h = omega arith

module _
    {n m : ℕ} {ends : List ℕ} (site : Site n m ends) (ok : ℕ → Bool) {a b : ℕ} {parent : List ℕ} {d : ℕ → ℕ}
    (S : Spanning n (Present ok m ends) a parent d (suc n)) (W : Whole ok m ends parent)
  where
    module _ (pos : List ℕ) (O : Ordering n (Present ok m ends) a b parent pos) where
      pub falls : Falls (Present ok m ends) (Known n parent) d (at parent) (on_order pos)
      falls =
          record {
            stays = λ v k o. (S.up v k (other v o)).0;
            linked = λ v k o. (S.up v k (other v o)).1;
            less = λ v k o. (S.up v k (other v o)).2;
          }
        where
          other : (v : ℕ) → on_order pos v ≡ false → v ≢ a
          other v o e = not_both (on_order pos v) (rw e O.upright.first) o

      pub hangs : (v : ℕ) → Known n parent v →
          Chain (Present ok m ends) (Known n parent) d (on_order pos) v (anchor (suc n) parent pos v)
          (hanging (suc n) parent pos v)
      hangs v k = chain-is falls (suc n) v k (S.bound v k)

      unit-small : (v : ℕ) → v < n → v < length pos
      unit-small v l = omega (arith, O.room, site.few_units)

      -- ---- an ear put in

      module _ (u v : ℕ) (ku : Known n parent u) (kv : Known n parent v) (l : Present ok m ends u v)
          (before : at pos (anchor (suc n) parent pos u) < at pos (anchor (suc n) parent pos v))
          (loose : (on_order pos u && on_order pos v) ≡ false) where
        abbrev x : ℕ
        x = anchor (suc n) parent pos u

        abbrev y : ℕ
        y = anchor (suc n) parent pos v

        abbrev s : List ℕ
        s = hanging (suc n) parent pos u

        abbrev t : List ℕ
        t = hanging (suc n) parent pos v

        abbrev q : ℕ
        q = at pos (anchor (suc n) parent pos u)

        abbrev ear : List ℕ
        ear = reverse s ++ t

        new : List ℕ
        new = woven n parent pos u v

        off-s : (z : ℕ) → Mem z s → on_order pos z ≡ false
        off-s z k = ((hangs u ku).members z k).2

        off-t : (z : ℕ) → Mem z t → on_order pos z ≡ false
        off-t z k = ((hangs v kv).members z k).2

        -- the two chains meet nowhere: they end at different units
        apart : Disjoint s t
        apart z i j =
            omega (
              arith,
              ap (at pos) (sym (ended-members falls (suc n) (suc n) u ku (S.bound u ku) (S.bound u ku) z i)
                  ∙ ended-members falls (suc n) (suc n) v kv (S.bound v kv) (S.bound v kv) z j),
            )

        different : Distinct ear
        different = distinct_join (reverse s) t (distinct_reverse s (hangs u ku).different) (hangs v kv).different
            (λ z i j. apart z (mem_reverse z s i) j)

        ear-off : (z : ℕ) → Mem z ear → on_order pos z ≡ false
        ear-off z k = go (mem_cases z (reverse s) t k)
          where
            go : Mem z (reverse s) ⊎ Mem z t → on_order pos z ≡ false
            go (inl i) = off-s z (mem_reverse z s i)
            go (inr i) = off-t z i

        ear-known : (z : ℕ) → Mem z ear → Known n parent z
        ear-known z k = go (mem_cases z (reverse s) t k)
          where
            go : Mem z (reverse s) ⊎ Mem z t → Known n parent z
            go (inl i) = ((hangs u ku).members z (mem_reverse z s i)).0
            go (inr i) = ((hangs v kv).members z i).0

        way : Walk (Present ok m ends) x (ear ++ y ∷ [])
        way =
            let r = chain_back (present-graph site ok) (hangs u ku) in
            rw (append_assoc (reverse s) t (y ∷ []))
            (walk_join (Present ok m ends) x (reverse s) (t ++ y ∷ []) r.0 (rw r.1 (chain-from (hangs v kv) u l)))

        ear-length : length ear ≡ length s + length t
        ear-length = length-append (reverse s) t ∙ omega (arith, length-reverse s)

        -- ---- places

        moved-room : length (moved n q (length s + length t) pos) ≡ length pos
        unfolding moved
        moved-room = length_over n _ pos

        moved_at : (z : ℕ) → z < n → at (moved n q (length s + length t) pos) z
            ≡ cond (ltb q (at pos z)) (min (at pos z + (length s + length t)) 2048) (at pos z)
        unfolding moved
        moved_at z h = get_d_over n (λ (w : ℕ). cond (ltb q (at pos w)) (min (at pos w + (length s + length t)) 2048)
            (at pos w)) pos z 0 h (unit-small z h)

        moved-off : (z : ℕ) → at pos z ≡ 0 → at (moved n q (length s + length t) pos) z ≡ 0
        unfolding moved
        moved-off z e = go (dec_lt z n)
          where
            go : Dec (z < n) → at (moved n q (length s + length t) pos) z ≡ 0
            go (yes h) = moved_at z h ∙ cond_false (ltb q (at pos z)) (min (at pos z + (length s + length t)) 2048)
                (at pos z) (le-ltb q (at pos z) (omega arith)) ∙ e
            go (no h) = get_d_over_past n
                (λ (w : ℕ). cond (ltb q (at pos w)) (min (at pos w + (length s + length t)) 2048) (at pos w)) pos z 0
                (omega arith) ∙ e

        new-room : length new ≡ 256
        unfolding new woven
        new-room =
            up-length (suc (q + length s)) t (down_from (q + length s) s (moved n q (length s + length t) pos))
            ∙ down-length (q + length s) s (moved n q (length s + length t) pos) ∙ moved-room ∙ O.room

        new-other : (z : ℕ) → (Mem z s → ⊥) → (Mem z t → ⊥) → at new z ≡ at (moved n q (length s + length t) pos) z
        unfolding new woven
        new-other z i j =
            up-other (suc (q + length s)) t (down_from (q + length s) s (moved n q (length s + length t) pos)) z j
            ∙ down-other (q + length s) s (moved n q (length s + length t) pos) z i

        new-t : (t₁ t₂ : List ℕ) (z : ℕ) → t ≡ t₁ ++ z ∷ t₂ → at new z ≡ suc (q + length s) + length t₁
        unfolding new woven
        new-t t₁ t₂ z e =
            ap (λ (k : List ℕ). at (up_from (suc (q + length s)) k base) z) e
            ∙ up_at (suc (q + length s)) t₁ z t₂ base (subst Distinct e (hangs v kv).different)
            (omega (
              arith,
              unit-small z lz,
              moved-room,
              down-length (q + length s) s (moved n q (length s + length t) pos),
            ))
          where
            base : List ℕ
            base = down_from (q + length s) s (moved n q (length s + length t) pos)

            lz : z < n
            lz = ((hangs v kv).members z (rw e (mem_right z t₁ (z ∷ t₂) (inl refl)))).0.0

        new-s : (s₁ s₂ : List ℕ) (z : ℕ) → s ≡ s₁ ++ z ∷ s₂ → at new z ≡ (q + length s) - length s₁
        unfolding new woven
        new-s s₁ s₂ z e =
            up-other (suc (q + length s)) t (down_from (q + length s) s base) z (λ j. apart z mz j)
            ∙ ap (λ (k : List ℕ). at (down_from (q + length s) k base) z) e
            ∙ down-at (q + length s) s₁ z s₂ base (subst Distinct e (hangs u ku).different)
            (omega (arith, unit-small z ((hangs u ku).members z mz).0.0, moved-room))
          where
            base : List ℕ
            base = moved n q (length s + length t) pos

            mz : Mem z s
            mz = rw e (mem_right z s₁ (z ∷ s₂) (inl refl))

        placed : (p r : List ℕ) (z : ℕ) → ear ≡ p ++ z ∷ r → at new z ≡ q + suc (length p)
        placed p r z e = go (mem_cases z (reverse s) t (rw e (mem_right z p (z ∷ r) (inl refl))))
          where
            go : Mem z (reverse s) ⊎ Mem z t → at new z ≡ q + suc (length p)
            go (inr i) =
                let c = mem_split z t i in
                let t₁ = c.0 in
                let t₂ = c.1 in
                let f : ear ≡ (reverse s ++ t₁) ++ z ∷ t₂ =
                ap (λ (k : List ℕ). reverse s ++ k) c.2 ∙ sym (append_assoc (reverse s) t₁ (z ∷ t₂)) in
                let g : length (reverse s ++ t₁) ≡ length p =
                one_place (reverse s ++ t₁) z t₂ p r (subst Distinct f different) (sym f ∙ e) in
                new-t t₁ t₂ z c.2 ∙ omega (arith, length-append (reverse s) t₁, length-reverse s)
            go (inl i) =
                let c = mem_split z s (mem_reverse z s i) in
                let s₁ = c.0 in
                let s₂ = c.1 in
                let f : ear ≡ reverse s₂ ++ z ∷ (reverse s₁ ++ t) =
                ap (λ (k : List ℕ). reverse k ++ t) c.2 ∙ ap (λ (k : List ℕ). k ++ t) (reverse-split s₁ z s₂)
                ∙ append_assoc (reverse s₂) (z ∷ reverse s₁) t in
                let g : length (reverse s₂) ≡ length p =
                one_place (reverse s₂) z (reverse s₁ ++ t) p r (subst Distinct f different) (sym f ∙ e) in
                new-s s₁ s₂ z c.2 ∙ omega (arith, ap length c.2, length-append s₁ (z ∷ s₂), length-reverse s₂)

        not_ear : (z : ℕ) → on_order pos z ≡ true →
            at new z ≡ cond (ltb q (at pos z)) (min (at pos z + (length s + length t)) 2048) (at pos z)
        not_ear z o =
            new-other z (λ i. not_both (on_order pos z) o (off-s z i)) (λ i. not_both (on_order pos z) o (off-t z i))
            ∙ moved_at z (O.known z o).0

        low : (z : ℕ) → on_order pos z ≡ true → at pos z ≤ q → at new z ≡ at pos z
        low z o h = not_ear z o ∙ cond_false (ltb q (at pos z)) (min (at pos z + (length s + length t)) 2048) (at pos z)
            (le-ltb q (at pos z) h)

        high : (z : ℕ) → on_order pos z ≡ true → q < at pos z → at new z ≡ at pos z + length ear
        high z o h = not_ear z o ∙ cond_true (ltb q (at pos z)) (min (at pos z + (length s + length t)) 2048) (at pos z)
            (lt-ltb q (at pos z) h)
            ∙ omega (
              arith,
              ear-length,
              O.upright.greatest z o,
              O.full,
              count_le n (on_order pos),
              site.few_units,
              chain-short (at parent) (on_order pos) (suc n) u,
              chain-short (at parent) (on_order pos) (suc n) v,
            )

        old-on : (z : ℕ) → on_order pos z ≡ true → on_order new z ≡ true
        old-on z o = place-on new z (go (dec_le (at pos z) q))
          where
            go : Dec (at pos z ≤ q) → 1 ≤ at new z
            go (yes h) = omega (arith, low z o h, on-place pos z o)
            go (no h) = omega (arith, high z o (omega arith), on-place pos z o)

        new-on : (z : ℕ) → Mem z ear → on_order new z ≡ true
        new-on z k = let c = mem_split z ear k in place-on new z (omega (arith, placed c.0 c.1 z c.2))

        only : (z : ℕ) → on_order new z ≡ true → (on_order pos z ≡ true) ⊎ Mem z ear
        only z o = go (either (on_order pos z)) (Rattle.base_lists.specs.Members.mem? z ear)
          where
            mem_back : Mem z s → Mem z (reverse s)
            mem_back i =
                let c = mem_split z s i in
                rw (c.2, reverse-split c.0 z c.1) (mem_right z (reverse c.1) (z ∷ reverse c.0) (inl refl))

            zero_at : on_order pos z ≡ false → at pos z ≡ 0
            zero_at e = zz (ℕ_discrete (at pos z) 0)
              where
                zz : Dec (at pos z ≡ 0) → at pos z ≡ 0
                zz (yes f) = f
                zz (no f) = absurd (not_both (on_order pos z) (place-on pos z (omega arith)) e)

            go : (on_order pos z ≡ true) ⊎ (on_order pos z ≡ false) → Dec (Mem z ear) → (on_order pos z ≡ true)
                ⊎ Mem z ear
            go (inl e) k = inl e
            go (inr e) (yes k) = inr k
            go (inr e) (no k) =
                let f : at new z ≡ 0 = new-other z (λ i. k (mem_left z (reverse s) t (mem_back i)))
                (λ i. k (mem_right z (reverse s) t i)) ∙ moved-off z (zero_at e) in
                absurd (omega (arith, on-place new z o))

        inserted : Inserted (on_order pos) (at pos) x ear (on_order new) (at new)
        inserted = record { old = old-on; new = new-on; only = only; placed = placed; low = low; high = high }

        ox : on_order pos x ≡ true
        ox = (hangs u ku).ends

        oy : on_order pos y ≡ true
        oy = (hangs v kv).ends

        some-new : 1 ≤ length ear
        some-new = go (either (on_order pos u)) (either (on_order pos v))
          where
            go : (on_order pos u ≡ true) ⊎ (on_order pos u ≡ false) → (on_order pos v ≡ true) ⊎ (on_order pos v ≡ false)
                →
                1 ≤ length ear
            go (inr e) f = omega (arith, ear-length, (chain-some (hangs u ku) e).1)
            go (inl e) (inr f) = omega (arith, ear-length, (chain-some (hangs v kv) f).1)
            go (inl e) (inl f) = absurd (not_both (on_order pos u && on_order pos v)
                (and-true (on_order pos u) (on_order pos v) e f) loose)

        pub ordering-new : Ordering n (Present ok m ends) a b parent (woven n parent pos u v)
        unfolding new
        ordering-new =
            record {
              room = new-room;
              upright = ear-upright (present-graph site ok) O.upright x y ear ox oy before way inserted;
              known = λ z o. kn z (only z o);
              full =
                  omega (
                    arith,
                    high b O.upright.final (omega (arith, O.upright.greatest y oy)),
                    O.full,
                    count_list n ear (on_order pos) (on_order new) different
                        (λ z k. ((ear-known z k).0, ear-off z k, new-on z k)) old-on,
                  );
            }
          where
            kn : (z : ℕ) → (on_order pos z ≡ true) ⊎ Mem z ear → Known n parent z
            kn z (inl o) = O.known z o
            kn z (inr k) = ear-known z k

        pub more-new : at pos b < at (woven n parent pos u v) b
        unfolding new
        more-new = omega (arith, high b O.upright.final (omega (arith, O.upright.greatest y oy)), some-new)

        -- both ends of the link are on it now
        pub ends_on : (on_order (woven n parent pos u v) u ≡ true) × (on_order (woven n parent pos u v) v ≡ true)
        unfolding new
        ends_on = (at-u (either (on_order pos u)), at-v (either (on_order pos v)))
          where
            at-u : (on_order pos u ≡ true) ⊎ (on_order pos u ≡ false) → on_order new u ≡ true
            at-u (inl e) = old-on u e
            at-u (inr e) =
                let c = mem_split u s (chain-some (hangs u ku) e).0 in
                new-on u (mem_left u (reverse s) t
                (rw (c.2, reverse-split c.0 u c.1)
                (mem_right u (reverse c.1) (u ∷ reverse c.0) (inl refl))))

            at-v : (on_order pos v ≡ true) ⊎ (on_order pos v ≡ false) → on_order new v ≡ true
            at-v (inl e) = old-on v e
            at-v (inr e) = new-on v (mem_right v (reverse s) t (chain-some (hangs v kv) e).0)
