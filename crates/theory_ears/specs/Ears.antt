-- An ear: a way between two vertices of an order over vertices that are not on it. Put in right after its lower end, it
-- leaves an order of the same kind.
use Rattle.std.specs.Prelude.{◌≡◌, refl, ◌⊎◌, ◌≢◌, Bool, true, false, List, [], ◌∷◌, ◌++◌, ℕ, suc, ◌+◌, ◌≤◌, ◌<◌}
use Rattle.std.specs.Prelude.{length}
use Rattle.std.proofs.Common.{sym, ap, subst, ◌∙◌, inl, inr, append_assoc, arith, length-append}
use Rattle.std.proofs.Math.Decide.{dec_le}
use Rattle.base_lists.specs.Members.{Mem, mem_split, mem_right}
use Rattle.theory_graph.specs.Rings.{Graph, last, Walk}
use Rattle.theory_graph.specs.Walks.{walk_right}
use Rattle.theory_ears.specs.Upright.{Upright}

-- a list is empty, or ends with its last element
last-split : (x : ℕ) (s : List ℕ) → (s ≡ []) ⊎ ((q : List ℕ) × (s ≡ q ++ last x s ∷ []))
last-split x [] = inl refl
last-split x (y ∷ s) = inr (go (last-split y s))
  where
    go : (s ≡ []) ⊎ ((q : List ℕ) × (s ≡ q ++ last y s ∷ [])) → (q : List ℕ) × (y ∷ s ≡ q ++ last y s ∷ [])
    go (inl e) = ([], rw e refl)
    go (inr (q, e)) = (y ∷ q, ap (λ (t : List ℕ). y ∷ t) e)

-- elements at one place of a list
tail_of : List ℕ → List ℕ
tail_of [] = []
tail_of (x ∷ l) = l

head_of : List ℕ → ℕ
head_of [] = 0
head_of (x ∷ l) = x

same_place : (s t : List ℕ) (z w : ℕ) (p q : List ℕ) → s ++ z ∷ p ≡ t ++ w ∷ q → length s ≡ length t → z ≡ w
unfolding tail_of head_of
same_place [] [] z w p q e n = ap head_of e
same_place [] (y ∷ t) z w p q e n = absurd (omega arith)
same_place (x ∷ s) [] z w p q e n = absurd (omega arith)
same_place (x ∷ s) (y ∷ t) z w p q e n = same_place s t z w p q (ap tail_of e) (omega arith)

-- the order on, pos with the ear l from x to y put in after x
pub record Inserted (on : ℕ → Bool) (pos : ℕ → ℕ) (x : ℕ) (l : List ℕ) (on' : ℕ → Bool) (pos' : ℕ → ℕ) : Type 0 where
  pub old : (z : ℕ) → on z ≡ true → on' z ≡ true
  pub new : (z : ℕ) → Mem z l → on' z ≡ true
  pub only : (z : ℕ) → on' z ≡ true → (on z ≡ true) ⊎ Mem z l
  pub placed : (s t : List ℕ) (z : ℕ) → l ≡ s ++ z ∷ t → pos' z ≡ pos x + suc (length s)
  pub low : (z : ℕ) → on z ≡ true → pos z ≤ pos x → pos' z ≡ pos z
  pub high : (z : ℕ) → on z ≡ true → pos x < pos z → pos' z ≡ pos z + length l

module _
    {E : ℕ → ℕ → Type 0} {on on' : ℕ → Bool} {pos pos' : ℕ → ℕ} {a b : ℕ} (G : Graph E) (U : Upright E on pos a b)
    (x y : ℕ) (l : List ℕ) (ox : on x ≡ true) (oy : on y ≡ true) (before : pos x < pos y) (way : Walk E x (l ++ y ∷ []))
    (I : Inserted on pos x l on' pos')
  where
    -- where a vertex stands: up to x as it was, past x moved on, or in the ear
    data Stands (z : ℕ) : Type 0 where
      under : on z ≡ true → pos z ≤ pos x → pos' z ≡ pos z → Stands z
      past : on z ≡ true → pos x < pos z → pos' z ≡ pos z + length l → Stands z
      within : (s t : List ℕ) → l ≡ s ++ z ∷ t → pos' z ≡ pos x + suc (length s) →
          length l ≡ length s + suc (length t) → Stands z

    stands : (z : ℕ) → on' z ≡ true → Stands z
    stands z o = go (I.only z o)
      where
        go : (on z ≡ true) ⊎ Mem z l → Stands z
        go (inl h) = by (dec_le (pos z) (pos x))
          where
            by : Dec (pos z ≤ pos x) → Stands z
            by (yes k) = under h k (I.low z h k)
            by (no k) = past h (omega arith) (I.high z h (omega arith))
        go (inr m) =
            let c = mem_split z l m in
            within c.0 c.1 c.2 (I.placed c.0 c.1 z c.2) (ap length c.2
            ∙ length-append c.0 (z ∷ c.1))

    -- what stood before stands before
    monotone : (v w : ℕ) → on v ≡ true → on w ≡ true → pos v < pos w → pos' v < pos' w
    monotone v w ov ow h = go (dec_le (pos v) (pos x)) (dec_le (pos w) (pos x))
      where
        go : Dec (pos v ≤ pos x) → Dec (pos w ≤ pos x) → pos' v < pos' w
        go (yes i) (yes j) = omega (arith, I.low v ov i, I.low w ow j)
        go (yes i) (no j) = omega (arith, I.low v ov i, I.high w ow (omega arith))
        go (no i) (yes j) = absurd (omega arith)
        go (no i) (no j) = omega (arith, I.high v ov (omega arith), I.high w ow (omega arith))

    pub ear-upright : Upright E on' pos' a b
    ear-upright =
        record {
          link = U.link;
          first = I.old a U.first;
          final = I.old b U.final;
          least = λ v o. least v (stands v o);
          greatest = λ v o. greatest v (stands v o);
          once = λ v w o q e. once v w e (stands v o) (stands w q);
          below = λ v o na nb. below v na nb (stands v o);
          above = λ v o na nb. above v na nb (stands v o);
        }
      where
        pos_a : pos' a ≡ pos a
        pos_a = I.low a U.first (U.least x ox)

        pos_b : pos' b ≡ pos b + length l
        pos_b = I.high b U.final (omega (arith, U.greatest y oy))

        least : (v : ℕ) → Stands v → pos' a ≤ pos' v
        least v (under o h e) = omega (arith, pos_a, U.least v o)
        least v (past o h e) = omega (arith, pos_a, U.least v o)
        least v (within s t c e n) = omega (arith, pos_a, U.least x ox)

        greatest : (v : ℕ) → Stands v → pos' v ≤ pos' b
        greatest v (under o h e) = omega (arith, pos_b, U.greatest v o)
        greatest v (past o h e) = omega (arith, pos_b, U.greatest v o)
        greatest v (within s t c e n) = omega (arith, pos_b, U.greatest y oy)

        once : (v w : ℕ) → pos' v ≡ pos' w → Stands v → Stands w → v ≡ w
        once v w e (under o h f) (under q i g) = U.once v w o q (omega arith)
        once v w e (under o h f) (past q i g) = absurd (omega arith)
        once v w e (under o h f) (within s t c g n) = absurd (omega arith)
        once v w e (past o h f) (under q i g) = absurd (omega arith)
        once v w e (past o h f) (past q i g) = U.once v w o q (omega arith)
        once v w e (past o h f) (within s t c g n) = absurd (omega arith)
        once v w e (within s t c f n) (under q i g) = absurd (omega arith)
        once v w e (within s t c f n) (past q i g) = absurd (omega arith)
        once v w e (within s t c f n) (within p r k g i) = same_place s p v w t r (sym c ∙ k) (omega arith)

        below_old : (v : ℕ) → v ≢ a → v ≢ b → on v ≡ true → (u : ℕ) × (on' u ≡ true) × E v u × (pos' u < pos' v)
        below_old v na nb o = let (u, ou, lu, h) = U.below v o na nb in (u, I.old u ou, lu, monotone u v ou o h)

        above-old : (v : ℕ) → v ≢ a → v ≢ b → on v ≡ true → (u : ℕ) × (on' u ≡ true) × E v u × (pos' v < pos' u)
        above-old v na nb o = let (u, ou, lu, h) = U.above v o na nb in (u, I.old u ou, lu, monotone v u o ou h)

        -- the way from the vertex before v of the ear on
        from : (s t : List ℕ) (v : ℕ) → l ≡ s ++ v ∷ t → Walk E (last x s) (v ∷ (t ++ y ∷ []))
        from s t v c =
            walk_right E x s (v ∷ (t ++ y ∷ []))
            (subst (λ (q : List ℕ). Walk E x q) (ap (λ (q : List ℕ). q ++ y ∷ []) c
            ∙ append_assoc s (v ∷ t) (y ∷ [])) way)

        below : (v : ℕ) → v ≢ a → v ≢ b → Stands v → (u : ℕ) × (on' u ≡ true) × E v u × (pos' u < pos' v)
        below v na nb (under o h e) = below_old v na nb o
        below v na nb (past o h e) = below_old v na nb o
        below v na nb (within s t c e n) = go (last-split x s)
          where
            back : E v (last x s)
            back = G.flip (last x s) v (from s t v c).0

            go : (s ≡ []) ⊎ ((q : List ℕ) × (s ≡ q ++ last x s ∷ [])) →
                (u : ℕ) × (on' u ≡ true) × E v u × (pos' u < pos' v)
            go (inl z) = (
              x,
              I.old x ox,
              subst (λ (q : List ℕ). E v (last x q)) z back,
              omega (arith, I.low x ox (omega arith)),
            )
            go (inr (q, z)) =
                let w = last x s in
                let split : l ≡ q ++ w ∷ (v ∷ t) =
                c ∙ ap (λ (k : List ℕ). k ++ v ∷ t) z ∙ append_assoc q (w ∷ []) (v ∷ t) in (
                  w,
                  I.new w (rw split (mem_right w q (w ∷ (v ∷ t)) (inl refl))),
                  back,
                  omega (arith, I.placed q (v ∷ t) w split, ap length z, length-append q (w ∷ [])),
                )

        above : (v : ℕ) → v ≢ a → v ≢ b → Stands v → (u : ℕ) × (on' u ≡ true) × E v u × (pos' v < pos' u)
        above v na nb (under o h e) = above-old v na nb o
        above v na nb (past o h e) = above-old v na nb o
        above v na nb (within s t c e n) = go t c n
          where
            go : (t : List ℕ) → l ≡ s ++ v ∷ t → length l ≡ length s + suc (length t) →
                (u : ℕ) × (on' u ≡ true) × E v u × (pos' v < pos' u)
            go [] c n = (y, I.old y oy, (from s [] v c).1.0, omega (arith, I.high y oy before))
            go (w ∷ t) c n =
                let split : l ≡ (s ++ v ∷ []) ++ w ∷ t = c ∙ sym (append_assoc s (v ∷ []) (w ∷ t)) in (
                  w,
                  I.new w (rw split (mem_right w (s ++ v ∷ []) (w ∷ t) (inl refl))),
                  (from s (w ∷ t) v c).1.0,
                  omega (arith, I.placed (s ++ v ∷ []) t w split, length-append s (v ∷ [])),
                )
