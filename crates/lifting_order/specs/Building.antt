-- Lifting orders, read from the last unit on, are what may be built up unit by unit; and building is never stuck before
-- an order is whole.
use Rattle.std.specs.Prelude.{◌≡◌, refl, ◌⊎◌, List, [], ◌∷◌, ◌++◌, ℕ, ◌≤◌, ◌<◌, length}
use Rattle.std.proofs.Common.{sym, ap, subst, ◌∙◌, inl, inr, arith}
use Rattle.std.proofs.Math.Decide.{ℕ_discrete}
use Rattle.base_lists.specs.Members.{Mem, Distinct, mem?, mem_right, mem_split, distinct_right}
use Rattle.theory_graph.specs.Rings.{last, Walk, Connected}
use Rattle.theory_graph.specs.Walks.{walk_map}
use Rattle.theory_graph.specs.Routes.{connected_trans, connected-link}
use Rattle.lifting_order.specs.Lifts.{Among, Lifts, MayStand, LeastEach, NotAfter}

-- each unit of the list might stand when it was its turn, the last first
abbrev pub Built : ℕ → (ℕ → ℕ → Type 0) → (ℕ → ℕ → Type 0) → List ℕ → Type 0
Built n E P [] = Unit {0}
Built n E P (v ∷ s) = MayStand n E P s v × Built n E P s

-- ---- lists

tail : List ℕ → List ℕ
tail [] = []
tail (x ∷ l) = l

head : List ℕ → ℕ
head [] = 0
head (x ∷ l) = x

tails : (x y : ℕ) (s t : List ℕ) → x ∷ s ≡ y ∷ t → s ≡ t
unfolding tail
tails x y s t q = ap tail q

heads : (x y : ℕ) (s t : List ℕ) → x ∷ s ≡ y ∷ t → x ≡ y
unfolding head
heads x y s t q = ap head q

-- what stands after v in a list without repeats does not depend on how it is parted
after-once : (a c b d : List ℕ) (v y : ℕ) → Distinct (a ++ v ∷ b) → a ++ v ∷ b ≡ c ++ v ∷ d → Mem y d → Mem y b
after-once [] [] b d v y u e m = subst (λ (l : List ℕ). Mem y l) (sym (tails v v b d e)) m
after-once [] (z ∷ c) b d v y u e m = absurd
    (u.0 (subst (λ (l : List ℕ). Mem v l) (sym (tails v z b (c ++ v ∷ d) e)) (mem_right v c (v ∷ d) (inl refl))))
after-once (x ∷ a) [] b d v y u e m =
    absurd (u.0 (subst (λ (z : ℕ). Mem z (a ++ v ∷ b)) (sym (heads x v (a ++ v ∷ b) d e))
    (mem_right v a (v ∷ b) (inl refl))))
after-once (x ∷ a) (z ∷ c) b d v y u e m = after-once a c b d v y u.1 (tails x z (a ++ v ∷ b) (c ++ v ∷ d) e) m

-- the last unit of o that is not in s, with all after it in s; or all are
abbrev LastOut : List ℕ → List ℕ → Type 0
LastOut s o = (a : List ℕ) × (v : ℕ) × (b : List ℕ) × (o ≡ a ++ v ∷ b) × (Mem v s → ⊥) × ((w : ℕ) → Mem w b → Mem w s)

last_out : (s o : List ℕ) → ((v : ℕ) → Mem v o → Mem v s) ⊎ LastOut s o
last_out s [] = inl (λ v m. absurd m)
last_out s (x ∷ o) = go (last_out s o) (mem? x s)
  where
    go : ((v : ℕ) → Mem v o → Mem v s) ⊎ LastOut s o → Dec (Mem x s) →
        ((v : ℕ) → Mem v (x ∷ o) → Mem v s) ⊎ LastOut s (x ∷ o)
    go (inr (a, v, b, e, d, h)) k = inr (x ∷ a, v, b, ap (λ (l : List ℕ). x ∷ l) e, d, h)
    go (inl h) (no k) = inr ([], x, o, refl, k, h)
    go (inl h) (yes k) = inl all
      where
        all : (v : ℕ) → Mem v (x ∷ o) → Mem v s
        all v (inl e) = rw e k
        all v (inr m) = h v m

more-among : (E : ℕ → ℕ → Type 0) (x : ℕ) (s : List ℕ) (v w : ℕ) → Connected (Among s E) v w →
    Connected (Among (x ∷ s) E) v w
more-among E x s v w (l, r) = (
  l,
  (
    walk_map (Among s E) (Among (x ∷ s) E) v l
        (λ a b q h. (h.0, inr h.1, inr h.2)) r.0,
    r.1,
  ),
)

module _ (n : ℕ) (E P : ℕ → ℕ → Type 0) where
  -- ---- from the building to the order

  built_rest : (a s : List ℕ) → Built n E P (a ++ s) → Built n E P s
  built_rest [] s b = b
  built_rest (v ∷ a) s b = built_rest a s b.1

  pub built_once : (s : List ℕ) → Built n E P s → Distinct s
  built_once [] b = tt
  built_once (v ∷ s) b = (b.0.down, built_once s b.1)

  pub built_units : (s : List ℕ) → Built n E P s → (v : ℕ) → Mem v s → v < n
  built_units [] b v m = absurd m
  built_units (x ∷ s) b v (inl e) = rw e b.0.unit
  built_units (x ∷ s) b v (inr m) = built_units s b.1 v m

  -- the first to stand is unit 0
  built_zero : (v : ℕ) (s : List ℕ) → Built n E P (v ∷ s) → (a : List ℕ) × (v ∷ s ≡ a ++ 0 ∷ [])
  built_zero v [] b = ([], ap (λ (z : ℕ). z ∷ []) (alone b.0.held))
    where
      alone : (v ≡ 0) ⊎ ((u : ℕ) × Mem u [] × E v u) → v ≡ 0
      alone (inl e) = e
      alone (inr h) = absurd h.1
  built_zero v (w ∷ s) b = let (a, e) = built_zero w s b.1 in (v ∷ a, ap (λ (l : List ℕ). v ∷ l) e)

  built_standing : (s : List ℕ) → Built n E P s → (v : ℕ) → Mem v s → Connected (Among s E) v 0
  built_standing [] b v m = absurd m
  built_standing (x ∷ s) b v (inr m) = more-among E x s v 0 (built_standing s b.1 v m)
  built_standing (x ∷ s) b v (inl e) = go b.0.held (built_standing s b.1)
    where
      go : (x ≡ 0) ⊎ ((u : ℕ) × Mem u s × E x u) → ((w : ℕ) → Mem w s → Connected (Among s E) w 0) →
          Connected (Among (x ∷ s) E) v 0
      go (inl z) ih = ([], (tt, e ∙ z))
      go (inr (u, m, k)) ih =
          rw e (connected_trans (Among (x ∷ s) E) x u 0 (connected-link (Among (x ∷ s) E) x u (k, inl refl, inr m))
          (more-among E x s u 0 (ih u m)))

  pub built_lifts : (s : List ℕ) → 0 < n → ((x y : ℕ) → P x y → x < n) → Built n E P s → ((v : ℕ) → v < n → Mem v s) →
      Lifts n E P s
  built_lifts [] one names b full = absurd (full 0 one)
  built_lifts (v ∷ s) one names b full =
      record {
        once = built_once (v ∷ s) b;
        all = λ w. (full w, built_units (v ∷ s) b w);
        zero_last = built_zero v s b;
        standing = λ a r e w m. built_standing r (built_rest a r (subst (λ (l : List ℕ). Built n E P l) e b)) w m;
        kept =
            λ x y p.
            let (a, c, e) = mem_split x (v ∷ s) (full x (names x y p)) in
            let h : Built n E P (x ∷ c) = built_rest a (x ∷ c) (subst (λ (l : List ℕ). Built n E P l) e b) in
            (a, c, e, h.0.free y p);
      }

  -- ---- from the order to the building

  module _ (o : List ℕ) (L : Lifts n E P o) where
    -- whatever stands, the unit before it in the order may stand next
    lifts-may : (a : List ℕ) (v : ℕ) (b : List ℕ) → o ≡ a ++ v ∷ b → MayStand n E P b v
    lifts-may a v b e =
        record {
          unit = (L.all v).1 (rw e (mem_right v a (v ∷ b) (inl refl)));
          down = (distinct_right a (v ∷ b) apart).0;
          held = let (l, r) = L.standing a (v ∷ b) e v (inl refl) in first l r.0 r.1;
          free = λ y p. let (c, d, q, m) = L.kept v y p in after-once a c b d v y apart (sym e ∙ q) m;
        }
      where
        apart : Distinct (a ++ v ∷ b)
        apart = subst (λ (l : List ℕ). Distinct l) e L.once

        -- the first link of the route that leaves v
        first : (l : List ℕ) → Walk (Among (v ∷ b) E) v l → last v l ≡ 0 → (v ≡ 0) ⊎ ((u : ℕ) × Mem u b × E v u)
        first [] w q = inl q
        first (y ∷ l) w q =
            go w.0.2 (λ e. first l (subst (λ (z : ℕ). Walk (Among (v ∷ b) E) z l) e w.1)
            (subst (λ (z : ℕ). last z l ≡ 0) e q))
          where
            go : Mem y (v ∷ b) → (y ≡ v → (v ≡ 0) ⊎ ((u : ℕ) × Mem u b × E v u)) → (v ≡ 0) ⊎ ((u : ℕ) × Mem u b × E v u)
            go (inl e) later = later e
            go (inr m) later = inr (y, m, w.0.0)

    pub lifts_built : (a s : List ℕ) → o ≡ a ++ s → Built n E P s
    lifts_built a [] e = tt
    lifts_built a (v ∷ s) e = (lifts-may a v s e, lifts_built (a ++ v ∷ []) s (e ∙ regroup a v s))
      where
        regroup : (a : List ℕ) (v : ℕ) (s : List ℕ) → a ++ v ∷ s ≡ (a ++ v ∷ []) ++ s
        regroup [] v s = refl
        regroup (x ∷ a) v s = ap (λ (l : List ℕ). x ∷ l) (regroup a v s)

    -- where not all units stand, some unit may stand next
    pub not_stuck : (s : List ℕ) → ((v : ℕ) → v < n → Mem v s) ⊎ ((v : ℕ) × MayStand n E P s v)
    not_stuck s = go (last_out s o)
      where
        still : (b : List ℕ) (v : ℕ) → ((w : ℕ) → Mem w b → Mem w s) → (v ≡ 0) ⊎ ((u : ℕ) × Mem u b × E v u) →
            (v ≡ 0) ⊎ ((u : ℕ) × Mem u s × E v u)
        still b v h (inl e) = inl e
        still b v h (inr (u, m, k)) = inr (u, h u m, k)

        go : ((v : ℕ) → Mem v o → Mem v s) ⊎ LastOut s o → ((v : ℕ) → v < n → Mem v s) ⊎ ((v : ℕ) × MayStand n E P s v)
        go (inl h) = inl (λ v l. h v ((L.all v).0 l))
        go (inr (a, v, b, e, d, h)) =
            let m = lifts-may a v b e in
            inr (v, record { unit = m.unit; down = d; held = still b v h m.held; free = λ y p. h y (m.free y p) })

  -- ---- the least

  pub each_built : (s : List ℕ) → LeastEach n E P s → Built n E P s
  each_built [] l = tt
  each_built (v ∷ s) l = (l.0.0, each_built s l.1)

  -- built from the least each time, a list is the least of those as long
  pub each-least : (r o : List ℕ) → LeastEach n E P r → Built n E P o → length r ≡ length o → NotAfter r o
  each-least [] [] l b e = inl refl
  each-least [] (y ∷ o) l b e = absurd (omega arith)
  each-least (x ∷ r) [] l b e = absurd (omega arith)
  each-least (x ∷ r) (y ∷ o) l b e = go (each-least r o l.1 b.1 (omega arith))
    where
      tops : r ≡ o → x ≤ y → Dec (x ≡ y) → NotAfter (x ∷ r) (y ∷ o)
      tops q h (yes z) = inl (rw (z, q) refl)
      tops q h (no z) = inr ([], [], r, x, y, refl, ap (λ (k : List ℕ). y ∷ k) (sym q), omega arith)

      go : NotAfter r o → NotAfter (x ∷ r) (y ∷ o)
      go (inl q) = tops q (l.0.1 y (subst (λ (z : List ℕ). MayStand n E P z y) (sym q) b.0)) (ℕ_discrete x y)
      go (inr (a, c, d, v, w, f, g, h)) =
          inr (x ∷ a, y ∷ c, d, v, w, ap (λ (k : List ℕ). x ∷ k) f, ap (λ (k : List ℕ). y ∷ k) g, h)
