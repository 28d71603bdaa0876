-- What the steps of the growing order leave, of any site with its tree.
use Rattle.std.specs.Prelude.{◌≡◌, Bool, true, false, cond, ◌⊎◌, List, [], ◌∷◌, ltb, length, set}
use Rattle.std.proofs.Math.Path.{refl, subst}
use Rattle.std.proofs.Common.{sym, ap, ◌∙◌, inl, inr, add-one, arith, length-set}
use Prim.Native.Nat.{ℕ, zero, suc, ◌+◌, ◌-◌, ◌≤◌, ◌<◌, min}
use Rattle.std.proofs.Math.Decide.{dec_lt}
use Rattle.base_lists.specs.Counts.{count_le}
use Rattle.base_lists.specs.Rounds.{over-more, over-all}
use Rattle.base_lists.specs.Tables.{over, get_d_over_past}
use Rattle.base_lists.specs.Tests.{either, cond_true, cond_false}
use Rattle.table.specs.Table.{end_a, end_b}
use Rattle.spec_rules.specs.Basics.{at}
use Rattle.theory_reach.specs.Site.{Site}
use Rattle.theory_ears.specs.Present.{Present}
use Rattle.theory_ears.specs.Steps.{on_order, anchor, hanging, ties, laid, onward, moved, woven, climb}
use Rattle.theory_ears.specs.Tree.{Known, Tree, Whole}
use Rattle.theory_ears.specs.Order.{Ordering, chain-short, hangs}
use Rattle.theory_ears.specs.Tree.{spanning}
use Rattle.theory_ears.specs.Growth.{Grown, Settled, HeldTo, held-turn, held-done, tie-known, eared}
use Rattle.theory_ears.specs.Upright.{chain}

-- ---- the anchors

unfoldable pub holding : List ℕ → List ℕ → List ℕ → ℕ → List ℕ → List ℕ
holding parent seq pos zero held = held
holding parent seq pos (suc i) held =
    let t = holding parent seq pos i held in
    set t (at seq i) (cond (on_order pos (at seq i)) (at seq i) (at t (at parent (at seq i))))

pub holding-begun : (parent seq pos held : List ℕ) → held ≡ holding parent seq pos 0 held
unfolding holding
holding-begun parent seq pos held = refl

pub holding-more : (parent seq pos held t new : List ℕ) (i v p above x : ℕ) (b : Bool) →
    t ≡ holding parent seq pos i held → v ≡ at seq i → p ≡ at parent v → above ≡ at t p
    → b ≡ on_order pos v → x ≡ cond b v above → new ≡ set t v x → new ≡ holding parent seq pos (i + 1) held
unfolding holding
holding-more parent seq pos held t new i v p above x b et ev ep ea eb ex en =
    rw (en, ex, eb, ea, ep, ev, et, add-one i) refl

holding-length : (parent seq pos held : List ℕ) (i : ℕ) → length (holding parent seq pos i held) ≡ length held
unfolding holding
holding-length parent seq pos held zero = refl
holding-length parent seq pos held (suc i) =
    length-set (holding parent seq pos i held) (at seq i) _ ∙ holding-length parent seq pos held i

pub holding-all : (parent seq pos held t : List ℕ) (i k : ℕ) → i ≤ k → k ≤ i → t ≡ holding parent seq pos i held →
    t ≡ holding parent seq pos k held
holding-all parent seq pos held t i k a b e = let q : i ≡ k =
    omega arith in e ∙ ap (λ (z : ℕ). holding parent seq pos z held) q

module _ {n m : ℕ} {ends : List ℕ} (site : Site n m ends) (ok : ℕ → Bool) (a b : ℕ) (parent seq : List ℕ) (k : ℕ)
    (T : Tree n (Present ok m ends) a parent seq k) (W : Whole ok m ends parent) (pos : List ℕ)
    (O : Ordering n (Present ok m ends) a b parent pos) where
  pub holding-grown : (held : List ℕ) → length held ≡ 256 →
      Grown n (Present ok m ends) a b parent pos (holding parent seq pos k held)
  unfolding holding
  holding-grown held long = held-done site ok a b parent seq k T W pos O (holding parent seq pos k held)
      (holding-length parent seq pos held k ∙ long) (all k (omega arith))
    where
      all : (i : ℕ) → i ≤ k → HeldTo n parent seq pos (holding parent seq pos i held) i
      all zero h = λ q l. absurd (omega arith)
      all (suc i) h =
          subst (HeldTo n parent seq pos (holding parent seq pos (suc i) held)) (add-one i)
          (held-turn site ok a b parent seq k T W pos O (holding parent seq pos i held)
          (holding parent seq pos (suc i) held) i (at seq i) _ (holding-length parent seq pos held i
          ∙ long) (omega arith)
          (all i (omega arith)) refl refl refl)

-- ---- chains

-- the length of a chain, as a loop counts it
module _ (next : ℕ → ℕ) (stop : ℕ → Bool) where
  pub chain-turn : (f k v u : ℕ) → k < f → stop u ≡ false →
      length (chain next stop f v) ≡ k + length (chain next stop (f - k) u)
      → length (chain next stop f v) ≡ k + 1 + length (chain next stop (f - (k + 1)) (next u))
  chain-turn f k v u h e was =
      let g : f - k ≡ suc (f - (k + 1)) = omega arith in
      was ∙ ap (λ (z : ℕ). k + length (chain next stop z u)) g ∙ one (stop u) e
    where
      one : (b : Bool) → b ≡ false
          → k + length (cond b [] (u ∷ chain next stop (f - (k + 1)) (next u)))
          ≡ k + 1 + length (chain next stop (f - (k + 1)) (next u))
      one b e = rw e (omega arith)

  pub chain-stop : (f k v u : ℕ) → stop u ≡ true →
      length (chain next stop f v) ≡ k + length (chain next stop (f - k) u) → k ≡ length (chain next stop f v)
  chain-stop f k v u e was = sym (was ∙ ap (λ (z : ℕ). k + z) (none (f - k)) ∙ omega arith)
    where
      none : (g : ℕ) → length (chain next stop g u) ≡ 0
      none zero = refl
      none (suc g) = rw e refl

  pub chain-full : (f k v u : ℕ) → f ≤ k → length (chain next stop f v) ≡ k + length (chain next stop (f - k) u) →
      k ≡ length (chain next stop f v)
  chain-full f k v u h was = let g : f - k ≡ 0 =
      omega arith in sym (was ∙ ap (λ (z : ℕ). k + length (chain next stop z u)) g ∙ omega arith)

  pub chain-begun : (f v : ℕ) → length (chain next stop f v) ≡ 0 + length (chain next stop (f - 0) v)
  chain-begun f v =
      let g : f - 0 ≡ f = omega arith in
      let e : length (chain next stop (f - 0) v) ≡ length (chain next stop f v) =
      ap (λ (z : ℕ). length (chain next stop z v)) g in
      omega arith

-- a chain is so many units from v up
pub chain-climb : (up : List ℕ) (stop : ℕ → Bool) (f v : ℕ) →
    chain (at up) stop f v ≡ climb up (length (chain (at up) stop f v)) v
chain-climb up stop zero v = refl
chain-climb up stop (suc f) v = go (stop v) (chain-climb up stop f (at up v))
  where
    go : (b : Bool) → chain (at up) stop f (at up v) ≡ climb up (length (chain (at up) stop f (at up v))) (at up v)
        → cond b [] (v ∷ chain (at up) stop f (at up v))
        ≡ climb up (length (cond b [] (v ∷ chain (at up) stop f (at up v)))) v
    go true h = refl
    go false h = ap (λ (l : List ℕ). v ∷ l) h

-- ---- places moved on, and laid along a climb

pub moved-turn : (n q c : ℕ) (old t new : List ℕ) (v p y x : ℕ) (b : Bool) →
    t ≡ over v (λ (w : ℕ). cond (ltb q (at old w)) (min (at old w + c) 2048) (at old w)) old
    → p ≡ at t v → b ≡ ltb q p → y ≡ min (p + c) 2048 → x ≡ cond b y p → new ≡ set t v x
    → new ≡ over (v + 1) (λ (w : ℕ). cond (ltb q (at old w)) (min (at old w + c) 2048) (at old w)) old
moved-turn n q c old t new v p y x b was ep eb ey ex put =
    let e : p ≡ at old v = ep ∙ ap (λ (l : List ℕ). at l v) was ∙ get_d_over_past v _ old v 0 (omega arith) in
    over-more v (λ (w : ℕ). cond (ltb q (at old w)) (min (at old w + c) 2048) (at old w)) old t new x was
    (rw (ex, eb, ey, e) refl) put

pub moved_all : (n q c : ℕ) (old t : List ℕ) (v : ℕ) → v ≤ n → n ≤ v →
    t ≡ over v (λ (w : ℕ). cond (ltb q (at old w)) (min (at old w + c) 2048) (at old w)) old
    → t ≡ moved n q c old
unfolding moved
moved_all n q c old t v h g e = e ∙ over-all v n _ old h g

module _ (placing : Bool) (next : ℕ → ℕ) (up : List ℕ) where
  pub laid-turn : (k u i p q w j : ℕ) (t new : List ℕ) → 0 < k → p ≡ cond placing u i → q ≡ cond placing i u →
      new ≡ set t p q → w ≡ at up u → j ≡ next i
      → laid placing next i (climb up k u) t ≡ laid placing next j (climb up (k - 1) w) new
  laid-turn zero u i p q w j t new h ep eq en ew ej = absurd (omega arith)
  laid-turn (suc k) u i p q w j t new h ep eq en ew ej = let e : suc k - 1 ≡ k =
      omega arith in rw (en, ep, eq, ew, ej, e) refl

  pub laid_end : (k u i : ℕ) (t : List ℕ) → k ≤ 0 → laid placing next i (climb up k u) t ≡ t
  laid_end zero u i t h = refl
  laid_end (suc k) u i t h = absurd (omega arith)

-- as far as the code counts, up is one more each
pub laid-up : (placing : Bool) (i : ℕ) (l t : List ℕ) → i + length l ≤ 2048 →
    laid placing (onward true) i l t ≡ laid placing suc i l t
laid-up placing i [] t h = refl
laid-up placing i (z ∷ l) t h =
    let e : min (i + 1) 2048 ≡ suc i = omega arith in
    rw e (laid-up placing (suc i) l (set t (cond placing z i) (cond placing i z)) (omega arith))

-- ---- an ear

abbrev pub WovenIn : ℕ → List ℕ → List ℕ → ℕ → ℕ → List ℕ → List ℕ → Type 0
WovenIn n parent held u v pos pos' =
    n ≤ 256 → at held u ≡ anchor (suc n) parent pos u → at pos (at held u) ≤ 256 → pos' ≡ woven n parent pos u v

pub woven_in : (n : ℕ) (parent held : List ℕ) (u v : ℕ) (pos p₁ p₂ p₃ : List ℕ) (x q s t top c i : ℕ) → x ≡ at held u →
    q ≡ at pos x
    → s ≡ length (hanging (min (n + 1) 2048) parent pos u) → t ≡ length (hanging (min (n + 1) 2048) parent pos v) →
    top ≡ min (q + s) 2048 → c ≡ min (s + t) 2048
    → p₁ ≡ moved n q c pos → p₂ ≡ laid true (onward false) top (climb parent s u) p₁ → i ≡ min (top + 1) 2048 →
    p₃ ≡ laid true (onward true) i (climb parent t v) p₂
    → WovenIn n parent held u v pos p₃
unfolding woven
woven_in n parent held u v pos p₁ p₂ p₃ x q s t top c i ex eq es et etop ec e₁ e₂ ei e₃ few anchored low =
    e₃ ∙ ap (λ (l : List ℕ). laid true (onward true) i l p₂) (sym climb-t)
    ∙ laid-up true i (hanging (suc n) parent pos v) p₂ (omega (arith, t-is, short-t, short-s, low-q, top-is, i_is))
    ∙ rw (e₂, e₁, c-is, i_is, top-is, sym climb-s, q-is, s-is, t-is) refl
  where
    fuel : min (n + 1) 2048 ≡ suc n
    fuel = omega arith

    s-is : s ≡ length (hanging (suc n) parent pos u)
    s-is = es ∙ ap (λ (f : ℕ). length (hanging f parent pos u)) fuel

    t-is : t ≡ length (hanging (suc n) parent pos v)
    t-is = et ∙ ap (λ (f : ℕ). length (hanging f parent pos v)) fuel

    short-s : s ≤ suc n
    short-s = rw s-is (chain-short (at parent) (on_order pos) (suc n) u)

    short-t : t ≤ suc n
    short-t = rw t-is (chain-short (at parent) (on_order pos) (suc n) v)

    q-is : q ≡ at pos (anchor (suc n) parent pos u)
    q-is = eq ∙ ap (at pos) (ex ∙ anchored)

    low-q : q ≤ 256
    low-q = rw (eq ∙ ap (at pos) ex) low

    top-is : top ≡ q + s
    top-is = omega (arith, etop, low-q, short-s)

    i_is : i ≡ suc top
    i_is = omega (arith, ei, top-is, low-q, short-s)

    c-is : c ≡ s + t
    c-is = omega (arith, ec, short-s, short-t)

    climb-s : hanging (suc n) parent pos u ≡ climb parent s u
    climb-s = chain-climb parent (on_order pos) (suc n) u ∙ ap (λ (z : ℕ). climb parent z u) (sym s-is)

    climb-t : hanging (suc n) parent pos v ≡ climb parent t v
    climb-t = chain-climb parent (on_order pos) (suc n) v ∙ ap (λ (z : ℕ). climb parent z v) (sym t-is)

-- over link j, where it ties
abbrev pub EarOf : ℕ → List ℕ → List ℕ → List ℕ → ℕ → List ℕ → List ℕ → Type 0
EarOf n ends parent held j pos pos' =
    (s : Bool) → s ≡ ltb (at pos (at held (end_a ends j))) (at pos (at held (end_b ends j)))
    → WovenIn n parent held (cond s (end_a ends j) (end_b ends j)) (cond s (end_b ends j) (end_a ends j)) pos pos'

pub ear-of : (n : ℕ) (ends parent held : List ℕ) (j : ℕ) (pos pos' : List ℕ) (a b x y p q u v : ℕ) (up : Bool) →
    a ≡ end_a ends j → b ≡ end_b ends j
    → x ≡ at held a → p ≡ at pos x → y ≡ at held b → q ≡ at pos y → up ≡ ltb p q → u ≡ cond up a b → v ≡ cond up b a →
    WovenIn n parent held u v pos pos'
    → EarOf n ends parent held j pos pos'
ear-of n ends parent held j pos pos' a b x y p q u v up ea eb ex ep ey eq eup eu ev W s es =
    let same : up ≡ s = eup ∙ rw (ep, ex, eq, ey, ea, eb) (sym es) in
    let fu : u ≡ cond s (end_a ends j) (end_b ends j) = eu ∙ rw (same, ea, eb) refl in
    let fv : v ≡ cond s (end_b ends j) (end_a ends j) = ev ∙ rw (same, ea, eb) refl in
    rw (fu, fv) at W

-- ---- a visit

abbrev pub Visited : (ℕ → Bool) → ℕ → ℕ → List ℕ → ℕ → List ℕ → List ℕ → ℕ → List ℕ → List ℕ → List ℕ → List ℕ → Type 0
Visited ok n m ends k parent seq j pos held pos' held' =
    (a b : ℕ) → Site n m ends → Tree n (Present ok m ends) a parent seq k → Whole ok m ends parent →
    Grown n (Present ok m ends) a b parent pos held
    → ((pos' ≡ pos) × (held' ≡ held) × (j < m → ties ok ends parent pos held j ≡ false))
    ⊎ ((at pos b < at pos' b) × Grown n (Present ok m ends) a b parent pos' held')

module _ (ok : ℕ → Bool) (n m : ℕ) (ends : List ℕ) (k : ℕ) (parent seq : List ℕ) (j : ℕ) (pos held : List ℕ) where
  pub visited-past : m ≤ j → Visited ok n m ends k parent seq j pos held pos held
  visited-past h a b site T W G = inl (refl, refl, λ l. absurd (omega arith))

  pub visited-none : ties ok ends parent pos held j ≡ false → Visited ok n m ends k parent seq j pos held pos held
  visited-none e a b site T W G = inl (refl, refl, λ l. e)

  pub visited-more : (pos' held' : List ℕ) → j < m → ties ok ends parent pos held j ≡ true →
      EarOf n ends parent held j pos pos'
      → held' ≡ holding parent seq pos' k held → Visited ok n m ends k parent seq j pos held pos' held'
  visited-more pos' held' l t E eh a b site T W G =
      inr (
        rw is (ear s refl).1,
        rw eh (holding-grown site ok a b parent seq k T W pos' (rw is (ear s refl).0) held G.space),
      )
    where
      s : Bool
      s = ltb (at pos (at held (end_a ends j))) (at pos (at held (end_b ends j)))

      ear : (s : Bool) → s ≡ ltb (at pos (at held (end_a ends j))) (at pos (at held (end_b ends j)))
          → Ordering n (Present ok m ends) a b parent
          (woven n parent pos (cond s (end_a ends j) (end_b ends j)) (cond s (end_b ends j) (end_a ends j)))
          × (at pos b < at (woven n parent pos (cond s (end_a ends j) (end_b ends j))
          (cond s (end_b ends j) (end_a ends j))) b)
      ear = eared site ok a b parent seq k T W pos held G j l t

      either-known : (s : Bool) → Known n parent (cond s (end_a ends j) (end_b ends j))
      either-known true = (tie-known site ok a b parent seq k T W pos held G j l t).0
      either-known false = (tie-known site ok a b parent seq k T W pos held G j l t).1

      low : (z : ℕ) → Known n parent z → at pos (at held z) ≤ 256
      low z q =
          let h : at held z ≡ anchor (suc n) parent pos z = G.holds z q in
          let o : on_order pos (anchor (suc n) parent pos z) ≡ true =
          (hangs site ok (spanning T) W pos G.ordering z q).ends in
          omega (
            arith,
            ap (at pos) h,
            G.ordering.upright.greatest (anchor (suc n) parent pos z) o,
            G.ordering.full,
            count_le n (on_order pos),
            site.few_units,
          )

      is : pos' ≡ woven n parent pos (cond s (end_a ends j) (end_b ends j)) (cond s (end_b ends j) (end_a ends j))
      is = E s refl site.few_units (G.holds _ (either-known s)) (low _ (either-known s))

-- ---- passes

abbrev pub Passed : (ℕ → Bool) → ℕ → ℕ → List ℕ → ℕ → List ℕ → List ℕ → ℕ → List ℕ → List ℕ → List ℕ → List ℕ → Type 0
Passed ok n m ends k parent seq j pos held pos' held' =
    (a b : ℕ) → Site n m ends → Tree n (Present ok m ends) a parent seq k → Whole ok m ends parent →
    Grown n (Present ok m ends) a b parent pos held
    → (at pos b ≤ at pos' b) × Grown n (Present ok m ends) a b parent pos' held'
    × (at pos' b ≡ at pos b → (q : ℕ) → q < j → ties ok ends parent pos' held' q ≡ false)

abbrev pub Followed : (ℕ → Bool) → ℕ → ℕ → List ℕ → ℕ → List ℕ → List ℕ → List ℕ → List ℕ → List ℕ → List ℕ → Type 0
Followed ok n m ends k parent seq pos held pos' held' =
    (a b : ℕ) → Site n m ends → Tree n (Present ok m ends) a parent seq k → Whole ok m ends parent →
    Grown n (Present ok m ends) a b parent pos held
    → Grown n (Present ok m ends) a b parent pos' held'

-- from an order, one on which nothing ties any more
abbrev pub Settles : (ℕ → Bool) → ℕ → ℕ → List ℕ → ℕ → ℕ → List ℕ → List ℕ → List ℕ → List ℕ → List ℕ → List ℕ → Type 0
Settles ok n m ends b k parent seq pos held pos' held' =
    (a : ℕ) → Site n m ends → Tree n (Present ok m ends) a parent seq k → Whole ok m ends parent →
    Ordering n (Present ok m ends) a b parent pos → length held ≡ 256
    → Grown n (Present ok m ends) a b parent pos' held' × Settled ok m ends parent pos' held'

-- the same from one with its anchors
abbrev pub Settling : (ℕ → Bool) → ℕ → ℕ → List ℕ → ℕ → ℕ → List ℕ → List ℕ → List ℕ → List ℕ → List ℕ → List ℕ → Type 0
Settling ok n m ends b k parent seq pos held pos' held' =
    (a : ℕ) → Site n m ends → Tree n (Present ok m ends) a parent seq k → Whole ok m ends parent →
    Grown n (Present ok m ends) a b parent pos held
    → Grown n (Present ok m ends) a b parent pos' held' × Settled ok m ends parent pos' held'

-- after i passes that each made it longer: b stands at i or later
abbrev pub Lengthened : (ℕ → Bool) → ℕ → ℕ → List ℕ → ℕ → ℕ → List ℕ → List ℕ → List ℕ → List ℕ → ℕ → List ℕ → List ℕ →
    Type 0
Lengthened ok n m ends b k parent seq pos held i pos' held' =
    (a : ℕ) → Site n m ends → Tree n (Present ok m ends) a parent seq k → Whole ok m ends parent →
    Grown n (Present ok m ends) a b parent pos held
    → (i ≤ at pos' b) × Grown n (Present ok m ends) a b parent pos' held'

module _ (ok : ℕ → Bool) (n m : ℕ) (ends : List ℕ) (k : ℕ) (parent seq : List ℕ) where
  pub passed-begun : (pos held : List ℕ) → Passed ok n m ends k parent seq 0 pos held pos held
  passed-begun pos held a b site T W G = (omega arith, G, λ e q h. absurd (omega arith))

  pub passed-more : (j : ℕ) (pos held p₁ h₁ p₂ h₂ : List ℕ) → j < m → Passed ok n m ends k parent seq j pos held p₁ h₁ →
      Visited ok n m ends k parent seq j p₁ h₁ p₂ h₂
      → Passed ok n m ends k parent seq (j + 1) pos held p₂ h₂
  passed-more j pos held p₁ h₁ p₂ h₂ l P visit a b site T W G = go (P a b site T W G)
    where
      go : (at pos b ≤ at p₁ b) × Grown n (Present ok m ends) a b parent p₁ h₁
          × (at p₁ b ≡ at pos b → (q : ℕ) → q < j → ties ok ends parent p₁ h₁ q ≡ false)
          → (at pos b ≤ at p₂ b) × Grown n (Present ok m ends) a b parent p₂ h₂
          × (at p₂ b ≡ at pos b → (q : ℕ) → q < j + 1 → ties ok ends parent p₂ h₂ q ≡ false)
      go (up, G₁, none) = by (visit a b site T W G₁)
        where
          by : ((p₂ ≡ p₁) × (h₂ ≡ h₁) × (j < m → ties ok ends parent p₁ h₁ j ≡ false))
              ⊎ ((at p₁ b < at p₂ b) × Grown n (Present ok m ends) a b parent p₂ h₂)
              → (at pos b ≤ at p₂ b) × Grown n (Present ok m ends) a b parent p₂ h₂
              × (at p₂ b ≡ at pos b → (q : ℕ) → q < j + 1 → ties ok ends parent p₂ h₂ q ≡ false)
          by (inr (less, G₂)) = (omega arith, G₂, λ e. absurd (omega arith))
          by (inl (ep, eh, still)) =
              (rw ep up, rw (ep, eh) G₁, λ e q h. rw (ep, eh) (all (rw ep at e) q h (dec_lt q j)))
            where
              all : at p₁ b ≡ at pos b → (q : ℕ) → q < j + 1 → Dec (q < j) → ties ok ends parent p₁ h₁ q ≡ false
              all e q h (yes c) = none e q c
              all e q h (no c) = let f : q ≡ j =
                  omega arith in subst (λ (z : ℕ). ties ok ends parent p₁ h₁ z ≡ false) (sym f) (still l)

  pub followed_more : (j : ℕ) (pos held p₁ h₁ p₂ h₂ : List ℕ) → Followed ok n m ends k parent seq pos held p₁ h₁ →
      Visited ok n m ends k parent seq j p₁ h₁ p₂ h₂
      → Followed ok n m ends k parent seq pos held p₂ h₂
  followed_more j pos held p₁ h₁ p₂ h₂ F visit a b site T W G = by (visit a b site T W (F a b site T W G))
    where
      by : ((p₂ ≡ p₁) × (h₂ ≡ h₁) × (j < m → ties ok ends parent p₁ h₁ j ≡ false))
          ⊎ ((at p₁ b < at p₂ b) × Grown n (Present ok m ends) a b parent p₂ h₂)
          → Grown n (Present ok m ends) a b parent p₂ h₂
      by (inr (less, G₂)) = G₂
      by (inl (ep, eh, still)) = rw (ep, eh) (F a b site T W G)

  module _ (b : ℕ) (pos held : List ℕ) where
    pub lengthened_begun : Lengthened ok n m ends b k parent seq pos held 0 pos held
    lengthened_begun a site T W G = (omega arith, G)

    module _ (i : ℕ) (p₁ h₁ : List ℕ) (L : Lengthened ok n m ends b k parent seq pos held i p₁ h₁) where
      pub lengthened_more : (p₂ h₂ : List ℕ) (x y : ℕ) → x ≡ at p₁ b → Passed ok n m ends k parent seq m p₁ h₁ p₂ h₂ →
          y ≡ at p₂ b → (y ≡ x → ⊥)
          → Lengthened ok n m ends b k parent seq pos held (i + 1) p₂ h₂
      lengthened_more p₂ h₂ x y ex P ey ne a site T W G =
          let w = L a site T W G in
          let q = P a b site T W w.1 in
          (omega (arith, w.0, q.0, ne), q.1)

      pub settling-same : (p₂ h₂ : List ℕ) (x y : ℕ) → x ≡ at p₁ b → Passed ok n m ends k parent seq m p₁ h₁ p₂ h₂ →
          y ≡ at p₂ b → y ≡ x
          → Settling ok n m ends b k parent seq pos held p₂ h₂
      settling-same p₂ h₂ x y ex P ey e a site T W G = let q =
          P a b site T W (L a site T W G).1 in (q.1, q.2 (sym ey ∙ e ∙ ex))

      -- an order has no more places than the site has units
      pub settling-full : 257 ≤ i → Settling ok n m ends b k parent seq pos held p₁ h₁
      settling-full h a site T W G =
          let w = L a site T W G in
          absurd (omega (arith, w.0, w.1.ordering.full, count_le n (on_order p₁), site.few_units))

    pub settles : (h₁ p₂ h₂ p₃ h₃ : List ℕ) → h₁ ≡ holding parent seq pos k held →
        Followed ok n m ends k parent seq pos h₁ p₂ h₂
        → Settling ok n m ends b k parent seq p₂ h₂ p₃ h₃ → Settles ok n m ends b k parent seq pos held p₃ h₃
    settles h₁ p₂ h₂ p₃ h₃ e F S a site T W O long =
        S a site T W (F a b site T W (rw e (holding-grown site ok a b parent seq k T W pos O held long)))
