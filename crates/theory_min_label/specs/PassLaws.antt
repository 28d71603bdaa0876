-- What a pass keeps, over any links E and those of them, L, that are left: the labels f and b are least, numbers given
-- are right, and no link of an open group is lost.
use Rattle.std.specs.Prelude.{◌≡◌, refl, true, false, cond, ◌⊎◌, ◌≢◌, ◌↔◌, List, [], ◌∷◌, ℕ, ◌≤◌, ◌<◌, eqb}
use Rattle.std.proofs.Common.{sym, ◌∙◌, inl, inr, arith, eqb-true, eq-eqb}
use Rattle.std.proofs.Math.Decide.{ℕ_discrete, dec_lt}
use Rattle.base_lists.specs.Folds.{count}
use Rattle.base_lists.specs.Counts.{count_less}
use Rattle.base_lists.specs.Tests.{either, refuted}
use Rattle.theory_graph.specs.Rings.{last, Walk, Connected}
use Rattle.theory_graph.specs.Walks.{walk_map}
use Rattle.theory_graph.specs.Routes.{connected_trans, connected-link, connected_refl}
use Rattle.theory_min_label.specs.Groups.{Reaches, Mutual, LeastOf}
use Rattle.theory_min_label.specs.Spread.{Within, Least}

-- the links turned round
abbrev pub Turned : (ℕ → ℕ → Type 0) → ℕ → ℕ → Type 0
Turned E v w = E w v

turn : (E : ℕ → ℕ → Type 0) (a b : ℕ) → Connected E a b → Connected (Turned E) b a
turn E a b h = go a h.0 h.1.0 h.1.1
  where
    go : (x : ℕ) (l : List ℕ) → Walk E x l → last x l ≡ b → Connected (Turned E) b x
    go x [] w e = ([], (tt, sym e))
    go x (y ∷ l) w e = connected_trans (Turned E) b y x (go y l w.1 e) (connected-link (Turned E) y x w.0)

-- ---- groups

mutual_sym : (E : ℕ → ℕ → Type 0) (a b : ℕ) → Mutual E a b → Mutual E b a
mutual_sym E a b m = (m.1, m.0)

mutual_trans : (E : ℕ → ℕ → Type 0) (a b c : ℕ) → Mutual E a b → Mutual E b c → Mutual E a c
mutual_trans E a b c m k = (connected_trans E a b c m.0 k.0, connected_trans E c b a k.1 m.1)

-- the same number exactly where each reaches the other
pub same_group : (E : ℕ → ℕ → Type 0) (v w x y : ℕ) → LeastOf E v x → LeastOf E w y → (x ≡ y) ↔ Mutual E v w
same_group E v w x y a b = (there, back)
  where
    there : x ≡ y → Mutual E v w
    there e = mutual_trans E v y w (rw e at a.in_group) (mutual_sym E w y b.in_group)

    back : Mutual E v w → x ≡ y
    back m =
        omega (
          arith,
          a.least y (mutual_trans E v w y m b.in_group),
          b.least x (mutual_trans E w v x (mutual_sym E v w m) a.in_group),
        )

-- ---- a pass

-- the number of a unit that has none yet
module _ (none : ℕ) where
  -- what holds between passes
  pub record Sound (n : ℕ) (E L : ℕ → ℕ → Type 0) (number : ℕ → ℕ) : Type 0 where
    pub links : (u v : ℕ) → L u v → E u v × (number u ≡ none) × (number v ≡ none)
    pub kept : (u v : ℕ) → E u v → Connected E v u → number u ≡ none → L u v
    pub right : (v : ℕ) → v < n → number v ≢ none → LeastOf E v (number v)

  -- the start of the backward labels: the units that are their own forward label
  abbrev pub sources : (ℕ → ℕ) → ℕ → ℕ
  sources f w = cond (eqb (f w) w) w none

  -- the numbers after a pass
  abbrev pub numbers : (ℕ → ℕ) → (ℕ → ℕ) → (ℕ → ℕ) → ℕ → ℕ
  numbers f b number v = cond (eqb (number v) none) (cond (eqb (f v) (b v)) (f v) none) (number v)

  -- the links after it
  abbrev pub Left : (ℕ → ℕ) → (ℕ → ℕ) → (ℕ → ℕ → Type 0) → ℕ → ℕ → Type 0
  Left f b L u v = L u v × (f u ≡ f v) × (b u ≡ b v) × (f u ≢ b u)

  source_is : (f : ℕ → ℕ) (w x : ℕ) → sources f w ≡ x → x ≢ none → w ≡ x
  source_is f w x e h = go (either (eqb (f w) w)) e
    where
      go : (eqb (f w) w ≡ true) ⊎ (eqb (f w) w ≡ false) → sources f w ≡ x → w ≡ x
      go (inl t) q = rw t at q
      go (inr t) q = let z : none ≡ x = rw t at q in absurd (h (sym z))

  module _ {n : ℕ} {E L : ℕ → ℕ → Type 0} {number : ℕ →
      ℕ} (inside : Within n E) (high : n ≤ none) (S : Sound n E L number) where
    -- what is left reaches no more than the links did
    reaches : (v w : ℕ) → Connected L v w → Reaches E v w
    reaches v w (l, r) = (l, (walk_map L E v l (λ x y s k. (S.links x y k).0) r.0, r.1))

    -- but all of a group without a number
    grouped : (v w : ℕ) → number v ≡ none → Mutual E v w → Connected L v w
    grouped v w o m = go v m.0.0 o (connected_refl E v) m.0.1.0 m.0.1.1
      where
        go : (x : ℕ) (l : List ℕ) → number x ≡ none → Connected E v x → Walk E x l → last x l ≡ w → Connected L x w
        go x [] ox c u e = ([], (tt, e))
        go x (y ∷ l) ox c u e =
            let back : Connected E y x = connected_trans E y w x (l, (u.1, e)) (connected_trans E w v x m.1 c) in
            let k : L x y = S.kept x y u.0 back ox in
            let d : Connected E v y = connected_trans E v x y c (connected-link E x y u.0) in
            connected_trans L x y w (connected-link L x y k) (go y l (S.links x y k).2 d u.1 e)

    -- from a unit without a number only such units are reached
    open_on : (v w : ℕ) → number v ≡ none → Connected L v w → number w ≡ none
    open_on v w o c = go v c.0 o c.1.0 c.1.1
      where
        go : (x : ℕ) (l : List ℕ) → number x ≡ none → Walk L x l → last x l ≡ w → number w ≡ none
        go x [] ox u e = rw (← e) ox
        go x (y ∷ l) ox u e = go y l (S.links x y u.0).2 u.1 e

    -- and only such units reach it
    open_back : (v w : ℕ) → number w ≡ none → Connected L v w → number v ≡ none
    open_back v w o c = go c.0 c.1.0 c.1.1
      where
        go : (l : List ℕ) → Walk L v l → last v l ≡ w → number v ≡ none
        go [] u e = rw e o
        go (y ∷ l) u e = (S.links v y u.0).1

    module _ (f b : ℕ → ℕ) (F : Least n (Turned L) (λ (v : ℕ). v) f) (B : Least n L (sources f) b) where
      -- the forward label reaches its unit, and is the least that does
      forward-from : (v : ℕ) → v < n → Connected L (f v) v
      forward-from v h = let (w, c, e) = F.reached v h in rw e (turn (Turned L) v w c)

      forward-least : (v w : ℕ) → v < n → Connected L w v → f v ≤ w
      forward-least v w h c = F.below v w h (turn L w v c)

      forward-same : (v w : ℕ) → v < n → w < n → Connected L v w → Connected L w v → f v ≡ f w
      forward-same v w hv hw c d =
          omega (
            arith,
            forward-least v (f w) hv (connected_trans L (f w) w v (forward-from w hw) d),
            forward-least w (f v) hw (connected_trans L (f v) v w (forward-from v hv) c),
          )

      backward-along : (v w : ℕ) → v < n → w < n → Connected L v w → b v ≤ b w
      backward-along v w hv hw c =
          let (x, d, e) = B.reached w hw in
          omega (arith, B.below v x hv (connected_trans L v w x c d))

      backward-same : (v w : ℕ) → v < n → w < n → Connected L v w → Connected L w v → b v ≡ b w
      backward-same v w hv hw c d = omega (arith, backward-along v w hv hw c, backward-along w v hw hv d)

      forward-below : (v : ℕ) → v < n → f v < n
      forward-below v h = omega (arith, forward-least v v h (connected_refl L v))

      -- where the labels are equal they are the least of the group
      agreed : (v : ℕ) → v < n → number v ≡ none → f v ≡ b v → LeastOf E v (f v)
      agreed v h o e =
          let (w, c, q) = B.reached v h in
          let z : f v ≢ none = λ k. omega (arith, forward-below v h) in
          let p : w ≡ f v = source_is f w (f v) (sym (e ∙ q)) z in
          let to : Connected L v (f v) = rw p at c in
          record {
            in_group = (reaches v (f v) to, reaches (f v) v (forward-from v h));
            least = λ x m. forward-least v x h (grouped x v (open_on v x o (grouped v x o m)) (mutual_sym E v x m));
          }

      number-kept : (v : ℕ) → number v ≢ none → numbers f b number v ≡ number v
      number-kept v k = rw (refuted (eqb (number v) none) (λ t. k (eqb-true (number v) none t))) refl

      number-new : (v : ℕ) → number v ≡ none → f v ≡ b v → numbers f b number v ≡ f v
      number-new v o e = rw (eq-eqb (number v) none o, eq-eqb (f v) (b v) e) refl

      number_not : (v : ℕ) → number v ≡ none → f v ≢ b v → numbers f b number v ≡ none
      number_not v o e = rw (eq-eqb (number v) none o, refuted (eqb (f v) (b v)) (λ t. e (eqb-true (f v) (b v) t))) refl

      -- what has no number after the pass had none before, and its labels differ
      still_open : (v : ℕ) → v < n → numbers f b number v ≡ none → (number v ≡ none) × (f v ≢ b v)
      still_open v h o = go (ℕ_discrete (number v) none) (ℕ_discrete (f v) (b v))
        where
          go : Dec (number v ≡ none) → Dec (f v ≡ b v) → (number v ≡ none) × (f v ≢ b v)
          go (no k) d = absurd (k (sym (number-kept v k) ∙ o))
          go (yes k) (yes e) = absurd (omega (arith, number-new v k e, forward-below v h))
          go (yes k) (no e) = (k, e)

      pub pass-sound : Sound n E (Left f b L) (numbers f b number)
      pass-sound = record { links = links; kept = kept; right = right }
        where
          links : (u v : ℕ) → Left f b L u v → E u v × (numbers f b number u ≡ none) × (numbers f b number v ≡ none)
          links u v (l, ef, eb, d) =
              let (e, ou, ov) = S.links u v l in
              (e, number_not u ou d, number_not v ov (λ q. d (ef ∙ q ∙ sym eb)))

          kept : (u v : ℕ) → E u v → Connected E v u → numbers f b number u ≡ none → Left f b L u v
          kept u v e c o =
              let (hu, hv) = inside u v e in
              let (ou, d) = still_open u hu o in
              let l : L u v = S.kept u v e c ou in
              let on : Connected L u v = connected-link L u v l in
              let back : Connected L v u = grouped v u (S.links u v l).2 (c, connected-link E u v e) in
              (l, forward-same u v hu hv on back, backward-same u v hu hv on back, d)

          right : (v : ℕ) → v < n → numbers f b number v ≢ none → LeastOf E v (numbers f b number v)
          right v h k = go (ℕ_discrete (number v) none) (ℕ_discrete (f v) (b v))
            where
              go : Dec (number v ≡ none) → Dec (f v ≡ b v) → LeastOf E v (numbers f b number v)
              go (no o) d = rw (number-kept v o) (S.right v h o)
              go (yes o) (yes e) = rw (number-new v o e) (agreed v h o e)
              go (yes o) (no e) = absurd (k (number_not v o e))

      -- ---- progress: the least unit without a number gets its own

      module _ (i : ℕ) (hi : i < n) (oi : number i ≡ none) (first : (w : ℕ) → w < i → number w ≢ none) where
        forward-first : f i ≡ i
        forward-first = go (dec_lt (f i) i)
          where
            go : Dec (f i < i) → f i ≡ i
            go (yes l) = absurd (first (f i) l (open_back (f i) i oi (forward-from i hi)))
            go (no l) = omega (arith, forward-least i i hi (connected_refl L i))

        backward-first : b i ≡ i
        backward-first =
            let (w, c, e) = B.reached i hi in
            let s : b i ≤ sources f i = B.below i i hi (connected_refl L i) in
            let k : sources f i ≡ i = rw (eq-eqb (f i) i forward-first) refl in
            let z : b i ≢ none = λ q. omega arith in
            let p : w ≡ b i = source_is f w (b i) (sym e) z in
            go (open_on i (b i) oi (rw p at c)) k s (dec_lt (b i) i)
          where
            go : number (b i) ≡ none → sources f i ≡ i → b i ≤ sources f i → Dec (b i < i) → b i ≡ i
            go o k s (yes l) = absurd (first (b i) l o)
            go o k s (no l) = omega arith

        first-numbered : numbers f b number i ≡ i
        first-numbered = number-new i oi (forward-first ∙ sym backward-first) ∙ forward-first

        -- so a pass gives some unit its own number that had none
        pub more-led : count n (λ (v : ℕ). eqb (number v) v) < count n (λ (v : ℕ). eqb (numbers f b number v) v)
        more-led =
            count_less n (λ (v : ℕ). eqb (number v) v) (λ (v : ℕ). eqb (numbers f b number v) v) i hi
            (refuted (eqb (number i) i) (λ t. omega (arith, eqb-true (number i) i t)))
            (eq-eqb (numbers f b number i) i first-numbered)
            keeps
          where
            keeps : (v : ℕ) → v < n → eqb (number v) v ≡ true → eqb (numbers f b number v) v ≡ true
            keeps v h t =
                let e : number v ≡ v = eqb-true (number v) v t in
                eq-eqb (numbers f b number v) v (number-kept v (λ q. omega arith) ∙ e)
