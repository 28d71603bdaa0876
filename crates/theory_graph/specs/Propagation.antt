-- Least values spread by rounds over any relation on picked nodes (stages 1 and 9 of document 01, and the bound of
-- stage 2). R v w: v reads w. Nothing here asks that w reads v too, up to the last section.
use Rattle.std.specs.Prelude.{◌≡◌, refl, ◌⊎◌, ◌≢◌, ◌↔◌, Bool, List, [], ◌∷◌, ℕ, zero, suc, ◌≤◌, ◌<◌, max, length}
use Rattle.std.proofs.Common.{sym, ◌∙◌, inl, inr, arith}
use Rattle.std.proofs.Math.Decide.{ℕ_discrete, dec_le}
use Rattle.base_lists.specs.Members.{Mem}
use Rattle.base_lists.specs.Pigeonhole.{Picked, pigeonhole}
use Rattle.base_lists.specs.Folds.{count}
use Rattle.theory_graph.specs.Rings.{last, Walk, Route, Connected}
use Rattle.theory_graph.specs.Walks.{last_mem, walk_map}
use Rattle.theory_graph.specs.Routes.{connected_trans, connected_sym, simple}

-- w is picked, and v reads it
abbrev pub Near : (ℕ → Bool) → ℕ → (ℕ → ℕ → Type 0) → ℕ → ℕ → Type 0
Near p n R v w = Picked p n w × R v w

-- w is at most k steps from v
abbrev Within : (ℕ → Bool) → ℕ → (ℕ → ℕ → Type 0) → ℕ → ℕ → ℕ → Type 0
Within p n R k v w = (l : List ℕ) × (length l ≤ k) × Route (Near p n R) v l w

module _ (p : ℕ → Bool) (n : ℕ) (R : ℕ → ℕ → Type 0) where
  walk_picked : (v : ℕ) (l : List ℕ) → Picked p n v → Walk (Near p n R) v l → (z : ℕ) → Mem z (v ∷ l) → Picked p n z
  walk_picked v [] h w z (inl e) = rw e h
  walk_picked v [] h w z (inr m) = absurd m
  walk_picked v (x ∷ l) h w z (inl e) = rw e h
  walk_picked v (x ∷ l) h w z (inr m) = walk_picked x l w.0.0 w.1 z m

  pub reached-picked : (v w : ℕ) → Picked p n v → Connected (Near p n R) v w → Picked p n w
  reached-picked v w h (l, r) = rw r.1 at (walk_picked v l h r.0 (last v l) (last_mem v l))

  -- what is reached is reached in fewer steps than there are picked nodes, and in no more than were taken
  short : (v w : ℕ) (l : List ℕ) → Picked p n v → Route (Near p n R) v l w
      → (m : List ℕ) × (length m ≤ length l) × (length m < count n p) × Route (Near p n R) v m w
  short v w l h r =
      let (m, s, e, f, d) = simple (Near p n R) v l r.0 in
      (m, f, pigeonhole p n (v ∷ m) d (walk_picked v m h s), (s, e ∙ r.1))

-- val k v is the value of v after k rounds: at first its own number, then the least of its own and of those it reads
pub record Rounds (p : ℕ → Bool) (n : ℕ) (R : ℕ → ℕ → Type 0) (val : ℕ → ℕ → ℕ) : Type 0 where
  pub start : (v : ℕ) → Picked p n v → val zero v ≡ v
  pub own : (k v : ℕ) → Picked p n v → val (suc k) v ≤ val k v
  pub near : (k v w : ℕ) → Picked p n v → Picked p n w → R v w → val (suc k) v ≤ val k w
  pub attained : (k v : ℕ) → Picked p n v →
      (val (suc k) v ≡ val k v) ⊎ ((w : ℕ) × Picked p n w × R v w × (val (suc k) v ≡ val k w))

-- round k + 1 changes nothing
abbrev pub Still : (ℕ → Bool) → ℕ → (ℕ → ℕ → ℕ) → ℕ → Type 0
Still p n val k = (v : ℕ) → Picked p n v → val (suc k) v ≡ val k v

module _ {p : ℕ → Bool} {n : ℕ} {R : ℕ → ℕ → Type 0} {val : ℕ → ℕ → ℕ} (rounds : Rounds p n R val) where
  falls : (k v : ℕ) → Picked p n v → val k v ≤ v
  falls zero v h = omega (arith, rounds.start v h)
  falls (suc k) v h = omega (arith, rounds.own k v h, falls k v h)

  -- the value after k rounds is the least node within k steps: it is at most each ..
  least-within : (k v w : ℕ) → Picked p n v → Within p n R k v w → val k v ≤ w
  least-within k v w h (l, b, r) = go k v l h b r.0 r.1
    where
      go : (j x : ℕ) (m : List ℕ) → Picked p n x → length m ≤ j → Walk (Near p n R) x m → last x m ≡ w → val j x ≤ w
      go j x [] px b r e = omega (arith, falls j x px)
      go zero x (y ∷ m) px b r e = absurd (omega arith)
      go (suc j) x (y ∷ m) px b r e =
          let a = go j y m r.0.0 (omega arith) r.1 e in
          omega (arith, rounds.near j x y px r.0.0 r.0.1)

  -- .. and is one of them
  value-within : (k v : ℕ) → Picked p n v → Within p n R k v (val k v)
  value-within zero v h = ([], omega arith, (tt, sym (rounds.start v h)))
  value-within (suc k) v h = go (value-within k) (rounds.attained k v h)
    where
      go : ((x : ℕ) → Picked p n x → Within p n R k x (val k x))
          → (val (suc k) v ≡ val k v) ⊎ ((w : ℕ) × Picked p n w × R v w × (val (suc k) v ≡ val k w))
          → Within p n R (suc k) v (val (suc k) v)
      go ih (inl e) =
          let a = ih v h in
          let b : length a.0 ≤ k = a.1 in
          (a.0, omega arith, (a.2.0, a.2.1 ∙ sym e))
      go ih (inr (w, pw, r, e)) =
          let a = ih w pw in
          let b : length a.0 ≤ k = a.1 in
          (w ∷ a.0, omega arith, (((pw, r), a.2.0), a.2.1 ∙ sym e))

  -- a round that changes something comes before as many rounds as there are picked nodes
  pub changed : (k v : ℕ) → Picked p n v → val (suc k) v ≢ val k v → suc k < count n p
  changed k v h c = go (value-within (suc k) v h)
    where
      go : Within p n R (suc k) v (val (suc k) v) → suc k < count n p
      go (l, b, r) =
          let (m, f, q, s) = short p n R v (val (suc k) v) l h r in
          by m q s (dec_le (length m) k)
        where
          by : (m : List ℕ) → length m < count n p → Route (Near p n R) v m (val (suc k) v) → Dec (length m ≤ k) →
              suc k < count n p
          by m q s (yes g) = absurd (c (omega (arith, least-within k v (val (suc k) v) h (m, g, s), rounds.own k v h)))
          by m q s (no g) = omega arith

  -- so from that number of rounds on nothing changes ..
  still-from : (k : ℕ) → count n p ≤ suc k → Still p n val k
  still-from k b v h = go (ℕ_discrete (val (suc k) v) (val k v))
    where
      go : Dec (val (suc k) v ≡ val k v) → val (suc k) v ≡ val k v
      go (yes e) = e
      go (no e) = absurd (omega (arith, changed k v h e))

  -- .. and the first later round without change is at most the greater of 2 and that number
  pub still-by : (k : ℕ) × (1 ≤ k) × (suc k ≤ max 2 (count n p)) × Still p n val k
  still-by = go (count n p) refl
    where
      go : (N : ℕ) → count n p ≡ N → (k : ℕ) × (1 ≤ k) × (suc k ≤ max 2 (count n p)) × Still p n val k
      go zero e = (1, omega arith, omega arith, still-from 1 (omega arith))
      go (suc zero) e = (1, omega arith, omega arith, still-from 1 (omega arith))
      go (suc (suc k)) e = (suc k, omega arith, omega arith, still-from (suc k) (omega arith))

  -- a value is that of a picked node which its own node reaches
  pub value-reached : (k v : ℕ) → Picked p n v → Connected (Near p n R) v (val k v)
  value-reached k v h = let a = value-within k v h in (a.0, a.2)

  module _ (k : ℕ) (still : Still p n val k) where
    -- once nothing changes a value is at most those that its node reads ..
    still-near : (v w : ℕ) → Picked p n v → Picked p n w → R v w → val k v ≤ val k w
    still-near v w pv pw r = omega (arith, still v pv, rounds.near k v w pv pw r)

    still-along : (v w : ℕ) → Picked p n v → Connected (Near p n R) v w → val k v ≤ val k w
    still-along v w pv (l, r) = go v l pv r.0 r.1
      where
        go : (x : ℕ) (m : List ℕ) → Picked p n x → Walk (Near p n R) x m → last x m ≡ w → val k x ≤ val k w
        go x [] px u e = rw e (omega arith)
        go x (y ∷ m) px u e = omega (arith, still-near x y px u.0.0 u.0.1, go y m u.0.0 u.1 e)

    -- .. and the least of all that it reaches
    pub still-least : (v w : ℕ) → Picked p n v → Connected (Near p n R) v w → val k v ≤ w
    still-least v w pv c = omega (arith, still-along v w pv c, falls k w (reached-picked p n R v w pv c))

    -- the next round changes nothing either
    pub still-on : Still p n val (suc k)
    still-on v h = go (rounds.attained (suc k) v h)
      where
        go : (val (suc (suc k)) v ≡ val (suc k) v)
            ⊎ ((w : ℕ) × Picked p n w × R v w × (val (suc (suc k)) v ≡ val (suc k) w))
            → val (suc (suc k)) v ≡ val (suc k) v
        go (inl e) = e
        go (inr (w, pw, r, e)) = omega (arith, rounds.near k v w h pw r, still w pw, rounds.own (suc k) v h)

    -- where who reads is read too: equal values are those of nodes that reach each other
    module _ (both : (v w : ℕ) → Picked p n v → Picked p n w → R v w → R w v) where
      pub still-same : (v w : ℕ) → Picked p n v → Picked p n w → R v w → val k v ≡ val k w
      still-same v w pv pw r = omega (arith, still-near v w pv pw r, still-near w v pw pv (both v w pv pw r))

      -- a walk from a picked node, taken the other way
      reached-back : (v w : ℕ) → Picked p n v → Connected (Near p n R) v w → Connected (Near p n R) w v
      reached-back v w pv (l, r) =
          let c = connected_sym Pair flip v w (l, (pairs v l pv r.0, r.1)) in
          (c.0, (walk_map Pair (Near p n R) w c.0 (λ a b s h. (h.1, h.2)) c.1.0, c.1.1))
        where
          Pair : ℕ → ℕ → Type 0
          Pair a b = Picked p n a × Picked p n b × R a b

          flip : (a b : ℕ) → Pair a b → Pair b a
          flip a b h = (h.1, h.0, both a b h.0 h.1 h.2)

          pairs : (x : ℕ) (m : List ℕ) → Picked p n x → Walk (Near p n R) x m → Walk Pair x m
          pairs x [] px u = tt
          pairs x (y ∷ m) px u = ((px, u.0.0, u.0.1), pairs y m u.0.0 u.1)

      pub still-classes : (v w : ℕ) → Picked p n v → Picked p n w → (val k v ≡ val k w) ↔ Connected (Near p n R) v w
      still-classes v w pv pw = (
        there,
        λ c. omega (
          arith,
          still-along v w pv c,
          still-along w v pw (reached-back v w pv c),
        ),
      )
        where
          there : val k v ≡ val k w → Connected (Near p n R) v w
          there e =
              let a : Connected (Near p n R) v (val k w) = rw e at (value-reached k v pv) in
              connected_trans (Near p n R) v (val k w) w a (reached-back w (val k w) pw (value-reached k w pw))

      -- a value is its own value
      pub still-own : (v : ℕ) → Picked p n v → val k (val k v) ≡ val k v
      still-own v pv =
          let c = value-reached k v pv in
          let m = val k v in
          omega (arith, still-along v m pv c, still-along m v (reached-picked p n R v m pv c) (reached-back v m pv c))
