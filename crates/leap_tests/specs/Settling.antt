-- Rounds of the least value, over any table of pairs of units: of each unit the value that it ends with and the rounds
-- in which it gets there, right over every pair and unit. A round leaves them right, each wait one less; where they
-- come from does not matter.
use Rattle.std.specs.Prelude.{◌≡◌, ℕ, zero, suc, ◌-◌, ◌<◌, ◌≤◌, false, List, length, refl}
use Rattle.std.proofs.Common.{sym, ◌∙◌, inl, inr, le_antisymm, arith, eq-eqb, ne_eqb}
use Rattle.std.proofs.Math.Decide.{ℕ_discrete}
use Rattle.base_lists.specs.Folds.{agree}
use Rattle.base_lists.specs.LeastLaws.{least_start, least_le, least-greatest}
use Rattle.base_lists.specs.Tables.{over, length_over, get_d_over}
use Rattle.base_lists.specs.Rounds.{over-same}
use Rattle.base_lists.specs.Tests.{refuted}
use Rattle.base_lists.specs.Agreement.{agree_at}
use Rattle.table.specs.Table.{end_a, end_b}
use Rattle.spec_rules.specs.Basics.{at, heard}
use Rattle.spec_rules.specs.Components.{least_heard}
use Rattle.spec_rules.proofs.ParentChoice.{Joins}

-- a round in which each unit says its value
abbrev pub spread : ℕ → ℕ → List ℕ → List ℕ → List ℕ
spread n m ends value = over n (least_heard m ends value) value

-- a neighbour of v that gets there a round before it
pub record Sooner (m : ℕ) (ends : List ℕ) (wait : ℕ → ℕ) (v : ℕ) : Type 0 where
  pub pair : ℕ
  pub below : pair < m
  pub from : ℕ
  pub joins : Joins ends pair v from
  pub sooner : wait v ≡ suc (wait from)

-- unit v ends with the value `last v`, in `wait v` rounds
pub record Settling (n m : ℕ) (ends value : List ℕ) (last wait : ℕ → ℕ) : Type 0 where
  pub room : n ≤ length value
  pub within : (j : ℕ) → j < m → (end_a ends j < n) × (end_b ends j < n)
  pub same : (j : ℕ) → j < m → last (end_a ends j) ≡ last (end_b ends j)
  pub near : (j : ℕ) → j < m → (wait (end_a ends j) ≤ suc (wait (end_b ends j)))
      × (wait (end_b ends j) ≤ suc (wait (end_a ends j)))
  pub there : (v : ℕ) → v < n → wait v ≡ 0 → at value v ≡ last v
  pub above : (v : ℕ) → v < n → 1 ≤ wait v → last v < at value v
  pub way : (v : ℕ) → v < n → 1 ≤ wait v → Sooner m ends wait v

-- ---- what v hears

-- no less than a bound of its own value and its neighbours'
heard-above : (m : ℕ) (ends value : List ℕ) (v z : ℕ) → z ≤ at value v →
    ((j w : ℕ) → j < m → Joins ends j v w → z ≤ at value w)
    → z ≤ least_heard m ends value v
unfolding least_heard
heard-above m ends value v z own pairs =
    least-greatest m (λ (j : ℕ). heard value (end_a ends j) (end_b ends j) v) (at value v) z own
    (λ (j : ℕ) (l : j < m). go j l (ℕ_discrete (end_a ends j) v) (ℕ_discrete (end_b ends j) v))
  where
    go : (j : ℕ) → j < m → Dec (end_a ends j ≡ v) → Dec (end_b ends j ≡ v)
        → z ≤ heard value (end_a ends j) (end_b ends j) v
    go j l (yes d) e = rw (eq-eqb (end_a ends j) v d) (pairs j (end_b ends j) l (inl (d, refl)))
    go j l (no d) (yes e) = rw (
      ne_eqb (end_a ends j) v d,
      eq-eqb (end_b ends j) v e,
    ) (pairs j (end_a ends j) l (inr (refl, e)))
    go j l (no d) (no e) = rw (ne_eqb (end_a ends j) v d, ne_eqb (end_b ends j) v e) own

pub heard-own : (m : ℕ) (ends value : List ℕ) (v : ℕ) → least_heard m ends value v ≤ at value v
unfolding least_heard
heard-own m ends value v = least_start m (λ (j : ℕ). heard value (end_a ends j) (end_b ends j) v) (at value v)

-- no more than a neighbour's value
heard-joined : (m : ℕ) (ends value : List ℕ) (j v w : ℕ) → j < m → Joins ends j v w →
    least_heard m ends value v ≤ at value w
unfolding least_heard
heard-joined m ends value j v w l q = go q (ℕ_discrete (end_a ends j) v)
    (least_le m (λ (k : ℕ). heard value (end_a ends k) (end_b ends k) v) (at value v) j l)
  where
    go : Joins ends j v w → Dec (end_a ends j ≡ v) →
        least_heard m ends value v ≤ heard value (end_a ends j) (end_b ends j) v
        → least_heard m ends value v ≤ at value w
    go (inl (a, b)) (yes d) h = rw (eq-eqb (end_a ends j) v d, b) at h
    go (inl (a, b)) (no d) h = absurd (d a)
    go (inr (a, b)) (yes d) h =
        let e : end_b ends j ≡ w = b ∙ sym d ∙ a in
        rw (eq-eqb (end_a ends j) v d, e) at h
    go (inr (a, b)) (no d) h = rw (ne_eqb (end_a ends j) v d, eq-eqb (end_b ends j) v b, a) at h

-- ---- one round

module _ (n m : ℕ) (ends value : List ℕ) (last wait : ℕ → ℕ) (s : Settling n m ends value last wait) where
  same-joined : (j v w : ℕ) → j < m → Joins ends j v w → last v ≡ last w
  same-joined j v w l (inl (a, b)) = let g = s.same j l in rw (a, b) at g
  same-joined j v w l (inr (a, b)) = let g = s.same j l in sym (rw (a, b) at g)

  below-joined : (j v w : ℕ) → j < m → Joins ends j v w → w < n
  below-joined j v w l (inl (a, b)) = let h = (s.within j l).1 in rw b at h
  below-joined j v w l (inr (a, b)) = let h = (s.within j l).0 in rw a at h

  near-joined : (j v w : ℕ) → j < m → Joins ends j v w → wait v ≤ suc (wait w)
  near-joined j v w l (inl (a, b)) = let h = (s.near j l).0 in rw (a, b) at h
  near-joined j v w l (inr (a, b)) = let h = (s.near j l).1 in rw (a, b) at h

  at_least : (v : ℕ) → v < n → last v ≤ at value v
  at_least v h = go (ℕ_discrete (wait v) 0)
    where
      go : Dec (wait v ≡ 0) → last v ≤ at value v
      go (yes e) = omega (arith, s.there v h e)
      go (no e) = omega (arith, s.above v h (omega arith))

  new-at : (v : ℕ) → v < n → at (spread n m ends value) v ≡ least_heard m ends value v
  new-at v h = get_d_over n (least_heard m ends value) value v 0 h (omega (arith, s.room))

  -- who has at most one round to wait is there after it
  arrives : (v : ℕ) → v < n → wait v ≤ 1 → at (spread n m ends value) v ≡ last v
  arrives v h l =
      new-at v h
      ∙ le_antisymm (go (ℕ_discrete (wait v) 0))
      (heard-above m ends value v (last v) (at_least v h)
      (λ j w k q. let e : last v ≡ last w = same-joined j v w k q in omega (
        arith,
        e,
        at_least w (below-joined j v w k q),
      )))
    where
      go : Dec (wait v ≡ 0) → least_heard m ends value v ≤ last v
      go (yes e) = omega (arith, heard-own m ends value v, s.there v h e)
      go (no e) =
          let w : Sooner m ends wait v = s.way v h (omega arith) in
          let b : w.from < n = below-joined w.pair v w.from w.below w.joins in
          let z : wait w.from ≡ 0 = omega (arith, w.sooner) in
          omega (
            arith,
            heard-joined m ends value w.pair v w.from w.below w.joins,
            s.there w.from b z,
            same-joined w.pair v w.from w.below w.joins,
          )

  -- who has more is not
  waits : (v : ℕ) → v < n → 2 ≤ wait v → last v < at (spread n m ends value) v
  waits v h l =
      let low : suc (last v) ≤ least_heard m ends value v =
      heard-above m ends value v (suc (last v)) (s.above v h (omega arith))
      (λ j w k q.
      let e : last v ≡ last w = same-joined j v w k q in
      omega (arith, e, s.above w (below-joined j v w k q) (omega (arith, near-joined j v w k q)))) in
      omega (arith, low, new-at v h)

  sooner-less : (v : ℕ) → 1 ≤ wait v - 1 → Sooner m ends wait v → Sooner m ends (λ (u : ℕ). wait u - 1) v
  sooner-less v h w = record {
    pair = w.pair;
    below = w.below;
    from = w.from;
    joins = w.joins;
    sooner = omega (arith, w.sooner);
  }

  -- after a round each wait is one less
  pub settling-round : Settling n m ends (spread n m ends value) last (λ (v : ℕ). wait v - 1)
  settling-round =
      record {
        room = omega (arith, s.room, length_over n (least_heard m ends value) value);
        within = s.within;
        same = s.same;
        near = λ j l. (omega (arith, (s.near j l).0), omega (arith, (s.near j l).1));
        there = λ v h e. arrives v h (omega arith);
        above = λ v h l. waits v h (omega arith);
        way = λ v h l. sooner-less v l (s.way v h (omega arith));
      }

  -- where a unit waits, one has a single round to wait, and changes
  next_one : (d v : ℕ) → v < n → wait v ≡ suc d → (w : ℕ) × (w < n) × (wait w ≡ 1)
  next_one zero v h e = (v, h, e)
  next_one (suc d) v h e =
      let w : Sooner m ends wait v = s.way v h (omega arith) in
      next_one d w.from (below-joined w.pair v w.from w.below w.joins) (omega (arith, w.sooner))

  pub goes_on : (v : ℕ) → v < n → 1 ≤ wait v → agree n value (spread n m ends value) ≡ false
  goes_on v h l =
      let (w, b, e) = next_one (wait v - 1) v h (omega arith) in
      refuted (agree n value (spread n m ends value))
      (λ t.
      let unchanged : at value w ≡ at (spread n m ends value) w =
      agree_at n value (spread n m ends value) 0 s.room
      (omega (arith, s.room, length_over n (least_heard m ends value) value)) t w b in
      omega (arith, unchanged, arrives w b (omega (arith, e)), s.above w b (omega (arith, e))))

  -- where none does, a round changes nothing
  pub stays : ((v : ℕ) → v < n → wait v ≡ 0) → spread n m ends value ≡ value
  stays none =
      sym (over-same 0 n (least_heard m ends value) value
      (λ (v : ℕ) (h : v < n). s.there v h (none v h) ∙ sym (arrives v h (omega (arith, none v h))) ∙ new-at v h))
