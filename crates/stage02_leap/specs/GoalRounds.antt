-- What the next round of breadth first leaves where distances found ahead are right.
use Rattle.std.specs.Prelude.{◌≡◌, ℕ, zero, suc, ◌+◌, ◌-◌, ◌<◌, ◌≤◌, true, false, cond, not, ◌&&◌, ◌≢◌, ◌⊎◌, List}
use Rattle.std.specs.Prelude.{length, ℤ, ◌==◌, nat_le}
use Rattle.std.proofs.Math.Path.{refl, ap}
use Rattle.std.proofs.Common.{sym, ◌∙◌, inl, inr, arith}
use Rattle.std.proofs.Math.Decide.{ℕ_discrete, dec_lt}
use borrow.Author.Tests.{eqb-true, eq-eqb, ne_eqb, lt-ltb, le-ltb, le-leb, lt-leb}
use Rattle.base_lists.specs.Folds.{some}
use Rattle.base_lists.specs.Rounds.{over_cong_in}
use Rattle.base_lists.specs.Some.{some-exact}
use Rattle.base_lists.specs.Tables.{over, length_over, get_d_over, over_cong, over-over}
use Rattle.base_lists.specs.Tests.{refuted}
use Rattle.table.specs.Table.{end_a, end_b}
use Rattle.spec_rules.specs.Basics.{ABSENT, at}
use Rattle.spec_rules.specs.Tree.{visited_before, Neighbor, best_neighbor, chosen_parent, visits, parent_round}
use Rattle.spec_rules.specs.Tree.{dist_round}
use Rattle.spec_rules.specs.Tree.{tree_ends}
use Rattle.spec_rules.proofs.ParentChoice.{Joins, Found, by, lacking, found, best_cong, Choice, nearer, nobody, chosen}
use Rattle.spec_rules.proofs.ParentChoice.{visits-later}
use Rattle.stage02_leap.specs.Goal.{Goal, one_nearer, nearest, shown, unvisited, parent_left}

-- the best neighbour one nearer is one
pub nearer-unit : (m : ℕ) (ends : List ℕ) (levels : List ℤ) (far : List ℕ) (v : ℕ) →
    ((j : ℕ) → j < m → end_a ends j < ABSENT) → ((j : ℕ) → j < m → end_b ends j < ABSENT)
    → nearest m ends levels far v ≢ ABSENT →
    (j : ℕ) × (j < m) × ((at far (end_b ends j) + 1 ≡ at far v) ⊎ (at far (end_a ends j) + 1 ≡ at far v))
unfolding nearest
nearer-unit m ends levels far v small_a small_b n =
    go (best_neighbor (one_nearer far v) m ends levels v) n (found (one_nearer far v) ends levels v m small_a small_b)
  where
    go : (best : Neighbor) → best.unit ≢ ABSENT → Found (one_nearer far v) ends levels v m best
        → (j : ℕ) × (j < m) × ((at far (end_b ends j) + 1 ≡ at far v) ⊎ (at far (end_a ends j) + 1 ≡ at far v))
    go best n (lacking e f) = absurd (n e)
    go best n (by j (l, inl h, p) s e low) = (j, l, inl (rw h.1 (eqb-true (at far best.unit + 1) (at far v) p)))
    go best n (by j (l, inr h, p) s e low) = (j, l, inr (rw h.0 (eqb-true (at far best.unit + 1) (at far v) p)))

-- ---- the next round

module _ (n m made last : ℕ) (ends : List ℕ) (levels : List ℤ) (color dist far : List ℕ)
    (g : Goal n m made last ends levels dist far) where
  is_known : (v : ℕ) → v < n → at far v < made → at dist v ≡ at far v
  is_known v h l = g.known v h ∙ rw (lt-ltb (at far v) made l) refl

  is-absent : (v : ℕ) → v < n → made ≤ at far v → at dist v ≡ ABSENT
  is-absent v h l = g.known v h ∙ rw (le-ltb (at far v) made l) refl

  -- visited in the round before: one less than the distance that this round gives
  before-go : (w : ℕ) → w < n → Dec (at far w < made) → Dec (at far w + 1 ≡ made) →
      (at dist w == made - 1) ≡ (at far w + 1 == made)
  before-go w h (yes l) (yes e) = eq-eqb (at dist w) (made - 1) (omega (arith, is_known w h l, e))
      ∙ sym (eq-eqb (at far w + 1) made e)
  before-go w h (yes l) (no e) =
      ne_eqb (at dist w) (made - 1) (λ q. e (omega (arith, is_known w h l, q, g.begun)))
      ∙ sym (ne_eqb (at far w + 1) made e)
  before-go w h (no l) (yes e) = absurd (l (omega (arith, e)))
  before-go w h (no l) (no e) =
      let d : at dist w ≡ ABSENT = is-absent w h (omega (arith, l)) in
      ne_eqb (at dist w) (made - 1) (λ q. omega (arith, d, q, g.to, g.small)) ∙ sym (ne_eqb (at far w + 1) made e)

  before : (w : ℕ) → w < n → (at dist w == made - 1) ≡ (at far w + 1 == made)
  before w h = before-go w h (dec_lt (at far w) made) (ℕ_discrete (at far w + 1) made)

  -- who is visited in this round chooses the best neighbour one nearer
  chosen-nearer : (v : ℕ) → at far v ≡ made → chosen_parent m made ends levels dist v ≡ nearest m ends levels far v
  unfolding chosen_parent nearest
  chosen-nearer v e =
      ap (λ (x : Neighbor). x.unit)
      (best_cong (visited_before made dist) ends levels v (one_nearer far v) m
      (λ j l. (same (end_a ends j) (g.inside j l).0, same (end_b ends j) (g.inside j l).1)))
    where
      same : (w : ℕ) → w < n → (at dist w == made - 1) ≡ (at far w + 1 == at far v)
      same w h = rw e (before w h)

  -- who lies further has no neighbour that was visited in the round before
  joined : (v c j : ℕ) → j < m → Joins ends j v c → (c < n) × (at far v ≤ at far c + 1)
  joined v c j l (inl (a, b)) = (rw (← b) (g.inside j l).1, rw (← a, ← b) (g.beside j l).0)
  joined v c j l (inr (a, b)) = (rw (← a) (g.inside j l).0, rw (← a, ← b) (g.beside j l).1)

  chosen-further : (v : ℕ) → made < at far v → chosen_parent m made ends levels dist v ≡ ABSENT
  chosen-further v f =
      go (chosen_parent m made ends levels dist v)
      (chosen m made ends levels dist (λ j l. omega (arith, (g.inside j l).0, g.few))
      (λ j l. omega (arith, (g.inside j l).1, g.few)) v)
    where
      go : (c : ℕ) → Choice m made ends dist v c → c ≡ ABSENT
      go c (nearer s j l h q) =
          let w = joined v c j l h in
          let e : at far c + 1 ≡ made = eqb-true (at far c + 1) made (sym (before c w.0)
          ∙ eq-eqb (at dist c) (made - 1) q) in
          absurd (omega (arith, f, w.1, e))
      go c (nobody e h) = e

  -- this round visits the units at this distance
  visits-go : (v : ℕ) → v < n → Dec (at far v ≡ made) → Dec (at far v < made) →
      visits m made ends levels color dist v ≡ (at far v == made)
  visits-go v h (yes e) d =
      visits-later m made ends levels color dist v g.begun
      ∙ rw (
        eq-eqb (at dist v) ABSENT (is-absent v h (omega (arith, e))),
        chosen-nearer v e,
        eq-eqb (at far v) made e,
        chose (g.led v h (omega (arith, e))),
      ) refl
    where
      chose : (at far v ≡ ABSENT) ⊎ ((at far v < last) × (nearest m ends levels far v ≢ ABSENT)) →
          (nearest m ends levels far v == ABSENT) ≡ false
      chose (inl a) = absurd (omega (arith, a, e, g.to, g.small))
      chose (inr a) = ne_eqb (nearest m ends levels far v) ABSENT a.1
  visits-go v h (no e) (yes l) =
      visits-later m made ends levels color dist v g.begun
      ∙ rw (
        ne_eqb (at dist v) ABSENT (λ q. omega (arith, is_known v h l, q, l, g.to, g.small)),
        ne_eqb (at far v) made e,
      ) refl
  visits-go v h (no e) (no l) =
      visits-later m made ends levels color dist v g.begun
      ∙ rw (
        eq-eqb (at dist v) ABSENT (is-absent v h (omega (arith, l))),
        chosen-further v (omega (arith, e, l)),
        ne_eqb (at far v) made e,
      ) refl

  pub visits-is : (v : ℕ) → v < n → visits m made ends levels color dist v ≡ (at far v == made)
  visits-is v h = visits-go v h (ℕ_discrete (at far v) made) (dec_lt (at far v) made)

  -- the tables after it
  pub dist_next : dist_round n m made ends levels color dist
      ≡ over n (λ (v : ℕ). cond (at far v == made) made (at dist v)) dist
  unfolding dist_round
  dist_next =
      over_cong n (λ (v : ℕ). cond (visits m made ends levels color dist v) made (at dist v))
      (λ (v : ℕ). cond (at far v == made) made (at dist v)) dist
      (λ (v : ℕ) (h : v < n). rw (visits-is v h) refl)

  parent-at : (v : ℕ) (x : ℕ) → v < n → Dec (at far v ≡ made)
      → cond (visits m made ends levels color dist v)
      (cond (made == 0) ABSENT (chosen_parent m made ends levels dist v)) x
      ≡ cond (at far v == made) (nearest m ends levels far v) x
  parent-at v x h (yes e) = rw (
    visits-is v h,
    eq-eqb (at far v) made e,
    ne_eqb made 0 (λ z. omega (arith, z, g.begun)),
    chosen-nearer v e,
  ) refl
  parent-at v x h (no e) = rw (visits-is v h, ne_eqb (at far v) made e) refl

  pub parent-next : (parent : List ℕ) → parent_round n m made ends levels color dist parent
      ≡ over n (λ (v : ℕ). cond (at far v == made) (nearest m ends levels far v) (at parent v)) parent
  unfolding parent_round
  parent-next parent =
      over_cong n (λ (v : ℕ). cond (visits m made ends levels color dist v)
      (cond (made == 0) ABSENT (chosen_parent m made ends levels dist v)) (at parent v))
      (λ (v : ℕ). cond (at far v == made) (nearest m ends levels far v) (at parent v)) parent
      (λ (v : ℕ) (h : v < n). parent-at v (at parent v) h (ℕ_discrete (at far v) made))

  -- before the last round each visits some unit
  level : (d u : ℕ) → u < n → at far u ≡ made + d → made + d < last → (v : ℕ) × (v < n) × (at far v ≡ made)
  level zero u h e l = (u, h, omega (arith, e))
  level (suc d) u h e l = go (g.led u h (omega (arith, e))) (level d)
    where
      down : (j : ℕ) × (j < m) × ((at far (end_b ends j) + 1 ≡ at far u) ⊎ (at far (end_a ends j) + 1 ≡ at far u))
          → ((w : ℕ) → w < n → at far w ≡ made + d → made + d < last → (v : ℕ) × (v < n) × (at far v ≡ made)) →
          (v : ℕ) × (v < n) × (at far v ≡ made)
      down (j, i, inl q) later = later (end_b ends j) (g.inside j i).1 (omega (arith, e, q)) (omega (arith, l))
      down (j, i, inr q) later = later (end_a ends j) (g.inside j i).0 (omega (arith, e, q)) (omega (arith, l))

      go : (at far u ≡ ABSENT) ⊎ ((at far u < last) × (nearest m ends levels far u ≢ ABSENT))
          → ((w : ℕ) → w < n → at far w ≡ made + d → made + d < last → (v : ℕ) × (v < n) × (at far v ≡ made)) →
          (v : ℕ) × (v < n) × (at far v ≡ made)
      go (inl a) later = absurd (omega (arith, a, e, l, g.small))
      go (inr a) later = down (nearer-unit m ends levels far u (λ j l. omega (arith, (g.inside j l).0, g.few))
          (λ j l. omega (arith, (g.inside j l).1, g.few)) a.1) later

  pub ends_not : made < last → tree_ends n m made ends levels color dist ≡ false
  unfolding tree_ends
  ends_not l =
      let t = g.tip in
      let w = level (last - 1 - made) t.0 t.1 (omega (arith, t.2, l)) (omega (arith, l)) in
      rw ((some-exact n (visits m made ends levels color dist)).1 (
        w.0,
        w.1,
        visits-is w.0 w.1 ∙ eq-eqb (at far w.0) made w.2,
      )) refl

  -- the last visits none
  pub ends_now : made ≡ last → tree_ends n m made ends levels color dist ≡ true
  unfolding tree_ends
  ends_now e =
      rw (refuted (some n (visits m made ends levels color dist))
      (λ t. none ((some-exact n (visits m made ends levels color dist)).0 t))) refl
    where
      nowhere : (v : ℕ) → v < n → at far v ≢ made
      nowhere v h q = go (g.led v h (omega (arith, q)))
        where
          go : (at far v ≡ ABSENT) ⊎ ((at far v < last) × (nearest m ends levels far v ≢ ABSENT)) → ⊥
          go (inl a) = omega (arith, a, q, e, g.small)
          go (inr a) = omega (arith, a.0, q, e)

      none : (i : ℕ) × (i < n) × (visits m made ends levels color dist i ≡ true) → ⊥
      none (v, h, t) = nowhere v h (eqb-true (at far v) made (sym (visits-is v h) ∙ t))

  -- and the distances are right for the round after it
  after-at : (v : ℕ) → v < n → at (dist_round n m made ends levels color dist) v
      ≡ cond (at far v == made) made (at dist v)
  after-at v h = rw dist_next (get_d_over n (λ (w : ℕ). cond (at far w == made) made (at dist w)) dist v 0 h
      (omega (arith, g.full)))

  known_next : (v : ℕ) → v < n → Dec (at far v ≡ made) → Dec (at far v < made)
      → at (dist_round n m made ends levels color dist) v ≡ shown (suc made) far v
  known_next v h (yes e) l = after-at v h
      ∙ rw (eq-eqb (at far v) made e, lt-ltb (at far v) (suc made) (omega (arith, e))) (sym e)
  known_next v h (no e) (yes l) = after-at v h
      ∙ rw (ne_eqb (at far v) made e, lt-ltb (at far v) (suc made) (omega (arith, l))) (is_known v h l)
  known_next v h (no e) (no l) = after-at v h
      ∙ rw (ne_eqb (at far v) made e, le-ltb (at far v) (suc made) (omega (arith, e, l)))
      (is-absent v h (omega (arith, l)))

  long-next : length (dist_round n m made ends levels color dist) ≡ length dist
  unfolding dist_round
  long-next = length_over n (λ (v : ℕ). cond (visits m made ends levels color dist v) made (at dist v)) dist

  pub goal-next : made < last → Goal n m (suc made) last ends levels (dist_round n m made ends levels color dist) far
  goal-next l =
      record {
        few = g.few;
        full = omega (arith, g.full, long-next);
        inside = g.inside;
        begun = omega arith;
        to = omega (arith, l);
        small = g.small;
        known = λ v h. known_next v h (ℕ_discrete (at far v) made) (dec_lt (at far v) made);
        beside = g.beside;
        led = λ v h i. g.led v h (omega (arith, i));
        tip = g.tip;
      }

-- ---- the tables, a round later

-- what a round visits it leaves visited
visited-once : (made f u parent : ℕ) → made < ABSENT → Dec (f ≡ made)
    → cond (nat_le (suc made) f && not (f == ABSENT)) u (cond (f == made) u parent)
    ≡ cond (nat_le made f && not (f == ABSENT)) u parent
visited-once made f u parent few (yes e) =
    rw (
      lt-leb (suc made) f (omega (arith, e)),
      eq-eqb f made e,
      le-leb made f (omega (arith, e)),
      ne_eqb f ABSENT (λ q. omega (arith, q, e, few)),
    ) refl
visited-once made f u parent few (no e) = rw (ne_eqb f made e, later (dec_lt made f)) refl
  where
    later : Dec (made < f) → nat_le (suc made) f ≡ nat_le made f
    later (yes l) = le-leb (suc made) f (omega (arith, l)) ∙ sym (le-leb made f (omega (arith, l)))
    later (no l) = lt-leb (suc made) f (omega (arith, l)) ∙ sym (lt-leb made f (omega (arith, l, e)))

module _ (n m made last : ℕ) (ends : List ℕ) (levels : List ℤ) (dist far : List ℕ)
    (g : Goal n m made last ends levels dist far) where
  pub parents-onward : (parent : List ℕ)
      → over n (parent_left m (suc made) ends levels far
      (over n (λ (v : ℕ). cond (at far v == made) (nearest m ends levels far v) (at parent v)) parent))
      (over n (λ (v : ℕ). cond (at far v == made) (nearest m ends levels far v) (at parent v)) parent)
      ≡ over n (parent_left m made ends levels far parent) parent
  parents-onward parent =
      over-over n (parent_left m (suc made) ends levels far (over n now parent)) now parent
      ∙ over_cong_in 0 n (parent_left m (suc made) ends levels far (over n now parent))
      (parent_left m made ends levels far parent) parent
      (λ (v : ℕ) (h : v < n) (l : v < length parent).
      rw (get_d_over n now parent v 0 h l)
      (visited-once made (at far v) (nearest m ends levels far v) (at parent v) (omega (arith, g.to, g.small))
      (ℕ_discrete (at far v) made)))
    where
      now : ℕ → ℕ
      now v = cond (at far v == made) (nearest m ends levels far v) (at parent v)

  -- after the last round none is left to be visited
  pub gone : made ≡ last → (v : ℕ) → v < n → (at far v < made) ⊎ (at far v ≡ ABSENT)
  gone e v h = go (dec_lt (at far v) made)
    where
      found : (at far v ≡ ABSENT) ⊎ ((at far v < last) × (nearest m ends levels far v ≢ ABSENT)) →
          (at far v < made) ⊎ (at far v ≡ ABSENT)
      found (inl a) = inr a
      found (inr a) = inl (omega (arith, a.0, e))

      go : Dec (at far v < made) → (at far v < made) ⊎ (at far v ≡ ABSENT)
      go (yes l) = inl l
      go (no l) = found (g.led v h (omega (arith, l)))

  pub parent-ended : (v u parent : ℕ) → (at far v < made) ⊎ (at far v ≡ ABSENT)
      → cond (at far v == made) u parent ≡ cond (unvisited made far v) u parent
  parent-ended v u parent (inl l) = rw (
    ne_eqb (at far v) made (λ q. omega (arith, q, l)),
    lt-leb made (at far v) l,
  ) refl
  parent-ended v u parent (inr a) =
      rw (
        ne_eqb (at far v) made (λ q. omega (arith, q, a, g.to, g.small)),
        eq-eqb (at far v) ABSENT a,
        le-leb made (at far v) (omega (arith, a, g.to, g.small)),
      ) refl

  pub dist_ended : (v : ℕ) → v < n → (at far v < made) ⊎ (at far v ≡ ABSENT) →
      cond (at far v == made) made (at dist v) ≡ at far v
  dist_ended v h (inl l) = rw (
    ne_eqb (at far v) made (λ q. omega (arith, q, l)),
    g.known v h,
    lt-ltb (at far v) made l,
  ) refl
  dist_ended v h (inr a) =
      rw (
        ne_eqb (at far v) made (λ q. omega (arith, q, a, g.to, g.small)),
        g.known v h,
        le-ltb (at far v) made (omega (arith, a, g.to, g.small)),
      ) (sym a)
