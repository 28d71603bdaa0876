-- The rounds of stage 2 that a leap stands for, as the run of the definition.
use Rattle.std.specs.Prelude.{◌≡◌, Bool, true, false, ◌&&◌, List, leb, ltb, ℤ}
use Rattle.std.proofs.Math.Path.{refl, sym}
use Rattle.std.proofs.Common.{◌∙◌, leb-true, lt-ltb}
use Prim.Native.Nat.{ℕ, zero, suc, ◌+◌, ◌-◌, ◌≤◌, ◌<◌, min}
use native.Mathlib.Omega.{arith}
use Rattle.base_lists.specs.Tables.{over, over-over, over_cong}
use Rattle.base_lists.specs.Tests.{and_left, and_right, and-true, refuted, not_both}
use Rattle.spec_rules.specs.Basics.{at}
use Rattle.spec_rules.specs.Tree.{parent_round, dist_round, tree_ends}
use Rattle.spec_rules.specs.Fits.{links_fit}
use Rattle.spec_state.specs.declared.groups.Clock.{Clock}
use Rattle.spec_machine.specs.State.{MAX-ROUNDS, MAX-REQUESTS}
use Rattle.spec_machine.specs.Step.{next_clock}
use Rattle.spec_machine.specs.InStage.{Ready, last_at, in_stage, stands, may, in_stage_lem}
use Rattle.spec_machine.specs.StageRun.{stage_run, Turning, turns_begin, turns_on, turns_over}
use Rattle.stage02_tree.specs.declared.Ran.{Ran}
use Rattle.stage02_tree.specs.Rounds.{on, one, after_search}
use Rattle.stage02_leap.specs.Goal.{Goal, parent_left, Leapt}
use Rattle.stage02_leap.specs.GoalRounds.{dist_next, parent-next, ends_not, ends_now, goal-next, parents-onward, gone}
use Rattle.stage02_leap.specs.GoalRounds.{parent-ended, dist_ended}

-- ---- a round

-- the state after a round that is not the last, and after the last
abbrev onward : Ran → List ℕ → List ℕ → Ran
onward x parent dist = record { parent = parent; dist = dist; clock = next_clock false 0 x.clock; made = x.made + 1 }

abbrev ending : Ran → List ℕ → List ℕ → Ran
ending x parent dist = record { parent = parent; dist = dist; clock = next_clock true 0 x.clock; made = x.made + 1 }

not_last : (n : ℕ) (c : Clock) → c.stage ≡ 2 → c.made < n → last_at n false c ≡ false
unfolding last_at
not_last n c s l = rw s (refuted (leb (n + 1) (c.made + 1)) (λ t. omega (arith, leb-true (n + 1) (c.made + 1) t, l)))

is_last : (n : ℕ) (c : Clock) → last_at n true c ≡ true
unfolding last_at
is_last n c = refl

module _ (n m : ℕ) (plan ends : List ℕ) (levels : List ℤ) (color : List ℕ) where
  one-by : (x : Ran) (ended : Bool) → tree_ends n m x.clock.made ends levels color x.dist ≡ ended
      → one n m 0 plan ends levels color x
      ≡ record {
        parent = parent_round n m x.clock.made ends levels color x.dist x.parent;
        dist = dist_round n m x.clock.made ends levels color x.dist;
        clock = next_clock (last_at n ended x.clock) 0 x.clock;
        made = x.made + 1;
      }
  unfolding one
  one-by x ended e =
      let l = after_search n m x.clock.made 0 plan ends levels color x.dist x.parent refl in
      rw (sym l.0, sym l.1.0, sym l.1.1, e) refl

  one-onward : (x : Ran) → x.clock.stage ≡ 2 → x.clock.made < n →
      tree_ends n m x.clock.made ends levels color x.dist ≡ false
      → onward x (parent_round n m x.clock.made ends levels color x.dist x.parent)
      (dist_round n m x.clock.made ends levels color x.dist)
      ≡ one n m 0 plan ends levels color x
  one-onward x s l e = sym (one-by x false e ∙ rw (not_last n x.clock s l) refl)

  one-ending : (x : Ran) → tree_ends n m x.clock.made ends levels color x.dist ≡ true
      → ending x (parent_round n m x.clock.made ends levels color x.dist x.parent)
      (dist_round n m x.clock.made ends levels color x.dist)
      ≡ one n m 0 plan ends levels color x
  one-ending x e = sym (one-by x true e ∙ rw (is_last n x.clock) refl)

-- ---- the clock

on-onward : (n : ℕ) (c : Clock) → in_stage n 2 c ≡ true → c.made < n → in_stage n 2 (next_clock false 0 c) ≡ true
unfolding next_clock
on-onward n c h l =
    let r : Ready n c = may n 2 c (omega arith) h in
    in_stage_lem n 2 (next_clock false 0 c)
    (record {
      few = r.few;
      from = r.from;
      to = r.to;
      made = omega (arith, l, r.few);
      rounds = omega arith;
      requests = omega arith;
    }) (stands n 2 c h)

off-ended : (n rounds requests : ℕ)
    → in_stage n 2 (record { stage = 3; made = 0; rounds = rounds; requests = requests })
    ≡ false
off-ended n rounds requests =
    refuted (in_stage n 2 (record { stage = 3; made = 0; rounds = rounds; requests = requests }))
    (λ t. let z : 3 ≡ 2 = stands n 2 (record { stage = 3; made = 0; rounds = rounds; requests = requests }) t in omega
    (arith, z))

-- ---- all rounds

-- what is left after round `last`, which ends the stage
abbrev pub leapt : ℕ → ℕ → ℕ → List ℕ → List ℤ → List ℕ → Ran → Ran
leapt n m last ends levels far x =
    record {
      parent = over n (parent_left m x.clock.made ends levels far x.parent) x.parent;
      dist = over n (at far) x.dist;
      clock = record {
        stage = 3;
        made = 0;
        rounds = min (x.clock.rounds + (last + 1 - x.clock.made)) MAX-ROUNDS;
        requests = x.clock.requests;
      };
      made = x.made + (last + 1 - x.clock.made);
    }

same-run : (parent parent' dist dist' : List ℕ)
    (stage stage' made made' rounds rounds' requests requests' count count' : ℕ) → parent ≡ parent' → dist ≡ dist' →
    stage ≡ stage' → made ≡ made'
    → rounds ≡ rounds' → requests ≡ requests' → count ≡ count'
    → ◌≡◌ {A = Ran} (record {
      parent = parent;
      dist = dist;
      clock = record { stage = stage; made = made; rounds = rounds; requests = requests };
      made = count;
    })
    (record {
      parent = parent';
      dist = dist';
      clock = record { stage = stage'; made = made'; rounds = rounds'; requests = requests' };
      made = count';
    })
same-run parent parent' dist dist' stage stage' made made' rounds rounds' requests requests' count count' a b c d e f
    g = rw (a, b, c, d, e, f, g) refl

module _ (n m last : ℕ) (plan ends : List ℕ) (levels : List ℤ) (color far : List ℕ) where
  leapt-ending : (x : Ran) → Ready n x.clock → x.clock.stage ≡ 2 → x.clock.made ≡ last →
      Goal n m x.clock.made last ends levels x.dist far
      → leapt n m last ends levels far x
      ≡ ending x (parent_round n m x.clock.made ends levels color x.dist x.parent)
      (dist_round n m x.clock.made ends levels color x.dist)
  unfolding next_clock
  leapt-ending x r s e g =
      same-run _ _ _ _ 3 (x.clock.stage + 1) 0 0 (min (x.clock.rounds + (last + 1 - x.clock.made)) MAX-ROUNDS)
      (min (x.clock.rounds + 1) MAX-ROUNDS)
      x.clock.requests (min (x.clock.requests + 0) MAX-REQUESTS) (x.made + (last + 1 - x.clock.made))
      (x.made + 1)
      (sym (parent-next n m x.clock.made last ends levels color x.dist far g x.parent
      ∙ over_cong n _ (parent_left m x.clock.made ends levels far x.parent) x.parent
      (λ (v : ℕ) (h : v < n). parent-ended n m x.clock.made last ends levels x.dist far g v _ (at x.parent v)
      (gone n m x.clock.made last ends levels x.dist far g e v h))))
      (sym (dist_next n m x.clock.made last ends levels color x.dist far g
      ∙ over_cong n _ (at far) x.dist
      (λ (v : ℕ) (h : v < n). dist_ended n m x.clock.made last ends levels x.dist far g v h
      (gone n m x.clock.made last ends levels x.dist far g e v h))))
      (omega (arith, s)) refl (omega (arith, e)) (omega (arith, r.requests)) (omega (arith, e))

  leapt-onward : (x : Ran) → Ready n x.clock → x.clock.made < last →
      Goal n m x.clock.made last ends levels x.dist far
      → leapt n m last ends levels far
      (onward x (parent_round n m x.clock.made ends levels color x.dist x.parent)
      (dist_round n m x.clock.made ends levels color x.dist))
      ≡ leapt n m last ends levels far x
  unfolding next_clock
  leapt-onward x r l g =
      let k = x.clock.made in
      let next : k + 1 ≡ suc k = omega arith in
      same-run _ _ _ _ 3 3 0 0 (min (min (x.clock.rounds + 1) MAX-ROUNDS + (last + 1 - (k + 1))) MAX-ROUNDS)
      (min (x.clock.rounds + (last + 1 - k)) MAX-ROUNDS)
      (min (x.clock.requests + 0) MAX-REQUESTS) x.clock.requests (x.made + 1 + (last + 1 - (k + 1)))
      (x.made + (last + 1 - k))
      (rw (next, parent-next n m k last ends levels color x.dist far g x.parent)
      (parents-onward n m k last ends levels x.dist far g x.parent))
      (rw (dist_next n m k last ends levels color x.dist far g) (over-over n (at far) _ x.dist))
      refl refl (omega (arith, l)) (omega (arith, r.requests)) (omega (arith, l))

  leaps : (r : ℕ) (budget : ℕ) (x₀ : Ran) (count : ℕ) (x : Ran) →
      Turning (on n m ends) (one n m 0 plan ends levels color) budget x₀ count x → on n m ends x ≡ true
      → Goal n m x.clock.made last ends levels x.dist far → x.clock.made + r ≡ last → last ≤ n →
      count + (r + 1) ≤ budget
      → Turning (on n m ends) (one n m 0 plan ends levels color) budget x₀ (count + (r + 1))
      (leapt n m last ends levels far x)
  unfolding next_clock
  leaps zero budget x₀ count x t go g e room few =
      let inside = and_right (links_fit n m ends) (in_stage n 2 x.clock) go in
      let there : x.clock.made ≡ last = omega (arith, e) in
      turns_on (on n m ends) (one n m 0 plan ends levels color) budget x₀ count x (leapt n m last ends levels far x) t
      (and-true (ltb count budget) (on n m ends x) (lt-ltb count budget (omega (arith, few))) go)
      (leapt-ending x (may n 2 x.clock (omega arith) inside) (stands n 2 x.clock inside) there g
      ∙ one-ending n m plan ends levels color x
      (ends_now n m x.clock.made last ends levels color x.dist far g there))
  leaps (suc r) budget x₀ count x t go g e room few =
      let k = x.clock.made in
      let inside = and_right (links_fit n m ends) (in_stage n 2 x.clock) go in
      let less : k < last = omega (arith, e) in
      let y = onward x (parent_round n m k ends levels color x.dist x.parent)
      (dist_round n m k ends levels color x.dist) in
      let again : (count + 1) + (r + 1) ≡ count + (suc r + 1) = omega arith in
      let turned =
      turns_on (on n m ends) (one n m 0 plan ends levels color) budget x₀ count x y t
      (and-true (ltb count budget) (on n m ends x) (lt-ltb count budget (omega (arith, few))) go)
      (one-onward n m plan ends levels color x (stands n 2 x.clock inside) (omega (arith, less, room))
      (ends_not n m k last ends levels color x.dist far g less)) in
      rw (← again, ← leapt-onward x (may n 2 x.clock (omega arith) inside) less g)
      (leaps r budget x₀ (count + 1) y turned
      (and-true (links_fit n m ends) (in_stage n 2 y.clock) (and_left (links_fit n m ends) (in_stage n 2 x.clock) go)
      (on-onward n x.clock inside (omega (arith, less, room))))
      (goal-on k (goal-next n m k last ends levels color x.dist far g less)) (omega (arith, e)) room
      (omega (arith, few)))
    where
      goal-on : (k : ℕ) → Goal n m (suc k) last ends levels (dist_round n m k ends levels color x.dist) far
          → Goal n m (k + 1) last ends levels (dist_round n m k ends levels color x.dist) far
      goal-on k h = let next : k + 1 ≡ suc k = omega arith in rw next h

  -- so many rounds leave just that
  pub leap_run : (left : ℕ) (x : Ran) → on n m ends x ≡ true →
      Goal n m x.clock.made last ends levels x.dist far → last ≤ n → last + 1 - x.clock.made ≤ left
      → leapt n m last ends levels far x ≡ stage_run (on n m ends) (one n m 0 plan ends levels color) left x
  leap_run left x go g room few =
      let y = leapt n m last ends levels far x in
      let count = 0 + (last - x.clock.made + 1) in
      turns_over (on n m ends) (one n m 0 plan ends levels color) left x count y
      (leaps (last - x.clock.made) left x 0 x
      (turns_begin (on n m ends) (one n m 0 plan ends levels color) left x) go g (omega (arith, g.to)) room
      (omega (arith, g.to, few)))
      (refuted (ltb count left && on n m ends y)
      (λ t. not_both (in_stage n 2 y.clock)
      (and_right (links_fit n m ends) (in_stage n 2 y.clock) (and_right (ltb count left) (on n m ends y) t))
      (off-ended n _ _)))

-- the state with these tables is what the rest of a run leaves, where the budget covers the rounds
pub leapt-run : (n m left given last more rounds : ℕ) (plan ends : List ℕ) (levels : List ℤ) (color : List ℕ) (x : Ran)
    (new-parent new-dist : List ℕ)
    → given ≡ 0 → links_fit n m ends ≡ true → in_stage n 2 x.clock ≡ true →
    Leapt n m x.clock.made last ends levels x.parent x.dist new-parent new-dist
    → more ≡ last - x.clock.made → more < left → rounds ≡ min (x.clock.rounds + (more + 1)) MAX-ROUNDS
    → ◌≡◌ {A = Ran}
    (record {
      parent = new-parent;
      dist = new-dist;
      clock = record { stage = 3; made = 0; rounds = rounds; requests = x.clock.requests };
      made = x.made + (more + 1);
    })
    (stage_run (on n m ends) (one n m given plan ends levels color) left x)
leapt-run n m left given last more rounds plan ends levels color x new-parent new-dist none fit inside l is few
    counted =
    let count : more + 1 ≡ last + 1 - x.clock.made = omega (arith, is, l.goal.to) in
    rw (none, counted, count, l.parents, l.dists)
    (leap_run n m last plan ends levels color l.far left x
    (and-true (links_fit n m ends) (in_stage n 2 x.clock) fit inside) l.goal l.room
    (omega (arith, few, count)))
