-- The rankings of a survey follow their longest lists: proofs, from what holds of every state that a load reaches and
-- of any lists.
use Rattle.std.specs.Prelude.{◌≡◌, true, false, cond, ◌⊎◌, List, ltb}
use Rattle.std.proofs.Math.Path.{refl, sym, ap}
use Rattle.std.proofs.Common.{ap₂, subst, ◌∙◌, inl, inr, add-one}
use Prim.Native.Nat.{ℕ, zero, suc, ◌+◌, ◌*◌, ◌≤◌, ◌<◌, ◌^◌}
use Rattle.std.proofs.Math.Decide.{dec_le, ℕ_discrete}
use native.Mathlib.Omega.{arith}
use borrow.Author.Tests.{eqb-true, eq-eqb}
use Rattle.base_lists.specs.Below.{below_suc}
use Rattle.base_lists.specs.Folds.{count}
use Rattle.base_lists.specs.Tests.{either, refuted}
use Rattle.base_log2.specs.Lg.{lg}
use Rattle.spec_rules.specs.Basics.{ABSENT, at}
use Rattle.spec_rules.specs.Ranking.{jump_round, requests_of, ranking_ends}
use Rattle.spec_machine.specs.State.{State, units, FINISHED}
use Rattle.spec_state.specs.declared.groups.Table.{Table}
use Rattle.spec_machine.specs.Step
use Rattle.spec_machine.specs.StageLaws.{step-going, step-at, ends-at, requests-at}
use Rattle.spec_machine.specs.RunLaws.{steps-add, steps_suc}
use Rattle.theory_reach.specs.Doubling.{Potential, Ranked, Reached, Ahead}
use Rattle.theory_reach.specs.Invariant
use Rattle.theory_reach.specs.Invariant.{Base, rank, ranks, sums, in1, in2, in3, in4, in5, in6, in7, in8, in9}
use Rattle.theory_reach.specs.Invariant.{in10, in11}
use Rattle.theory_reach.specs.RankingOf.{first-potential, second-potential}
use Rattle.theory_reach.specs.Ticks.{stage-on, made-on, stage-over, made-over}
use Rattle.theory_reach.specs.Reach.{goes, base-steps, reached-steps, table-steps}
use Rattle.theory_reach.specs.RankedLists.{jumps_after, InLists, Longest, FollowsLongest}
use Rattle.theory_reach.specs.RankedListsProof.{follows-longest}
use Rattle.theory_reach.specs.RankingStages.{AtRanking, RankingStage, RankingStages}

-- ---- the lists, and the longest

-- a table of predecessors before any round, by places
ranked-lists : (K : ℕ) (R S : ℕ → ℕ) (jump sum : List ℕ) → Potential K R S → Ranked K R S jump sum 0 → InLists K R jump
ranked-lists K R S jump sum p r =
    record { few = p.few; entries = r.many_jumps; object = λ a l. go a l (r.object a l) }
  where
    go : (a : ℕ) → a < K → Reached R S jump sum 0 a ⊎ Ahead K R S jump sum 0 a →
        ((at jump a ≡ ABSENT) × (R a ≡ 1)) ⊎ ((at jump a < K) × (R a ≡ R (at jump a) + 1))
    go a l (inl w) = inl (w.0, omega (arith, w.1, p.positive a l))
    go a l (inr w) = inr (w.0, omega (arith, w.1))

greatest : (K : ℕ) (f : ℕ → ℕ) → (L : ℕ) × Longest (suc K) L f
greatest zero f = (
  f 0,
  record {
    within = λ a l. let e : a ≡ 0 = omega arith in rw e (omega arith);
    attained = (0, omega arith, refl);
  },
)
greatest (suc K) f = go (greatest K f)
  where
    go : (L : ℕ) × Longest (suc K) L f → (L : ℕ) × Longest (suc (suc K)) L f
    go (L, g) = on (dec_le (f (suc K)) L)
      where
        on : Dec (f (suc K) ≤ L) → (L : ℕ) × Longest (suc (suc K)) L f
        on (yes h) = (
          L,
          record {
            within = below_suc (λ (a : ℕ). f a ≤ L) (suc K) g.within h;
            attained = (g.attained.0, omega (arith, g.attained.1), g.attained.2);
          },
        )
        on (no h) = (
          f (suc K),
          record {
            within = below_suc (λ (a : ℕ). f a ≤ f (suc K)) (suc K)
                (λ a l. omega (arith, g.within a l)) (omega arith);
            attained = (suc K, omega arith, refl);
          },
        )

some-longest : (s : State) → Base s → (place : ℕ → ℕ) → (L : ℕ) × Longest (2 * units s) L place
some-longest s b place = go (2 * units s) refl
  where
    go : (K : ℕ) → 2 * units s ≡ K → (L : ℕ) × Longest (2 * units s) L place
    go zero e = absurd (omega (arith, b.site.some_unit))
    go (suc K) e = rw e (greatest K place)

-- ---- one round of a ranking

never : {x : ℕ} → (x ≡ 4) ⊎ (x ≡ 6) → (x ≡ 4 → ⊥) → (x ≡ 6 → ⊥) → ⊥
never (inl e) p q = p e
never (inr e) p q = q e

module _ (s : State) (b : Base s) (r : Invariant.Reached s)
    (stage : (s.clock.stage ≡ 4) ⊎ (s.clock.stage ≡ 6)) where
  unfinished : s.clock.stage ≡ FINISHED → ⊥
  unfinished e = go stage
    where
      go : (s.clock.stage ≡ 4) ⊎ (s.clock.stage ≡ 6) → ⊥
      go (inl q) = omega arith
      go (inr q) = omega arith

  round-lists : s.clock.made ≡ 0 → (place : ℕ → ℕ) × InLists (2 * units s) place s.ranking.jump
  round-lists z = go r stage
    where
      zeroth : (R S : ℕ → ℕ) → Ranked (2 * units s) R S s.ranking.jump s.ranking.sum s.clock.made →
          Ranked (2 * units s) R S s.ranking.jump s.ranking.sum 0
      zeroth R S w = subst (λ (k : ℕ). Ranked (2 * units s) R S s.ranking.jump s.ranking.sum k) z w

      go : Invariant.Reached s → (s.clock.stage ≡ 4) ⊎ (s.clock.stage ≡ 6) →
          (place : ℕ → ℕ) × InLists (2 * units s) place s.ranking.jump
      go (in1 i) q = absurd (never q (omega (arith, i.stage)) (omega (arith, i.stage)))
      go (in2 i) q = absurd (never q (omega (arith, i.stage)) (omega (arith, i.stage)))
      go (in3 i) q = absurd (never q (omega (arith, i.stage)) (omega (arith, i.stage)))
      go (in4 i) q =
          let t = i.toured.treed in (
            rank s t,
            ranked-lists (2 * units s) (rank s t) (ranks s t) s.ranking.jump s.ranking.sum
                (first-potential s b t) (zeroth (rank s t) (ranks s t) i.ranked),
          )
      go (in5 i) q = absurd (never q (omega (arith, i.stage)) (omega (arith, i.stage)))
      go (in6 i) q =
          let t = i.treed in (
            rank s t,
            ranked-lists (2 * units s) (rank s t) (sums s t) s.ranking.jump s.ranking.sum
                (second-potential s b t) (zeroth (rank s t) (sums s t) i.ranked),
          )
      go (in7 i) q = absurd (never q (omega (arith, i.stage)) (omega (arith, i.stage)))
      go (in8 i) q = absurd (never q (omega (arith, i.stage)) (omega (arith, i.stage)))
      go (in9 i) q = absurd (never q (omega (arith, i.stage)) (omega (arith, i.stage)))
      go (in10 i) q = absurd (never q (omega (arith, i.stage)) (omega (arith, i.stage)))
      go (in11 i) q = absurd (never q (omega (arith, i.stage)) (omega (arith, i.stage)))

  asked : Step.round_requests s ≡ requests_of (2 * units s) s.ranking.jump
  asked = go stage
    where
      go : (s.clock.stage ≡ 4) ⊎ (s.clock.stage ≡ 6) →
          Step.round_requests s ≡ requests_of (2 * units s) s.ranking.jump
      go (inl q) = requests-at 4 s q
      go (inr q) = requests-at 6 s q

  -- the rule alone ends it
  ends : Step.last_round s ≡ ranking_ends (2 * units s) s.ranking.jump
  ends = (goes s b r unfinished).uncut ∙ go stage
    where
      go : (s.clock.stage ≡ 4) ⊎ (s.clock.stage ≡ 6) →
          Step.rule_ends s ≡ ranking_ends (2 * units s) s.ranking.jump
      go (inl q) = ends-at 4 s q
      go (inr q) = ends-at 6 s q

  jumps : (Step.step s).ranking.jump ≡ jump_round (2 * units s) s.ranking.jump
  unfolding Step.places Step.ranking
  jumps = go stage
    where
      go : (s.clock.stage ≡ 4) ⊎ (s.clock.stage ≡ 6) →
          (Step.step s).ranking.jump ≡ jump_round (2 * units s) s.ranking.jump
      go (inl q) = ap (λ (t : State). t.ranking.jump) (step-at 4 tt s q)
      go (inr q) = ap (λ (t : State). t.ranking.jump) (step-at 6 tt s q) ∙ both (either (Step.last_round s))
        where
          both : (Step.last_round s ≡ true) ⊎ (Step.last_round s ≡ false)
              → (cond (Step.last_round s) (Step.places s) (Step.ranking s)).ranking.jump
              ≡ jump_round (2 * units s) s.ranking.jump
          both (inl e) = rw e refl
          both (inr e) = rw e refl

  clock-on : ranking_ends (2 * units s) s.ranking.jump ≡ false →
      ((Step.step s).clock.stage ≡ s.clock.stage) × ((Step.step s).clock.made ≡ s.clock.made + 1)
  clock-on e = (
    ap (λ (t : State). t.clock.stage) (step-going s unfinished)
        ∙ stage-on (Step.last_round s) (Step.round_requests s) s.clock (ends ∙ e),
    ap (λ (t : State). t.clock.made) (step-going s unfinished)
        ∙ made-on (Step.last_round s) (Step.round_requests s) s.clock (ends ∙ e),
  )

  clock-over : ranking_ends (2 * units s) s.ranking.jump ≡ true →
      ((Step.step s).clock.stage ≡ s.clock.stage + 1) × ((Step.step s).clock.made ≡ 0)
  clock-over e = (
    ap (λ (t : State). t.clock.stage) (step-going s unfinished)
        ∙ stage-over (Step.last_round s) (Step.round_requests s) s.clock (ends ∙ e),
    ap (λ (t : State). t.clock.made) (step-going s unfinished)
        ∙ made-over (Step.last_round s) (Step.round_requests s) s.clock (ends ∙ e),
  )

-- ---- all rounds of it

-- r rounds into the stage
record Going (s : State) (r : ℕ) : Type 0 where
  stage : (Step.steps r s).clock.stage ≡ s.clock.stage
  made : (Step.steps r s).clock.made ≡ r
  jump : (Step.steps r s).ranking.jump ≡ jumps_after (2 * units s) r s.ranking.jump

module _ (s : State) (start : AtRanking s) (base : (r : ℕ) → Base (Step.steps r s)) (reached : (r : ℕ) →
    Invariant.Reached (Step.steps r s))
    (same : (r : ℕ) → (Step.steps r s).table ≡ s.table) (place : ℕ →
    ℕ) (lists : InLists (2 * units s) place s.ranking.jump)
    (L : ℕ) (longest : Longest (2 * units s) L place) where
  F : FollowsLongest (2 * units s) L place s.ranking.jump
  F = follows-longest (2 * units s) place s.ranking.jump lists L longest

  same_units : (r : ℕ) → units (Step.steps r s) ≡ units s
  same_units r = ap (λ (t : Table). t.units) (same r)

  module _ (r : ℕ) (g : Going s r) where
    ranks-still : ((Step.steps r s).clock.stage ≡ 4) ⊎ ((Step.steps r s).clock.stage ≡ 6)
    ranks-still = go start.stage
      where
        go : (s.clock.stage ≡ 4) ⊎ (s.clock.stage ≡ 6) →
            ((Step.steps r s).clock.stage ≡ 4) ⊎ ((Step.steps r s).clock.stage ≡ 6)
        go (inl e) = inl (g.stage ∙ e)
        go (inr e) = inr (g.stage ∙ e)

    ends_as : ranking_ends (2 * units (Step.steps r s)) (Step.steps r s).ranking.jump
        ≡ ranking_ends (2 * units s) (jumps_after (2 * units s) r s.ranking.jump)
    ends_as = ap₂ (λ (n : ℕ) (t : List ℕ). ranking_ends (2 * n) t) (same_units r) g.jump

    asked_as : Step.round_requests (Step.steps r s)
        ≡ requests_of (2 * units s) (jumps_after (2 * units s) r s.ranking.jump)
    asked_as =
        asked (Step.steps r s) (base r) (reached r) ranks-still
        ∙ ap₂ (λ (n : ℕ) (t : List ℕ). requests_of (2 * n) t) (same_units r) g.jump

    next : r < lg L → Going s (suc r)
    next l =
        let e : ranking_ends (2 * units s) (jumps_after (2 * units s) r s.ranking.jump) ≡ false =
        refuted _ (λ t. omega (arith, (F.ends r).0 t)) in
        let c = clock-on (Step.steps r s) (base r) (reached r) ranks-still (ends_as ∙ e) in
        let m : (Step.steps r s).clock.made + 1 ≡ suc r = omega (arith, g.made) in
        record {
          stage = ap (λ (t : State). t.clock.stage) (steps_suc r s) ∙ c.0 ∙ g.stage;
          made = ap (λ (t : State). t.clock.made) (steps_suc r s) ∙ c.1 ∙ m;
          jump =
              ap (λ (t : State). t.ranking.jump) (steps_suc r s)
              ∙ jumps (Step.steps r s) (base r) (reached r) ranks-still
              ∙ ap₂ (λ (n : ℕ) (t : List ℕ). jump_round (2 * n) t) (same_units r) g.jump;
        }

  going : (r : ℕ) → r ≤ lg L → Going s r
  unfolding Step.steps
  going zero l = record { stage = refl; made = start.unmade; jump = refl }
  going (suc r) l = next r (going r (omega arith)) l

  requests : (r : ℕ) → r ≤ lg L → Step.round_requests (Step.steps r s)
      ≡ count (2 * units s) (λ (a : ℕ). ltb (2 ^ r) (place a))
  requests r l = asked_as r (going r l) ∙ F.requests r

  asks : (r : ℕ) → r < lg L → 1 ≤ Step.round_requests (Step.steps r s)
  unfolding ranking_ends
  asks r l = go (ℕ_discrete (Step.round_requests (Step.steps r s)) 0)
    where
      go : Dec (Step.round_requests (Step.steps r s) ≡ 0) → 1 ≤ Step.round_requests (Step.steps r s)
      go (no h) = omega arith
      go (yes e) =
          let z : requests_of (2 * units s) (jumps_after (2 * units s) r s.ranking.jump) ≡ 0 =
          sym (asked_as r (going r (omega arith))) ∙ e in
          absurd (omega (
            arith,
            (F.ends r).0
                (eq-eqb (requests_of (2 * units s) (jumps_after (2 * units s) r s.ranking.jump)) 0 z),
          ))

  silent : Step.round_requests (Step.steps (lg L) s) ≡ 0
  unfolding ranking_ends
  silent =
      asked_as (lg L) (going (lg L) (omega arith))
      ∙ eqb-true (requests_of (2 * units s) (jumps_after (2 * units s) (lg L) s.ranking.jump)) 0
      ((F.ends (lg L)).1 (omega arith))

  over : ((Step.steps (lg L + 1) s).clock.stage ≡ s.clock.stage + 1) × ((Step.steps (lg L + 1) s).clock.made ≡ 0)
  over =
      let g = going (lg L) (omega arith) in
      let c = clock-over (Step.steps (lg L) s) (base (lg L)) (reached (lg L)) (ranks-still (lg L) g) (ends_as (lg L) g
      ∙ (F.ends (lg L)).1 (omega arith)) in
      rw (add-one (lg L), steps_suc (lg L) s) (c.0 ∙ ap (λ (x : ℕ). x + 1) g.stage, c.1)

  stage-follows : RankingStage s
  stage-follows =
      record {
        place = place;
        lists = lists;
        L = L;
        longest = longest;
        during = λ r l. let g = going r l in (g.stage, g.made);
        over = over;
        requests = requests;
        asks = asks;
        silent = silent;
      }

pub ranking_stages : RankingStages
ranking_stages input s₀ S k start =
    let s = Step.steps k s₀ in
    let (place, lists) = round-lists s (base-steps S k) (reached-steps S k) start.stage start.unmade in
    let found = some-longest s (base-steps S k) place in
    stage-follows s start (λ r. rw (← (steps-add k r s₀)) (base-steps S (k + r)))
    (λ r. rw (← (steps-add k r s₀)) (reached-steps S (k + r)))
    (λ r. rw (← (steps-add k r s₀)) (table-steps S (k + r) ∙ sym (table-steps S k))) place lists found.0 found.1
