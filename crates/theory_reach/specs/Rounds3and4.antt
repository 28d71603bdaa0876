-- Rounds of stages 3 and 4: the tour, and the first ranking.
use Rattle.std.specs.Prelude.{◌≡◌, Bool, cond, ◌⊎◌, List, ℕ, suc, ◌+◌, ◌*◌, ◌-◌, ◌≤◌, ◌<◌, eqb, length}
use Rattle.std.proofs.Math.Path.{refl, ap}
use Rattle.std.proofs.Common.{sym, ap₂, ◌∙◌}
use Rattle.std.proofs.Math.Bool.{true, false}
use Rattle.std.proofs.Math.Logic.{inl, inr}
use Rattle.std.proofs.Math.Numerals.{add-one}
use native.Mathlib.Omega.{arith}
use Rattle.base_lists.specs.Tables.{get_d_over, length_over}
use Rattle.spec_rules.specs.Basics.{ABSENT, at}
use Rattle.spec_rules.specs.Tour.{is_arc, follower, predecessor, next_round, pred_round, first_sums, first_jumps}
use Rattle.spec_rules.specs.Ranking.{jump_round, sum_round, requests_of, ranking_ends}
use Rattle.spec_machine.specs.State.{State}
use Rattle.spec_machine.specs.State.{MAX-REQUESTS, units, links}
use Rattle.spec_machine.specs.Step
use Rattle.spec_machine.specs.StageLaws.{ticked, first-tables, later-tables, step-at, ends-at, requests-at}
use Rattle.theory_reach.specs.Potentials.{Step as Next, rank_le-all}
use Rattle.theory_reach.specs.TourOf.{Preceded, none, start, after, preceded}
use Rattle.theory_reach.specs.Doubling
use Rattle.theory_reach.specs.Doubling.{Ranked, asked}
use Rattle.theory_reach.specs.Invariant.{Base, Treed, Toured, rank, ranks, In3, In4, In5, Reached, in3, in4, in5}
use Rattle.theory_reach.specs.RankingOf.{first-potential, requests-few, room-left}
use Rattle.theory_reach.specs.Ticks.{Goes, goes-within, goes_over, goes-either, stage-on, made-on, stage-over}
use Rattle.theory_reach.specs.Ticks.{made-over, requests-next}

-- ---- stage 3

module _ (s : State) (b : Base s) (i : In3 s) where
  within_3 : s.clock.requests + Step.round_requests s ≤ MAX-REQUESTS
  within_3 = omega (arith, i.quiet, requests-at 3 s i.stage)

  arcs_fit : (k : ℕ) → k ≡ 512 → (a : ℕ) → a < 2 * units s → a < k
  arcs_fit k e a l = omega (arith, b.site.few_units)

  quiet_3 : (last : Bool) → (Step.next_clock last (Step.round_requests s) s.clock).requests ≡ 0
  quiet_3 last =
      requests-next last (Step.round_requests s) s.clock (omega (arith, i.quiet, requests-at 3 s i.stage))
      ∙ omega (arith, i.quiet, requests-at 3 s i.stage)

  -- round one
  first_3 : s.clock.made ≡ 0 → Step.last_round s ≡ false → Reached (ticked s (Step.tour_next s))
  unfolding Step.tour_next next_round
  first_3 z e =
      in3
      (record {
        stage = stage-on (Step.last_round s) (Step.round_requests s) s.clock e ∙ i.stage;
        quiet = quiet_3 (Step.last_round s);
        treed = record { depth = i.treed.depth; rooted = i.treed.rooted; colored = i.treed.colored };
        tour =
            inr (
              made-on (Step.last_round s) (Step.round_requests s) s.clock e ∙ omega arith,
              λ a l. get_d_over (2 * units s) (follower (units s) s.tree.parent) s.tour.next a 0 l
                  (arcs_fit (length s.tour.next) b.sized.by_arc.0 a l),
            );
      })

  -- what round two sets up: each arc's rank over its predecessor's
  begun : ((a : ℕ) → a < 2 * units s → at s.tour.next a ≡ follower (units s) s.tree.parent a)
      → Ranked (2 * units s) (rank s i.treed) (ranks s i.treed)
      (first_jumps (units s) s.tree.parent s.tour.next s.ranking.jump)
      (first_sums (units s) s.tree.parent s.ranking.sum) 0
  unfolding first_jumps first_sums
  begun f =
      Doubling.start (2 * units s) (rank s i.treed) (ranks s i.treed) _ _
      (rw length_over (omega (arith, b.site.few_units, b.sized.by_arc.1.1.0)))
      (rw length_over (omega (arith, b.site.few_units, b.sized.by_arc.1.1.1.0)))
      (λ a l. each a l)
    where
      jump' : (a : ℕ) → a < 2 * units s →
          at (first_jumps (units s) s.tree.parent s.tour.next s.ranking.jump) a
          ≡ predecessor (units s) s.tree.parent s.tour.next a
      jump' a l = get_d_over (2 * units s) (predecessor (units s) s.tree.parent s.tour.next)
          s.ranking.jump a 0 l (arcs_fit (length s.ranking.jump) b.sized.by_arc.1.1.0 a l)

      sum' : (a : ℕ) → a < 2 * units s →
          at (first_sums (units s) s.tree.parent s.ranking.sum) a ≡ cond (is_arc s.tree.parent a) 1 0
      sum' a l = get_d_over (2 * units s) (λ (c : ℕ). cond (is_arc s.tree.parent c) 1 0) s.ranking.sum a 0 l
          (arcs_fit (length s.ranking.sum) b.sized.by_arc.1.1.1.0 a l)

      Case : ℕ → ℕ → ℕ → Type 0
      Case a j x =
          ((j ≡ ABSENT) × (rank s i.treed a ≡ 1) × (x ≡ ranks s i.treed a))
          ⊎ ((j < 2 * units s) × (rank s i.treed a ≡ rank s i.treed j + 1)
          × (ranks s i.treed a ≡ x + ranks s i.treed j))

      by : (a : ℕ) {p : ℕ} → Preceded (units s) s.tree.parent i.treed.depth a p →
          Case a p (cond (is_arc s.tree.parent a) 1 0)
      by a (none t e r z) = inl (e, r, rw t refl)
      by a (start t f e r z) = inl (e, r, rw t (sym r))
      by a {p} (after t f l u r) = inr (l, r.rank, rw (t, u) (omega (arith, r.rank)))

      each : (a : ℕ) → a < 2 * units s →
          Case a (at (first_jumps (units s) s.tree.parent s.tour.next s.ranking.jump) a)
          (at (first_sums (units s) s.tree.parent s.ranking.sum) a)
      each a l = rw (jump' a l, sum' a l) (by a (preceded b.site i.treed.rooted s.tour.next f a l))

  -- round two
  second_3 : ((a : ℕ) → a < 2 * units s → at s.tour.next a ≡ follower (units s) s.tree.parent a) →
      Step.last_round s ≡ true
      → Reached (ticked s (Step.tour_pred s))
  unfolding Step.tour_pred pred_round
  second_3 f e =
      in4
      (record {
        stage = stage-over (Step.last_round s) (Step.round_requests s) s.clock e ∙ omega (arith, i.stage);
        toured =
            record {
              treed = record { depth = i.treed.depth; rooted = i.treed.rooted; colored = i.treed.colored };
              followers = f;
              predecessors = λ a l. get_d_over (2 * units s) (predecessor (units s) s.tree.parent s.tour.next)
                  s.tour.pred a 0 l (arcs_fit (length s.tour.pred) b.sized.by_arc.1.0 a l);
            };
        asks = quiet_3 (Step.last_round s) ∙ rw (made-over (Step.last_round s) (Step.round_requests s) s.clock e) refl;
        ranked = rw (made-over (Step.last_round s) (Step.round_requests s) s.clock e) (begun f);
      })

  pub goes_3 : Goes s
  unfolding Step.tour
  goes_3 = go i.tour
    where
      go : (s.clock.made ≡ 0) ⊎ ((s.clock.made ≡ 1)
          × ((a : ℕ) → a < 2 * units s → at s.tour.next a ≡ follower (units s) s.tree.parent a)) → Goes s
      go (inl z) =
          let r : Step.rule_ends s ≡ false = ends-at 3 s i.stage ∙ rw z refl in
          goes-within s (Step.tour_next s) within_3 (step-at 3 tt s i.stage
          ∙ ap (ticked s) (first-tables s (Step.tour_next s) (Step.tour_pred s) z)) r (rw i.stage (omega arith))
          (first_3 z)
      go (inr (z, f)) =
          let r : Step.rule_ends s ≡ true = ends-at 3 s i.stage ∙ rw z refl in
          goes_over s (Step.tour_pred s) within_3 (step-at 3 tt s i.stage
          ∙ ap (ticked s) (later-tables s (Step.tour_next s) (Step.tour_pred s) (omega (arith, z)))) r (second_3 f)

-- ---- stage 4

module _ (s : State) (b : Base s) (i : In4 s) where
  asked_1 : s.clock.requests + Step.round_requests s
      ≡ asked (2 * units s) (rank s i.toured.treed) (suc s.clock.made)
  asked_1 =
      ap₂ ◌+◌ i.asks (requests-at 4 s i.stage)
      ∙ Doubling.asked-next (first-potential s b i.toured.treed) i.ranked

  within_4 : s.clock.requests + Step.round_requests s ≤ MAX-REQUESTS
  within_4 = omega (arith, asked_1, requests-few s b i.toured.treed (suc s.clock.made))

  requests_4' : (last : Bool) → (Step.next_clock last (Step.round_requests s) s.clock).requests
      ≡ asked (2 * units s) (rank s i.toured.treed) (suc s.clock.made)
  requests_4' last =
      requests-next last (Step.round_requests s) s.clock
      (omega (arith, asked_1, requests-few s b i.toured.treed (suc s.clock.made))) ∙ asked_1

  toured_4 : Toured (ticked s (Step.ranking s))
  unfolding Step.ranking
  toured_4 =
      record {
        treed = record {
          depth = i.toured.treed.depth;
          rooted = i.toured.treed.rooted;
          colored = i.toured.treed.colored;
        };
        followers = i.toured.followers;
        predecessors = i.toured.predecessors;
      }

  ranked_4 : (made : ℕ) → made ≡ s.clock.made + 1
      → Ranked (2 * units s) (rank s i.toured.treed) (ranks s i.toured.treed)
      (jump_round (2 * units s) s.ranking.jump)
      (sum_round (2 * units s) s.ranking.jump s.ranking.sum) made
  ranked_4 made e = rw (e, add-one s.clock.made)
      (Doubling.next (first-potential s b i.toured.treed) i.ranked)

  on_4 : Step.last_round s ≡ false → Reached (ticked s (Step.ranking s))
  unfolding Step.ranking toured_4
  on_4 e =
      in4
      (record {
        stage = stage-on (Step.last_round s) (Step.round_requests s) s.clock e ∙ i.stage;
        toured = toured_4;
        asks = requests_4' (Step.last_round s)
            ∙ rw (made-on (Step.last_round s) (Step.round_requests s) s.clock e, add-one s.clock.made) refl;
        ranked = ranked_4 _ (made-on (Step.last_round s) (Step.round_requests s) s.clock e);
      })

  over_4 : ranking_ends (2 * units s) s.ranking.jump ≡ true → Step.last_round s ≡ true →
      Reached (ticked s (Step.ranking s))
  unfolding Step.ranking toured_4
  over_4 r e =
      in5
      (record {
        stage = stage-over (Step.last_round s) (Step.round_requests s) s.clock e ∙ omega (arith, i.stage);
        few = omega (arith, requests_4' (Step.last_round s), requests-few s b i.toured.treed (suc s.clock.made));
        toured = toured_4;
        held = λ a l q. rw (Doubling.sums-rest (first-potential s b i.toured.treed) i.ranked r)
            (Doubling.sums (first-potential s b i.toured.treed) i.ranked r a l ∙ rw q refl);
        marks = inl (made-over (Step.last_round s) (Step.round_requests s) s.clock e);
      })

  pub goes_4 : Goes s
  goes_4 =
      goes-either s (Step.ranking s) within_4 (step-at 4 tt s i.stage) (ends-at 4 s i.stage) over_4
      (λ r.
      let k = Doubling.bound (first-potential s b i.toured.treed) i.ranked r _
      (λ a l. rank_le-all i.toured.treed.rooted a) in
      (rw i.stage (room-left s b i.toured.treed s.clock.made k), on_4))
