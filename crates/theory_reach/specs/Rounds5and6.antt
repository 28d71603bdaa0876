-- Rounds of stages 5 and 6: marks and descendants, and the second ranking with the places.
use Rattle.std.specs.Prelude.{◌≡◌, Bool, ◌&&◌, ◌⊎◌, ◌↔◌, List, eqb, length}
use Rattle.std.proofs.Math.Path.{refl, ap}
use Rattle.std.proofs.Common.{sym, ap₂, ◌∙◌, add-one}
use Rattle.std.proofs.Math.Bool.{true, false, cond, not}
use Rattle.std.proofs.Math.Logic.{inl, inr}
use Prim.Native.Nat.{ℕ, suc, ◌+◌, ◌*◌, ◌-◌, ◌≤◌, ◌<◌}
use native.Mathlib.Omega.{arith}
use Rattle.std.proofs.Math.Dec.{ltb}
use Rattle.base_lists.specs.Tests.{cond_true, cond_false}
use Rattle.base_lists.specs.Tables.{get_d_over, length_over}
use Rattle.spec_rules.specs.Basics.{ABSENT, at}
use Rattle.spec_rules.specs.Tour.{is_into, is_arc, predecessor}
use Rattle.spec_rules.specs.Ranking.{jump_round, sum_round, requests_of, ranking_ends}
use Rattle.spec_rules.specs.Order.{reverse_arc, forward_round, descendants, nd_round, second_sums, second_jumps}
use Rattle.spec_rules.specs.Order.{place_of}
use Rattle.spec_rules.specs.Order.{pre_round}
use Rattle.theory_graph.specs.Forest.{Anc}
use Rattle.spec_machine.specs.State.{State}
use Rattle.spec_machine.specs.State.{MAX-REQUESTS, units, links}
use Rattle.spec_machine.specs.Step
use Rattle.spec_machine.specs.StageLaws.{ticked, first-tables, later-tables, step-at, ends-at, requests-at}
use Rattle.theory_reach.specs.SizeAndOrder.{nd, nd-positive}
use Rattle.theory_reach.specs.Potentials.{Step as Next, rank_le-all}
use Rattle.theory_reach.specs.TourOf.{Preceded, none, start, after, preceded, start-into}
use Rattle.theory_reach.specs.Places.{place, place-below, place-fits, place-one, place-onto, interval}
use Rattle.theory_reach.specs.Places.{forward-exact, descendants-nd, place-exact}
use Rattle.theory_reach.specs.Doubling
use Rattle.theory_reach.specs.Doubling.{Ranked, asked}
use Rattle.theory_reach.specs.Ordered.{Ordered}
use Rattle.theory_reach.specs.Invariant.{Base, Treed, Toured, Numbered, rank, sums, In5, In6, In7, Reached, in5}
use Rattle.theory_reach.specs.Invariant.{in6, in7}
use Rattle.theory_reach.specs.RankingOf.{second-potential, requests-few, room-left}
use Rattle.theory_reach.specs.Ticks.{Goes, goes-within, goes_over, goes-either, stage-on, made-on, stage-over}
use Rattle.theory_reach.specs.Ticks.{made-over, requests-next}

-- a table with an entry for each arc is long enough for n units
arcs_fit : (s : State) → Base s → (k : ℕ) → k ≡ 512 → (a : ℕ) → a < 2 * units s → a < k
arcs_fit s b k e a l = omega (arith, b.site.few_units)

units-fit : (s : State) → Base s → (k : ℕ) → k ≡ 256 → (v : ℕ) → v < units s → v < k
units-fit s b k e v l = omega (arith, b.site.few_units)

-- ---- stage 5

module _ (s : State) (b : Base s) (i : In5 s) where
  within_5 : s.clock.requests + Step.round_requests s ≤ MAX-REQUESTS
  within_5 = omega (arith, i.few, requests-at 5 s i.stage)

  same_5 : (last : Bool) → (Step.next_clock last (Step.round_requests s) s.clock).requests ≤ 4079
  same_5 last =
      omega (
        arith,
        requests-next last (Step.round_requests s) s.clock
            (omega (arith, i.few, requests-at 5 s i.stage)),
        i.few,
        requests-at 5 s i.stage,
      )

  -- round one
  first_5 : s.clock.made ≡ 0 → Step.last_round s ≡ false → Reached (ticked s (Step.marks_forward s))
  unfolding Step.marks_forward forward_round
  first_5 z e =
      in5
      (record {
        stage = stage-on (Step.last_round s) (Step.round_requests s) s.clock e ∙ i.stage;
        few = same_5 (Step.last_round s);
        toured =
            record {
              treed = record {
                depth = i.toured.treed.depth;
                rooted = i.toured.treed.rooted;
                colored = i.toured.treed.colored;
              };
              followers = i.toured.followers;
              predecessors = i.toured.predecessors;
            };
        held = i.held;
        marks = inr (made-on (Step.last_round s) (Step.round_requests s) s.clock e ∙ omega arith, mark);
      })
    where
      mark : (a : ℕ) → a < 2 * units s → is_arc s.tree.parent a ≡ true
          → at (forward_round (units s) s.tree.parent s.ranking.sum s.order.forward) a ≡ cond (is_into a) 1 0
      mark a l q =
          get_d_over (2 * units s) (λ (c : ℕ). cond
          (is_arc s.tree.parent c && ltb (at s.ranking.sum c) (at s.ranking.sum (reverse_arc c))) 1 0)
          s.order.forward a 0 l
          (arcs_fit s b (length s.order.forward) b.sized.by_arc.1.1.1.1.0 a l)
          ∙ rw (q, forward-exact i.toured.treed.rooted s.ranking.sum i.held a l q) refl

  -- what round two sets up: each arc's forward sum over its predecessor's
  begun : ((a : ℕ) → a < 2 * units s → is_arc s.tree.parent a ≡ true →
      at s.order.forward a ≡ cond (is_into a) 1 0)
      → Ranked (2 * units s) (rank s i.toured.treed) (sums s i.toured.treed)
      (second_jumps (units s) s.tour.pred s.ranking.jump)
      (second_sums (units s) s.tree.parent s.order.forward s.ranking.sum) 0
  unfolding second_jumps second_sums
  begun f =
      Doubling.start (2 * units s) (rank s i.toured.treed) (sums s i.toured.treed) _ _
      (rw length_over (omega (arith, b.site.few_units, b.sized.by_arc.1.1.0)))
      (rw length_over (omega (arith, b.site.few_units, b.sized.by_arc.1.1.1.0)))
      each
    where
      value : ℕ → ℕ
      value a = cond (is_arc s.tree.parent a && not (eqb (at s.order.forward a) 0)) 1 0

      jump' : (a : ℕ) → a < 2 * units s →
          at (second_jumps (units s) s.tour.pred s.ranking.jump) a
          ≡ predecessor (units s) s.tree.parent s.tour.next a
      jump' a l =
          get_d_over (2 * units s) (at s.tour.pred) s.ranking.jump a 0 l
          (arcs_fit s b (length s.ranking.jump) b.sized.by_arc.1.1.0 a l)
          ∙ i.toured.predecessors a l

      sum' : (a : ℕ) → a < 2 * units s →
          at (second_sums (units s) s.tree.parent s.order.forward s.ranking.sum) a ≡ value a
      sum' a l = get_d_over (2 * units s) value s.ranking.sum a 0 l
          (arcs_fit s b (length s.ranking.sum) b.sized.by_arc.1.1.1.0 a l)

      mark : (c : Bool) → ◌≡◌ {A = ℕ} (cond (not (eqb (cond c 1 0) 0)) 1 0) (cond c 1 0)
      mark true = refl
      mark false = refl

      worth : (a : ℕ) → a < 2 * units s → is_arc s.tree.parent a ≡ true → value a ≡ cond (is_into a) 1 0
      worth a l q = rw (q, f a l q) (mark (is_into a))

      Case : ℕ → ℕ → ℕ → Type 0
      Case a j x =
          ((j ≡ ABSENT) × (rank s i.toured.treed a ≡ 1) × (x ≡ sums s i.toured.treed a))
          ⊎ ((j < 2 * units s) × (rank s i.toured.treed a ≡ rank s i.toured.treed j + 1)
          × (sums s i.toured.treed a ≡ x + sums s i.toured.treed j))

      by : (a : ℕ) → a < 2 * units s → {p : ℕ} → Preceded (units s) s.tree.parent i.toured.treed.depth a p →
          Case a p (value a)
      by a l (none q e r z) = inl (e, r, rw q (sym z))
      by a l (start q g e r z) = inl (e, r, worth a l q ∙ rw (start-into (units s) s.tree.parent a g) (sym z))
      by a l {p} (after q g h u r) = inr (h, r.rank, omega (arith, r.forward, worth a l q))

      each : (a : ℕ) → a < 2 * units s
          → Case a (at (second_jumps (units s) s.tour.pred s.ranking.jump) a)
          (at (second_sums (units s) s.tree.parent s.order.forward s.ranking.sum) a)
      each a l = rw (jump' a l, sum' a l)
          (by a l (preceded b.site i.toured.treed.rooted s.tour.next i.toured.followers a l))

  -- round two
  second_5 : ((a : ℕ) → a < 2 * units s → is_arc s.tree.parent a ≡ true →
      at s.order.forward a ≡ cond (is_into a) 1 0) → Step.last_round s ≡ true
      → Reached (ticked s (Step.marks_descendants s))
  unfolding Step.marks_descendants nd_round
  second_5 f e =
      in6
      (record {
        stage = stage-over (Step.last_round s) (Step.round_requests s) s.clock e ∙ omega (arith, i.stage);
        treed = record {
          depth = i.toured.treed.depth;
          rooted = i.toured.treed.rooted;
          colored = i.toured.treed.colored;
        };
        few = omega (arith, same_5 (Step.last_round s));
        sizes =
            λ v l.
            get_d_over (units s) (descendants (units s) s.components.color s.tree.parent s.ranking.sum)
            s.order.nd v 0 l
            (units-fit s b (length s.order.nd) b.sized.by_unit.1.1.1.0 v l)
            ∙ descendants-nd i.toured.treed.rooted s.ranking.sum i.held v l;
        ranked = rw (made-over (Step.last_round s) (Step.round_requests s) s.clock e) (begun f);
      })

  pub goes_5 : Goes s
  unfolding Step.marks
  goes_5 = go i.marks
    where
      go : (s.clock.made ≡ 0) ⊎ ((s.clock.made ≡ 1)
          × ((a : ℕ) → a < 2 * units s → is_arc s.tree.parent a ≡ true →
          at s.order.forward a ≡ cond (is_into a) 1 0)) → Goes s
      go (inl z) =
          let r : Step.rule_ends s ≡ false = ends-at 5 s i.stage ∙ rw z refl in
          goes-within s (Step.marks_forward s) within_5 (step-at 5 tt s i.stage
          ∙ ap (ticked s) (first-tables s (Step.marks_forward s) (Step.marks_descendants s) z)) r
          (rw i.stage (omega arith)) (first_5 z)
      go (inr (z, f)) =
          let r : Step.rule_ends s ≡ true = ends-at 5 s i.stage ∙ rw z refl in
          goes_over s (Step.marks_descendants s) within_5 (step-at 5 tt s i.stage
          ∙ ap (ticked s) (later-tables s (Step.marks_forward s) (Step.marks_descendants s) (omega (arith, z)))) r
          (second_5 f)

-- ---- stage 6

module _ (s : State) (b : Base s) (i : In6 s) where
  asked_6 : asked (2 * units s) (rank s i.treed) s.clock.made + Step.round_requests s
      ≡ asked (2 * units s) (rank s i.treed) (suc s.clock.made)
  asked_6 =
      ap (λ (x : ℕ). asked (2 * units s) (rank s i.treed) s.clock.made + x) (requests-at 6 s i.stage)
      ∙ Doubling.asked-next (second-potential s b i.treed) i.ranked

  within_6 : s.clock.requests + Step.round_requests s ≤ MAX-REQUESTS
  within_6 = omega (arith, i.few, asked_6, requests-few s b i.treed (suc s.clock.made))

  requests_6' : (last : Bool) → (Step.next_clock last (Step.round_requests s) s.clock).requests
      ≤ 4079 + asked (2 * units s) (rank s i.treed) (suc s.clock.made)
  requests_6' last =
      omega (
        arith,
        requests-next last (Step.round_requests s) s.clock
            (omega (arith, i.few, asked_6, requests-few s b i.treed (suc s.clock.made))),
        i.few,
        asked_6,
      )

  ranked_6 : (made : ℕ) → made ≡ s.clock.made + 1
      → Ranked (2 * units s) (rank s i.treed) (sums s i.treed) (jump_round (2 * units s) s.ranking.jump)
      (sum_round (2 * units s) s.ranking.jump s.ranking.sum) made
  ranked_6 made e = rw (e, add-one s.clock.made) (Doubling.next (second-potential s b i.treed) i.ranked)

  few_6 : (last : Bool) (made : ℕ) → made ≡ s.clock.made + 1
      → (Step.next_clock last (Step.round_requests s) s.clock).requests
      ≤ 4079 + asked (2 * units s) (rank s i.treed) made
  few_6 last made e = rw (e, add-one s.clock.made) (requests_6' last)

  on_6 : Step.last_round s ≡ false → Reached (ticked s (Step.ranking s))
  unfolding Step.ranking
  on_6 e =
      in6
      (record {
        stage = stage-on (Step.last_round s) (Step.round_requests s) s.clock e ∙ i.stage;
        treed = record { depth = i.treed.depth; rooted = i.treed.rooted; colored = i.treed.colored };
        few = few_6 (Step.last_round s) _ (made-on (Step.last_round s) (Step.round_requests s) s.clock e);
        sizes = i.sizes;
        ranked = ranked_6 _ (made-on (Step.last_round s) (Step.round_requests s) s.clock e);
      })

  -- the places that the last round writes
  module _ (r : ranking_ends (2 * units s) s.ranking.jump ≡ true) where
    pre' : List ℕ
    pre' = pre_round (units s) s.components.color s.tree.parent s.ranking.sum s.order.pre

    placed : (v : ℕ) → v < units s → at pre' v
        ≡ place (units s) s.components.color s.tree.parent i.treed.depth v
    unfolding pre' pre_round
    placed v l =
        get_d_over (units s) (place_of (units s) s.components.color s.tree.parent s.ranking.sum)
        s.order.pre v 0 l
        (units-fit s b (length s.order.pre) b.sized.by_unit.1.1.1.1.0 v l)
        ∙ place-exact i.treed.rooted b.site.few_units s.ranking.sum
        (Doubling.sums (second-potential s b i.treed) i.ranked r) v l

    ordered_6 : Ordered (units s) s.tree.parent s.order.nd pre' i.treed.depth
    ordered_6 =
        record {
          place_below = λ v l. rw (placed v l) (place-below i.treed.rooted v l);
          place_once = λ v w l k e. place-one i.treed.rooted v w l k (sym (placed v l) ∙ e ∙ placed w k);
          place_taken = λ q l. let w = place-onto i.treed.rooted q l in (w.0, w.1, placed w.0 w.1 ∙ w.2);
          nd_some = λ v l. rw (i.sizes v l) (nd-positive i.treed.rooted v l);
          within = λ v l. rw (placed v l, i.sizes v l) (place-fits i.treed.rooted v l);
          interval = λ v w l k. rw (placed v l, placed w k, i.sizes v l) (interval i.treed.rooted v w l k);
        }

    over_6 : Step.last_round s ≡ true → Reached (ticked s (Step.places s))
    unfolding Step.places Step.ranking pre'
    over_6 e =
        in7
        (record {
          stage = stage-over (Step.last_round s) (Step.round_requests s) s.clock e ∙ omega (arith, i.stage);
          few = omega (arith, requests_6' (Step.last_round s), requests-few s b i.treed (suc s.clock.made));
          early = omega (arith, made-over (Step.last_round s) (Step.round_requests s) s.clock e);
          numbered =
              record {
                treed = record { depth = i.treed.depth; rooted = i.treed.rooted; colored = i.treed.colored };
                ordered = ordered_6;
              };
          segments = inl (made-over (Step.last_round s) (Step.round_requests s) s.clock e);
        })

  pub goes_6 : Goes s
  goes_6 =
      goes-either s (cond (Step.last_round s) (Step.places s) (Step.ranking s)) within_6 (step-at 6 tt s i.stage)
      (ends-at 6 s i.stage)
      (λ r q. rw (cond_true (Step.last_round s) (Step.places s) (Step.ranking s) q) (over_6 r q))
      (λ r.
      let k = Doubling.bound (second-potential s b i.treed) i.ranked r _
      (λ a l. rank_le-all i.treed.rooted a) in (
        rw i.stage (room-left s b i.treed s.clock.made k),
        λ q. rw (cond_false (Step.last_round s) (Step.places s) (Step.ranking s) q) (on_6 q),
      ))
