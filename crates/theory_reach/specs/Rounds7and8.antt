-- Rounds of stages 7 and 8: low and high, and the auxiliary edges.
use Rattle.std.specs.Prelude.{◌≡◌, refl, Bool, true, false, ◌⊎◌, ◌↔◌, List, eqb}
use Rattle.std.proofs.Common.{sym, subst, ◌∙◌}
use Rattle.std.proofs.Math.Path.{ap}
use Rattle.std.proofs.Math.Bool.{cond}
use Rattle.std.proofs.lemmas.Bool.{false≢true}
use Rattle.std.proofs.Math.Logic.{inl, inr}
use Prim.Native.Nat.{ℕ, suc, ◌+◌, ◌-◌, ◌≤◌, ◌<◌, min, max}
use native.Mathlib.Omega.{arith}
use Rattle.std.proofs.Math.ListN.{length}
use borrow.Author.Tests.{eqb-true, eqb-false}
use Rattle.base_lists.specs.Tables.{get_d_over}
use Rattle.base_log2.specs.Lg.{lg}
use Rattle.table.specs.Table.{end_a, end_b}
use Rattle.spec_rules.specs.Basics.{at}
use Rattle.base_lists.specs.FoldLaws.{AtLeast, min_choice, max_choice}
use Rattle.spec_rules.specs.Range.{local_at, local_of, global_first, range_first, little_first, big_first, range_later}
use Rattle.spec_rules.specs.Range.{little_later, big_later, global_later, range_ends}
use Rattle.spec_rules.specs.Aux.{joins_ends, link_joins_round, joins_parent, parent_joins_round}
use Rattle.spec_machine.specs.State.{State}
use Rattle.spec_state.specs.declared.groups.Range.{Range}
use Rattle.spec_state.specs.declared.groups.Global.{Global}
use Rattle.spec_machine.specs.State.{MAX-REQUESTS, units, links, with_range, with_global}
use Rattle.spec_machine.specs.Step
use Rattle.spec_machine.specs.StageLaws.{ticked, first-tables, later-tables, step-at, ends-at, requests-at}
use Rattle.theory_reach.specs.Segments
use Rattle.theory_reach.specs.Segments.{SegmentsAt, Spans, last_place, place-spans, first_round, over-descendants}
use Rattle.theory_reach.specs.Ordered.{Ordered, Ranged}
use Rattle.theory_reach.specs.AuxEdges.{across-exact, joins-exact}
use Rattle.theory_reach.specs.AuxColors.{Marked}
use Rattle.theory_reach.specs.Invariant.{Base, Numbered, In7, In8, Reached, in7, in8, in9}
use Rattle.theory_reach.specs.Ticks.{Goes, goes_over, goes-either, stage-on, made-on, stage-over, made-over}
use Rattle.theory_reach.specs.Ticks.{requests-next}

-- low and high over all descendants, from the last segments
module _ (s : State) (b : Base s) (numbered : Numbered s) where
  o : Ordered (units s) s.tree.parent s.order.nd s.order.pre numbered.treed.depth
  o = numbered.ordered

  few-units : units s ≤ 2048
  few-units = omega (arith, b.site.few_units)

  -- the local values of places
  Low : List ℕ → List ℕ → List ℕ → List ℕ → ℕ → Type 0
  Low global range little big k =
      SegmentsAt ◌≤◌ (units s) (local_at min (units s) (links s) s.table.ends s.tree.parent s.order.pre)
      (at s.order.pre)
      (last_place s.order.nd s.order.pre) global range little big k

  High : List ℕ → List ℕ → List ℕ → List ℕ → ℕ → Type 0
  High global range little big k =
      SegmentsAt AtLeast (units s) (local_at max (units s) (links s) s.table.ends s.tree.parent s.order.pre)
      (at s.order.pre)
      (last_place s.order.nd s.order.pre) global range little big k

  ranged : (gl gh low high little big : List ℕ) → Low gl low little big (lg (units s)) →
      High gh high little big (lg (units s))
      → Ranged (units s) (links s) s.table.ends s.tree.parent s.order.pre numbered.treed.depth low high
  unfolding Low High
  ranged gl gh low high little big l h =
      record {
        low_least = λ v w lv lw a. let q = (o.interval v w lv lw).0 a in (lows v lv).0 w lw q.0 q.1;
        low_taken = λ v lv. let q = (lows v lv).1 in (q.0, q.1, (o.interval v q.0 lv q.1).1 (q.2, q.3), q.4);
        high_greatest = λ v w lv lw a. let q = (o.interval v w lv lw).0 a in (highs v lv).0 w lw q.0 q.1;
        high_taken = λ v lv. let q = (highs v lv).1 in (q.0, q.1, (o.interval v q.0 lv q.1).1 (q.2, q.3), q.4);
      }
    where
      lows : (v : ℕ) → v < units s
          → ((w : ℕ) → w < units s → at s.order.pre v ≤ at s.order.pre w →
          at s.order.pre w < at s.order.pre v + at s.order.nd v
          → at low v ≤ local_of min (links s) s.table.ends s.tree.parent s.order.pre w)
          × ((w : ℕ) × (w < units s) × (at s.order.pre v ≤ at s.order.pre w)
          × (at s.order.pre w < at s.order.pre v + at s.order.nd v)
          × (at low v ≡ local_of min (links s) s.table.ends s.tree.parent s.order.pre w))
      lows = over-descendants (units s) s.order.nd s.order.pre few-units o.nd_some o.within min (links s)
          s.table.ends s.tree.parent o.place_once o.place_taken l

      highs : (v : ℕ) → v < units s
          → ((w : ℕ) → w < units s → at s.order.pre v ≤ at s.order.pre w →
          at s.order.pre w < at s.order.pre v + at s.order.nd v
          → local_of max (links s) s.table.ends s.tree.parent s.order.pre w ≤ at high v)
          × ((w : ℕ) × (w < units s) × (at s.order.pre v ≤ at s.order.pre w)
          × (at s.order.pre w < at s.order.pre v + at s.order.nd v)
          × (at high v ≡ local_of max (links s) s.table.ends s.tree.parent s.order.pre w))
      highs = over-descendants (units s) s.order.nd s.order.pre few-units o.nd_some o.within max (links s)
          s.table.ends s.tree.parent o.place_once o.place_taken h

-- ---- stage 7

module _ (s : State) (b : Base s) (i : In7 s) where
  within_7 : s.clock.requests + Step.round_requests s ≤ MAX-REQUESTS
  within_7 = omega (arith, i.few, requests-at 7 s i.stage)

  same_7 : (last : Bool) → (Step.next_clock last (Step.round_requests s) s.clock).requests ≤ 8158
  same_7 last =
      omega (
        arith,
        requests-next last (Step.round_requests s) s.clock
            (omega (arith, i.few, requests-at 7 s i.stage)),
        i.few,
        requests-at 7 s i.stage,
      )

  numbered_7 : (r : Range) (g : Global) → Numbered (ticked s (with_range r (with_global g s)))
  numbered_7 r g =
      record {
        treed = record {
          depth = i.numbered.treed.depth;
          rooted = i.numbered.treed.rooted;
          colored = i.numbered.treed.colored;
        };
        ordered = i.numbered.ordered;
      }

  -- segments before round k, under a clock that shows one more
  at-clock : (r : Range) (g : Global) (k made : ℕ) → made ≡ k + 1
      → Low s b i.numbered g.low r.low r.little r.big k →
      High s b i.numbered g.high r.high r.little r.big k
      → (1 ≤ made) × Low s b i.numbered g.low r.low r.little r.big (made - 1)
      × High s b i.numbered g.high r.high r.little r.big (made - 1)
  at-clock r g k made e l h = let q : made - 1 ≡ k = omega arith in (omega arith, rw q l, rw q h)

  on_7 : (r : Range) (g : Global) → Step.last_round s ≡ false → s.clock.made + 1 ≤ lg (units s)
      → Low s b i.numbered g.low r.low r.little r.big s.clock.made
      → High s b i.numbered g.high r.high r.little r.big s.clock.made
      → Reached (ticked s (with_range r (with_global g s)))
  unfolding Low High numbered_7
  on_7 r g e w l h =
      in7
      (record {
        stage = stage-on (Step.last_round s) (Step.round_requests s) s.clock e ∙ i.stage;
        few = same_7 (Step.last_round s);
        early = omega (arith, made-on (Step.last_round s) (Step.round_requests s) s.clock e);
        numbered = numbered_7 r g;
        segments = inr (at-clock r g s.clock.made _
            (made-on (Step.last_round s) (Step.round_requests s) s.clock e) l h);
      })

  over_7 : (r : Range) (g : Global) → Step.last_round s ≡ true
      → Low s b i.numbered g.low r.low r.little r.big (lg (units s))
      → High s b i.numbered g.high r.high r.little r.big (lg (units s))
      → Reached (ticked s (with_range r (with_global g s)))
  unfolding numbered_7
  over_7 r g e l h =
      in8
      (record {
        stage = stage-over (Step.last_round s) (Step.round_requests s) s.clock e ∙ omega (arith, i.stage);
        few = same_7 (Step.last_round s);
        start = made-over (Step.last_round s) (Step.round_requests s) s.clock e;
        numbered = numbered_7 r g;
        ranged = ranged s b i.numbered g.low g.high r.low r.high r.little r.big l h;
      })

  -- the round with the segments that it leaves, as the rule or the round count has it
  goes_by : (r : Range) (g : Global) → Step.step s ≡ ticked s (with_range r (with_global g s))
      → Low s b i.numbered g.low r.low r.little r.big s.clock.made
      → High s b i.numbered g.high r.high r.little r.big s.clock.made → Goes s
  unfolding range_ends
  goes_by r g e l h =
      goes-either s (with_range r (with_global g s)) within_7 e (ends-at 7 s i.stage)
      (λ q last.
      let m : s.clock.made ≡ lg (units s) = eqb-true s.clock.made (lg (units s)) q in
      over_7 r g last (rw (← m) l) (rw (← m) h))
      (λ q.
      let m : s.clock.made ≡ lg (units s) → ⊥ = eqb-false s.clock.made (lg (units s)) q in
      (rw i.stage (omega (arith, i.early, m)), λ last. on_7 r g last (omega (arith, i.early, m)) l h))

  spans : Spans (units s) (at s.order.pre) (last_place s.order.nd s.order.pre)
  spans = place-spans (units s) s.order.nd s.order.pre (few-units s b i.numbered)
      i.numbered.ordered.nd_some i.numbered.ordered.within

  fits : (k : ℕ) → k ≡ 256 → units s ≤ k
  fits k e = omega (arith, b.site.few_units)

  first_7 : s.clock.made ≡ 0 → Goes s
  unfolding Step.range Step.range_begun Low High
  first_7 z =
      goes_by
      (record {
        low = range_first min (units s) (links s) s.table.ends s.tree.parent s.order.nd s.order.pre
            s.range.low;
        high = range_first max (units s) (links s) s.table.ends s.tree.parent s.order.nd s.order.pre
            s.range.high;
        little = little_first (units s) s.order.pre s.range.little;
        big = big_first (units s) s.order.nd s.order.pre s.range.big;
      })
      (record {
        low = global_first min (units s) (links s) s.table.ends s.tree.parent s.order.pre s.global.low;
        high = global_first max (units s) (links s) s.table.ends s.tree.parent s.order.pre s.global.high;
      })
      (step-at 7 tt s i.stage ∙ ap (ticked s)
      (first-tables s (Step.range_begun s) (Step.range_doubled (s.clock.made - 1) s) z))
      (rw z
      (first_round (units s) s.order.nd s.order.pre (few-units s b i.numbered) i.numbered.ordered.nd_some
      i.numbered.ordered.within min_choice (links s)
      s.table.ends s.tree.parent s.global.low s.range.low s.range.little s.range.big
      (fits _ global_low) (fits _ low) (fits _ little) (fits _ big)))
      (rw z
      (first_round (units s) s.order.nd s.order.pre (few-units s b i.numbered) i.numbered.ordered.nd_some
      i.numbered.ordered.within max_choice (links s)
      s.table.ends s.tree.parent s.global.high s.range.high s.range.little s.range.big
      (fits _ global_high) (fits _ high) (fits _ little) (fits _ big)))
    where
      low : length s.range.low ≡ 256
      low = b.sized.by_unit.1.1.1.1.1.0

      high : length s.range.high ≡ 256
      high = b.sized.by_unit.1.1.1.1.1.1.0

      little : length s.range.little ≡ 256
      little = b.sized.by_unit.1.1.1.1.1.1.1.0

      big : length s.range.big ≡ 256
      big = b.sized.by_unit.1.1.1.1.1.1.1.1.0

      global_low : length s.global.low ≡ 256
      global_low = b.sized.by_unit.1.1.1.1.1.1.1.1.1.0

      global_high : length s.global.high ≡ 256
      global_high = b.sized.by_unit.1.1.1.1.1.1.1.1.1.1.0

  later_7 : 1 ≤ s.clock.made → Low s b i.numbered s.global.low s.range.low s.range.little
      s.range.big (s.clock.made - 1)
      → High s b i.numbered s.global.high s.range.high s.range.little s.range.big
      (s.clock.made - 1) → Goes s
  unfolding Step.range Step.range_doubled Low High
  later_7 p l h =
      goes_by
      (record {
        low = range_later min (s.clock.made - 1) (units s) s.global.low s.range.little s.range.big
            s.range.low;
        high = range_later max (s.clock.made - 1) (units s) s.global.high s.range.little s.range.big
            s.range.high;
        little = little_later (s.clock.made - 1) (units s) s.range.big s.range.little;
        big = big_later (s.clock.made - 1) (units s) s.range.little s.range.big;
      })
      (record {
        low = global_later min (s.clock.made - 1) (units s) s.global.low;
        high = global_later max (s.clock.made - 1) (units s) s.global.high;
      })
      (step-at 7 tt s i.stage ∙ ap (ticked s)
      (later-tables s (Step.range_begun s) (Step.range_doubled (s.clock.made - 1) s) (omega arith)))
      (counted (Segments.next min_choice spans l))
      (counted (Segments.next max_choice spans h))
    where
      back : suc (s.clock.made - 1) ≡ s.clock.made
      back = omega arith

      counted : {le : ℕ → ℕ → Type 0} {local first last : ℕ → ℕ} {g r li bi : List ℕ} →
          SegmentsAt le (units s) local first last g r li bi (suc (s.clock.made - 1))
          → SegmentsAt le (units s) local first last g r li bi s.clock.made
      counted {le} {local} {first} {last} {g} {r} {li} {bi} x =
          subst (λ (k : ℕ). SegmentsAt le (units s) local first last g r li bi k) back x

  pub goes_7 : Goes s
  unfolding Low High
  goes_7 = go i.segments
    where
      go : (s.clock.made ≡ 0)
          ⊎ ((1 ≤ s.clock.made)
          × Low s b i.numbered s.global.low s.range.low s.range.little s.range.big
          (s.clock.made - 1)
          × High s b i.numbered s.global.high s.range.high s.range.little s.range.big
          (s.clock.made - 1))
          → Goes s
      go (inl z) = first_7 z
      go (inr (p, l, h)) = later_7 p l h

-- ---- stage 8

module _ (s : State) (b : Base s) (i : In8 s) where
  within_8 : s.clock.requests + Step.round_requests s ≤ MAX-REQUESTS
  within_8 = omega (arith, i.few, requests-at 8 s i.stage)

  mark-exact : {A : Type 0} (x : Bool) → (x ≡ true) ↔ A → (y : ℕ) → y ≡ cond x 1 0 → (y ≡ 0 → ⊥) ↔ A
  mark-exact true h y e = (λ n. h.0 refl, λ a. omega arith)
  mark-exact {A} false h y e = (λ n. absurd (n e), λ a. absurd (false≢true (h.1 a)))

  marked_8 : Marked (units s) (links s) s.table.ends s.tree.parent
      (link_joins_round (links s) s.table.ends s.tree.parent s.order.nd s.order.pre s.aux.links)
      (parent_joins_round (units s) s.tree.parent s.order.nd s.order.pre s.range.low s.range.high
      s.aux.parents) i.numbered.treed.depth
  unfolding link_joins_round parent_joins_round
  marked_8 =
      record {
        link_marks =
            λ j l.
            mark-exact (joins_ends s.tree.parent s.order.nd s.order.pre (end_a s.table.ends j)
            (end_b s.table.ends j))
            (across-exact b.site i.numbered.treed.rooted i.numbered.ordered (end_a s.table.ends j)
            (end_b s.table.ends j) (j, l, inl (refl, refl))) _
            (get_d_over (links s) (λ (k : ℕ). cond
            (joins_ends s.tree.parent s.order.nd s.order.pre (end_a s.table.ends k)
            (end_b s.table.ends k)) 1 0) s.aux.links j 0 l
            (omega (arith, l, b.site.few_links, b.sized.by_link.0)));
        parent_marks =
            λ u l.
            mark-exact (joins_parent s.tree.parent s.order.nd s.order.pre s.range.low s.range.high u)
            (joins-exact b.site i.numbered.treed.rooted i.numbered.ordered i.ranged u l) _
            (get_d_over (units s) (λ (v : ℕ). cond
            (joins_parent s.tree.parent s.order.nd s.order.pre s.range.low s.range.high v) 1 0)
            s.aux.parents u 0 l
            (omega (arith, l, b.site.few_units, b.sized.by_unit.1.1.1.1.1.1.1.1.1.1.1.0)));
      }

  over_8 : Step.last_round s ≡ true → Reached (ticked s (Step.aux_edges s))
  unfolding Step.aux_edges
  over_8 e =
      in9
      (record {
        stage = stage-over (Step.last_round s) (Step.round_requests s) s.clock e ∙ omega (arith, i.stage);
        few = omega (
          arith,
          requests-next (Step.last_round s) (Step.round_requests s) s.clock
              (omega (arith, i.few, requests-at 8 s i.stage)),
          i.few,
          requests-at 8 s i.stage,
        );
        numbered =
            record {
              treed = record {
                depth = i.numbered.treed.depth;
                rooted = i.numbered.treed.rooted;
                colored = i.numbered.treed.colored;
              };
              ordered = i.numbered.ordered;
            };
        marked = marked_8;
        classes = inl (made-over (Step.last_round s) (Step.round_requests s) s.clock e);
      })

  pub goes_8 : Goes s
  goes_8 = goes_over s (Step.aux_edges s) within_8 (step-at 8 tt s i.stage) (ends-at 8 s i.stage) over_8
