-- Rounds of stages 9 and 10: the classes of the auxiliary graph, and the labels.
use Rattle.std.specs.Prelude.{◌≡◌, Bool, cond, not, ◌&&◌, ◌⊎◌, eqb}
use Rattle.std.proofs.Math.Path.{refl, ap}
use Rattle.std.proofs.Common.{sym, ◌∙◌, add-one}
use Rattle.std.proofs.Math.Bool.{true, false}
use Rattle.std.proofs.Math.Logic.{inl, inr}
use mathlib.Core.List.{List}
use Prim.Native.Nat.{ℕ, zero, suc, ◌+◌, ◌-◌, ◌≤◌, ◌<◌}
use native.Mathlib.Omega.{arith}
use Rattle.std.proofs.Math.ListN.{length}
use Rattle.base_lists.specs.Tables.{get_d_over}
use Rattle.table.specs.Table.{end_a, end_b}
use Rattle.spec_rules.specs.Basics.{at}
use Rattle.spec_rules.specs.Aux.{aux_round, aux_ends}
use Rattle.spec_rules.specs.Labels.{naming_unit, class_round, label_of, label_round}
use Rattle.theory_graph.specs.Forest.{Classes}
use Rattle.spec_machine.specs.State.{State}
use Rattle.spec_machine.specs.State.{MAX-REQUESTS, units, links}
use Rattle.spec_machine.specs.Step
use Rattle.spec_machine.specs.StageLaws.{ticked, first-tables, later-tables, step-at, ends-at, requests-at}
use Rattle.theory_reach.specs.Site.{Link}
use Rattle.theory_reach.specs.AuxColors.{Marked, aux_after, aux-first, aux-next, aux-bound, aux-done}
use Rattle.theory_reach.specs.LabelsRight.{labels_right}
use Rattle.theory_reach.specs.Invariant.{Base, Numbered, In9, In10, In11, Reached, in9, in10, in11}
use Rattle.theory_reach.specs.Ticks.{Goes, goes-within, goes_over, goes-either, stage-on, made-on, stage-over}
use Rattle.theory_reach.specs.Ticks.{made-over, requests-next}

-- ---- stage 9

module _ (s : State) (b : Base s) (i : In9 s) where
  within_9 : s.clock.requests + Step.round_requests s ≤ MAX-REQUESTS
  within_9 = omega (arith, i.few, requests-at 9 s i.stage)

  after : List ℕ → ℕ → List ℕ
  after first k = aux_after (units s) (links s) s.table.ends s.tree.parent s.aux.links
      s.aux.parents first k

  same_9 : (last : Bool) → (Step.next_clock last (Step.round_requests s) s.clock).requests ≤ 8158
  same_9 last =
      omega (
        arith,
        requests-next last (Step.round_requests s) s.clock
            (omega (arith, i.few, requests-at 9 s i.stage)),
        i.few,
        requests-at 9 s i.stage,
      )

  numbered_9 : Numbered (ticked s (Step.aux_components s))
  unfolding Step.aux_components
  numbered_9 =
      record {
        treed = record {
          depth = i.numbered.treed.depth;
          rooted = i.numbered.treed.rooted;
          colored = i.numbered.treed.colored;
        };
        ordered = i.numbered.ordered;
      }

  on_9 : (first : List ℕ) → units s ≤ length first → Step.last_round s ≡ false →
      Step.aux_colors s ≡ after first (s.clock.made + 1)
      → Reached (ticked s (Step.aux_components s))
  unfolding Step.aux_components after numbered_9
  on_9 first l e c =
      in9
      (record {
        stage = stage-on (Step.last_round s) (Step.round_requests s) s.clock e ∙ i.stage;
        few = same_9 (Step.last_round s);
        numbered = numbered_9;
        marked = i.marked;
        classes = inr (first, l, rw m (omega arith), rw m c);
      })
    where
      m : (Step.next_clock (Step.last_round s) (Step.round_requests s) s.clock).made ≡ s.clock.made + 1
      m = made-on (Step.last_round s) (Step.round_requests s) s.clock e

  over_9 : Step.last_round s ≡ true → Classes (Link (links s) s.table.ends) (at s.tree.parent)
      i.numbered.treed.depth (at (Step.aux_colors s))
      → Reached (ticked s (Step.aux_components s))
  unfolding Step.aux_components numbered_9
  over_9 e c =
      in10
      (record {
        stage = stage-over (Step.last_round s) (Step.round_requests s) s.clock e ∙ omega (arith, i.stage);
        few = same_9 (Step.last_round s);
        numbered = numbered_9;
        classes = c;
        named = inl (made-over (Step.last_round s) (Step.round_requests s) s.clock e);
      })

  first_9 : s.clock.made ≡ 0 → Goes s
  unfolding after aux_ends
  first_9 z =
      goes-within s (Step.aux_components s) within_9 (step-at 9 tt s i.stage) rule (rw i.stage (omega arith))
      (λ q. on_9 s.aux.color (omega (
        arith,
        b.site.few_units,
        b.sized.by_unit.1.1.1.1.1.1.1.1.1.1.1.1.0,
      )) q
      (rw z (aux-first (units s) (links s) s.table.ends s.tree.parent s.aux.links s.aux.parents
      s.aux.color)))
    where
      rule : Step.rule_ends s ≡ false
      rule = ends-at 9 s i.stage ∙ rw z refl

  later_9 : (first : List ℕ) (k : ℕ) → units s ≤ length first → s.clock.made ≡ suc k →
      s.aux.color ≡ after first (suc k) → Goes s
  unfolding after
  later_9 first k l z c =
      goes-either s (Step.aux_components s) within_9 (step-at 9 tt s i.stage) rule
      (λ r q. over_9 q (rw next (aux-done b.site i.numbered.treed.rooted i.marked first l k r)))
      (λ r.
      let m : s.clock.made + 1 ≡ suc (suc k) = omega arith in (
        rw i.stage (omega (arith, aux-bound b.site i.numbered.treed.rooted i.marked first l k r)),
        λ q. on_9 first l q (rw m next),
      ))
    where
      next : Step.aux_colors s ≡ after first (suc (suc k))
      next = rw (z, c) (aux-next (units s) (links s) s.table.ends s.tree.parent s.aux.links
          s.aux.parents first k)

      rule : Step.rule_ends s ≡ aux_ends (units s) (suc k) (after first (suc k)) (after first (suc (suc k)))
      rule = ends-at 9 s i.stage ∙ ap (λ (m : ℕ). aux_ends (units s) m s.aux.color (Step.aux_colors s)) z
          ∙ ap (λ (x : List ℕ). aux_ends (units s) (suc k) x (Step.aux_colors s)) c
          ∙ ap (aux_ends (units s) (suc k) (after first (suc k))) next

  pub goes_9 : Goes s
  unfolding after
  goes_9 = go i.classes
    where
      go : (s.clock.made ≡ 0) ⊎ ((first : List ℕ) × (units s ≤ length first) × (1 ≤ s.clock.made)
          × (s.aux.color ≡ after first s.clock.made)) → Goes s
      go (inl z) = first_9 z
      go (inr (first, l, p, c)) =
          let m : s.clock.made ≡ suc (s.clock.made - 1) = omega arith in
          later_9 first (s.clock.made - 1) l m (c ∙ ap (after first) m)

-- ---- stage 10

module _ (s : State) (b : Base s) (i : In10 s) where
  within_10 : s.clock.requests + Step.round_requests s ≤ MAX-REQUESTS
  within_10 = omega (arith, i.few, requests-at 10 s i.stage)

  same_10 : (last : Bool) → (Step.next_clock last (Step.round_requests s) s.clock).requests ≤ 8158
  same_10 last =
      omega (
        arith,
        requests-next last (Step.round_requests s) s.clock
            (omega (arith, i.few, requests-at 10 s i.stage)),
        i.few,
        requests-at 10 s i.stage,
      )

  links-fit : (k : ℕ) → k ≡ 1024 → (j : ℕ) → j < links s → j < k
  links-fit k e j l = omega (arith, b.site.few_links)

  name : ℕ → ℕ
  name j = at s.aux.color (naming_unit s.tree.parent s.order.pre (end_a s.table.ends j)
      (end_b s.table.ends j))

  first_10 : s.clock.made ≡ 0 → Step.last_round s ≡ false → Reached (ticked s (Step.label_classes s))
  unfolding Step.label_classes class_round
  first_10 z e =
      in10
      (record {
        stage = stage-on (Step.last_round s) (Step.round_requests s) s.clock e ∙ i.stage;
        few = same_10 (Step.last_round s);
        numbered =
            record {
              treed = record {
                depth = i.numbered.treed.depth;
                rooted = i.numbered.treed.rooted;
                colored = i.numbered.treed.colored;
              };
              ordered = i.numbered.ordered;
            };
        classes = i.classes;
        named =
            inr (
              made-on (Step.last_round s) (Step.round_requests s) s.clock e ∙ omega arith,
              λ j l.
                  get_d_over (links s) (λ (k : ℕ). at s.aux.color
                  (naming_unit s.tree.parent s.order.pre (end_a s.table.ends k)
                  (end_b s.table.ends k))) s.labels.class j 0 l
                  (links-fit (length s.labels.class) b.sized.by_link.1.0 j l),
            );
      })

  second_10 : ((j : ℕ) → j < links s → at s.labels.class j ≡ name j) → Step.last_round s ≡ true →
      Reached (ticked s (Step.label_positions s))
  unfolding Step.label_positions label_round name
  second_10 f e =
      in11
      (record {
        stage = stage-over (Step.last_round s) (Step.round_requests s) s.clock e ∙ omega (arith, i.stage);
        few = same_10 (Step.last_round s);
        right =
            labels_right b.site i.numbered.treed.rooted i.numbered.ordered i.classes
            s.labels.class _ f
            (λ j l. get_d_over (links s) (label_of (links s) s.labels.class) s.labels.label j 0 l
            (links-fit (length s.labels.label) b.sized.by_link.1.1.0 j l));
        numbered =
            record {
              treed = record {
                depth = i.numbered.treed.depth;
                rooted = i.numbered.treed.rooted;
                colored = i.numbered.treed.colored;
              };
              ordered = i.numbered.ordered;
            };
        classes = i.classes;
        named = f;
        labelled = λ j l. get_d_over (links s) (label_of (links s) s.labels.class) s.labels.label j 0 l
            (links-fit (length s.labels.label) b.sized.by_link.1.1.0 j l);
      })

  pub goes_10 : Goes s
  unfolding name Step.labels
  goes_10 = go i.named
    where
      go : (s.clock.made ≡ 0) ⊎ ((s.clock.made ≡ 1) × ((j : ℕ) → j < links s → at s.labels.class j ≡ name j)) →
          Goes s
      go (inl z) =
          let r : Step.rule_ends s ≡ false = ends-at 10 s i.stage ∙ rw z refl in
          goes-within s (Step.label_classes s) within_10 (step-at 10 tt s i.stage
          ∙ ap (ticked s) (first-tables s (Step.label_classes s) (Step.label_positions s) z)) r
          (rw i.stage (omega arith)) (first_10 z)
      go (inr (z, f)) =
          let r : Step.rule_ends s ≡ true = ends-at 10 s i.stage ∙ rw z refl in
          goes_over s (Step.label_positions s) within_10 (step-at 10 tt s i.stage
          ∙ ap (ticked s) (later-tables s (Step.label_classes s) (Step.label_positions s) (omega (arith, z)))) r
          (second_10 f)
