-- The tables, the end and the requests of a round are the exact ones at every state that the stages' invariants
-- describe.
use Rattle.std.specs.Prelude.{◌≡◌, false, ◌||◌, ◌⊎◌, eqb, ltb}
use Rattle.std.proofs.Math.Path.{refl}
use Rattle.std.proofs.Math.Bool.{true}
use Rattle.std.proofs.Common.{inl, inr, arith, eqb-true, ltb-true}
use Rattle.std.proofs.Math.Option.{some}
use mathlib.Core.List.{List}
use Prim.Native.Nat.{ℕ, ◌+◌, ◌*◌, ◌-◌, ◌^◌, ◌≤◌, ◌<◌, min, max}
use Rattle.std.proofs.Math.Decide.{ℕ_discrete}
use Rattle.std.proofs.lemmas.Bool.{eqb-false, not-true}
use Rattle.base_lists.specs.Multiples.{Multiple, multiple_step}
use Rattle.base_lists.specs.Tests.{and_left, not_both}
use Rattle.spec_rules.specs.Basics.{ABSENT, MAX-NUMBER, at, is_root}
use Rattle.spec_rules.specs.BoundLaws.{Names}
use Rattle.spec_rules.specs.Components.{color_round}
use Rattle.spec_rules.specs.Tour.{arc_unit, is_arc}
use Rattle.spec_rules.specs.Ranking.{asks, ranking_ends}
use Rattle.spec_rules.specs.Range.{unit_at, local_at, global_first, range_first, moves_little, moves_big, odd}
use Rattle.base_lists.specs.FoldLaws.{AtLeast}
use Rattle.spec_rules.specs.RangeEntries.{unit-at}
use Rattle.spec_rules.specs.Order.{place_of}
use Rattle.spec_machine.specs.State.{State}
use Rattle.spec_machine.specs.State.{units, links}
use Rattle.spec_machine.specs.Step
use Rattle.theory_reach.specs.Rooted.{Rooted, root-exact}
use Rattle.theory_reach.specs.Potentials.{arc-exact, rank-into, rank-out}
use Rattle.theory_reach.specs.SizeAndOrder.{nd}
use Rattle.theory_reach.specs.Places.{place-exact, place-below}
use Rattle.theory_reach.specs.Doubling
use Rattle.theory_reach.specs.Doubling.{Potential, Ranked}
use Rattle.theory_reach.specs.Segments.{SegmentsAt, Spans, last_place, place-spans}
use Rattle.theory_reach.specs.Invariant
use Rattle.theory_reach.specs.Planned.{Fits, plan-names}
use Rattle.theory_reach.specs.Colors.{Colored}
use Rattle.theory_reach.specs.Invariant.{Base, Treed, Numbered, PlanFits, In2, In6, In7, Reached}
use Rattle.theory_reach.specs.RankingOf.{second-potential}
use Rattle.theory_reach.specs.Partial.{conds, ors}
use Rattle.theory_reach.specs.ExactRules
use Rattle.theory_reach.specs.ExactStep
use Rattle.theory_reach.specs.ExactLaws1 as Laws1
use Rattle.theory_reach.specs.ExactPlanned as LawsP
use Rattle.theory_reach.specs.ExactLaws2 as Laws2
use Rattle.theory_reach.specs.ExactLaws3 as Laws3

-- ---- what the invariants give

parent-names : {n m : ℕ} {ends color parent : List ℕ} {d : ℕ → ℕ} → Rooted n m ends color parent d → (v : ℕ) → v < n →
    Names n (at parent v)
parent-names {n} {parent = parent} {d = d} rooted v l = go (ℕ_discrete (d v) 0)
  where
    go : Dec (d v ≡ 0) → Names n (at parent v)
    go (yes z) = inr ((rooted.absent_root v l).1 z)
    go (no z) = inl (rooted.parent_below v l (omega arith))

module _ {K : ℕ} {R S : ℕ → ℕ} (potential : Potential K R S) {jump sum : List ℕ} {k : ℕ}
    (ranked : Ranked K R S jump sum k) where
  -- an object that asks has a predecessor
  ahead : (a : ℕ) → a < K → asks jump a ≡ true → Doubling.Ahead K R S jump sum k a
  ahead a l q = go (ranked.object a l)
    where
      go : Doubling.Reached R S jump sum k a ⊎ Doubling.Ahead K R S jump sum k a → Doubling.Ahead K R S jump sum k a
      go (inl w) = absurd (eqb-false (at jump a) ABSENT (not-true (eqb (at jump a) ABSENT) q) w.0)
      go (inr w) = w

  -- a sum is at most what it comes to
  sum_below : (a : ℕ) → a < K → at sum a ≤ S a
  sum_below a l = go (ranked.object a l)
    where
      go : Doubling.Reached R S jump sum k a ⊎ Doubling.Ahead K R S jump sum k a → at sum a ≤ S a
      go (inl w) = omega (arith, w.2)
      go (inr w) = omega (arith, w.2)

  sum-small : (a : ℕ) → a < K → asks jump a ≡ true → at sum a + at sum (at jump a) ≤ MAX-NUMBER
  sum-small a l q = let w = ahead a l q in omega (arith, w.2, sum_below (at jump a) w.0, potential.small a l)

-- ---- the end of a stage, and the requests

module _ (s : State) (b : Base s) where
  few : units s ≤ ABSENT
  few = omega (arith, b.site.few_units)

  colors-exact : ExactStep.colors? s ≡ some
      (color_round (units s) (links s) s.clock.made s.table.ends s.components.color)
  unfolding ExactStep.colors?
  colors-exact = Laws1.color_round_lem (units s) (links s) s.table.ends b.site.below_a b.site.below_b
      s.clock.made s.components.color

  classes-exact : Treed s → ExactStep.aux_colors? s ≡ some (Step.aux_colors s)
  unfolding ExactStep.aux_colors?
  classes-exact t =
      Laws3.aux-round (units s) s.tree.parent (parent-names t.rooted) (links s) s.table.ends
      b.site.below_a b.site.below_b s.clock.made
      s.aux.links s.aux.parents s.aux.color

  -- only stage 9 asks for the tree
  pub ends-exact : (s.clock.stage ≡ 9 → Treed s) → ExactStep.rule_ends? s ≡ some (Step.rule_ends s)
  unfolding ExactStep.rule_ends? Step.rule_ends Step.components
  ends-exact t =
      conds (eqb s.clock.stage 1) (λ q. rw colors-exact refl)
      (λ q.
      conds (eqb s.clock.stage 2)
      (λ q. ors refl (λ _. Laws1.tree-ends (units s) (links s) s.table.ends b.site.below_a b.site.below_b
      s.table.levels s.clock.made s.tree.dist s.components.color))
      (λ q.
      conds (eqb s.clock.stage 3) (λ q. refl)
      (λ q.
      conds (eqb s.clock.stage 4) (λ q. Laws2.ranking-ends (2 * units s) s.ranking.jump)
      (λ q.
      conds (eqb s.clock.stage 5) (λ q. refl)
      (λ q.
      conds (eqb s.clock.stage 6) (λ q. Laws2.ranking-ends (2 * units s) s.ranking.jump)
      (λ q.
      conds (eqb s.clock.stage 7) (λ q. refl)
      (λ q.
      conds (eqb s.clock.stage 8) (λ q. refl)
      (λ q. conds (eqb s.clock.stage 9) (λ q. rw (classes-exact (t (eqb-true s.clock.stage 9 q))) refl)
      (λ q. refl)))))))))

pub requests-exact : (s : State) → ExactStep.round_requests? s ≡ some (Step.round_requests s)
unfolding ExactStep.round_requests? Step.round_requests
requests-exact s =
    conds (eqb s.clock.stage 4 || eqb s.clock.stage 6)
    (λ q. Laws2.request_count (2 * units s) s.ranking.jump) (λ q. refl)

-- ---- stages 1 and 2

module _ (s : State) (b : Base s) where
  pub components-exact : ExactStep.components? s ≡ some (Step.components s)
  unfolding ExactStep.components? Step.components
  components-exact = rw (colors-exact s b) refl

  searched_exact : ExactStep.tree_searched? s ≡ some (Step.tree_searched s)
  unfolding ExactStep.tree_searched? Step.tree_searched
  searched_exact =
      rw (
        Laws1.parent-round (units s) (links s) s.table.ends b.site.below_a b.site.below_b s.table.levels
            s.clock.made s.tree.dist s.components.color s.tree.parent,
        Laws1.dist_round_lem (units s) (links s) s.table.ends b.site.below_a b.site.below_b s.table.levels
            s.clock.made s.tree.dist s.components.color,
      )
      refl

  planned-exact : Fits (units s) (links s) s.table.ends s.plan.parent →
      Colored (units s) (links s) s.table.ends s.components.color
      → ExactStep.tree_planned? s ≡ some (Step.tree_planned s)
  unfolding ExactStep.tree_planned? Step.tree_planned
  planned-exact fits colored =
      rw (
        LawsP.planned-parents (units s) s.plan.parent s.tree.parent,
        LawsP.planned-dists (units s) s.plan.parent (plan-names b.site fits) s.components.color
            s.tree.dist,
      )
      refl

  pub tree-exact : In2 s → ExactStep.tree? s ≡ some (Step.tree s)
  unfolding ExactStep.tree? Step.tree
  tree-exact i = conds (Step.planned s) (λ q. go q i.plan) (λ q. searched_exact)
    where
      go : Step.planned s ≡ true → PlanFits s → ExactStep.tree_planned? s ≡ some (Step.tree_planned s)
      go q (inl p) = absurd (not_both (Step.planned s) q p)
      go q (inr (p, fits)) = planned-exact fits i.colored

-- ---- stages 3 and 5

module _ (s : State) (b : Base s) (t : Treed s) where
  names : (v : ℕ) → v < units s → Names (units s) (at s.tree.parent v)
  names = parent-names t.rooted

  pub tour-exact : ExactStep.tour? s ≡ some (Step.tour s)
  unfolding ExactStep.tour? ExactStep.tour_next? ExactStep.tour_pred? Step.tour Step.tour_next Step.tour_pred
  tour-exact =
      conds (eqb s.clock.made 0)
      (λ q. rw (Laws1.next-round (units s) s.tree.parent (few s b) names s.tour.next) refl)
      (λ q.
      rw (
        Laws1.pred_round_lem (units s) s.tree.parent (few s b) names s.tour.next s.tour.pred,
        Laws1.first-jumps (units s) s.tree.parent (few s b) names s.tour.next s.ranking.jump,
        Laws1.first-sums (units s) s.tree.parent (few s b) names s.ranking.sum,
      )
      refl)

  -- the ranks of a unit's two arcs
  apart : ((a : ℕ) → a < 2 * units s → is_arc s.tree.parent a ≡ true → at s.ranking.sum a ≡ Invariant.rank s t a)
      → (v : ℕ) → v < units s → is_root s.tree.parent v ≡ false
      → (x : ℕ) × (at s.ranking.sum (2 * v + 1) + 1 ≡ at s.ranking.sum (2 * v) + 2 * x)
  apart held v l q =
      let h : 0 < t.depth v = deep (ℕ_discrete (t.depth v) 0) in
      let even : arc_unit (2 * v) ≡ v = omega arith in
      let odd : arc_unit (2 * v + 1) ≡ v = omega arith in
      let x = held (2 * v) (omega arith) ((arc-exact t.rooted (2 * v) (omega arith)).1 (rw even h)) in
      let y = held (2 * v + 1) (omega arith) ((arc-exact t.rooted (2 * v + 1) (omega arith)).1 (rw odd h)) in
      (nd (units s) s.tree.parent t.depth v, omega (arith, rank-into t.rooted v h, rank-out t.rooted v h))
    where
      deep : Dec (t.depth v ≡ 0) → 0 < t.depth v
      deep (yes z) = absurd (not_both (is_root s.tree.parent v) ((root-exact t.rooted v l).1 z) q)
      deep (no z) = omega arith

  pub marks-exact : ((a : ℕ) → a < 2 * units s → is_arc s.tree.parent a ≡ true →
      at s.ranking.sum a ≡ Invariant.rank s t a)
      → ExactStep.marks? s ≡ some (Step.marks s)
  unfolding ExactStep.marks? ExactStep.marks_forward? ExactStep.marks_descendants? Step.marks Step.marks_forward
      Step.marks_descendants
  marks-exact held =
      conds (eqb s.clock.made 0)
      (λ q. rw (Laws2.forward-round (units s) s.tree.parent (few s b) names s.ranking.sum s.order.forward)
      refl)
      (λ q.
      rw (
        Laws2.nd-round (units s) s.tree.parent (few s b) names s.components.color s.ranking.sum
            s.order.nd (apart held),
        Laws2.second-jumps (units s) s.tree.parent (few s b) names s.tour.pred s.ranking.jump,
        Laws2.second-sums (units s) s.tree.parent (few s b) names s.order.forward s.ranking.sum,
      )
      refl)

-- ---- stages 4 and 6

pub ranking-exact : (s : State) {R S : ℕ → ℕ} {k : ℕ} → Potential (2 * units s) R S →
    Ranked (2 * units s) R S s.ranking.jump s.ranking.sum k
    → ExactStep.ranking? s ≡ some (Step.ranking s)
unfolding ExactStep.ranking? Step.ranking
ranking-exact s potential ranked =
    let there : (a : ℕ) → a < 2 * units s → asks s.ranking.jump a ≡ true →
    at s.ranking.jump a < 2 * units s = λ a l q. (ahead potential ranked a l q).0 in
    rw (
      Laws2.jump-round (2 * units s) s.ranking.jump there,
      Laws2.sum-round (2 * units s) s.ranking.jump there s.ranking.sum (sum-small potential ranked),
    )
    refl

-- the last round's places
pub places-exact : (s : State) → Base s → (i : In6 s) → ranking_ends (2 * units s) s.ranking.jump ≡ true →
    ExactStep.places? s ≡ some (Step.places s)
unfolding ExactStep.places? Step.places
places-exact s b i r =
    rw (
      Laws2.pre-round (units s) s.tree.parent (few s b) (names s b i.treed) s.components.color
          s.ranking.sum s.order.pre small,
      ranking-exact s (second-potential s b i.treed) i.ranked,
    )
    refl
  where
    small : (v : ℕ) → v < units s → place_of (units s) s.components.color s.tree.parent s.ranking.sum v
        < MAX-NUMBER
    small v l =
        omega (
          arith,
          place-exact i.treed.rooted b.site.few_units s.ranking.sum
              (Doubling.sums (second-potential s b i.treed) i.ranked r) v l,
          place-below i.treed.rooted v l,
          b.site.few_units,
        )

-- ---- stage 7

-- where little or big moves, a segment's length lies between them
between : {le : ℕ → ℕ → Type 0} {n : ℕ} {local first last : ℕ → ℕ} {global range little big : List ℕ} {i : ℕ}
    → SegmentsAt le n local first last global range little big i → (v : ℕ) → v < n →
    ltb (at little v) (at big v) ≡ true → at little v + 2 ^ i ≤ at big v
between {little = little} {big = big} {i = i} now v l q = go (now.aligned v l)
  where
    less : at little v < at big v
    less = ltb-true (at little v) (at big v) q

    go : (at little v ≡ at big v) ⊎ (Multiple (2 ^ i) (at little v) × Multiple (2 ^ i) (at big v)) →
        at little v + 2 ^ i ≤ at big v
    go (inl e) = absurd (omega (arith, less))
    go (inr w) = multiple_step (2 ^ i) (at little v) (at big v) w.0 w.1 less

module _ (s : State) (b : Base s) (numbered : Numbered s) where
  few-places : units s ≤ MAX-NUMBER
  few-places = omega (arith, b.site.few_units)

  -- every place has its unit
  taken : (q : ℕ) → q < units s → unit_at (units s) s.order.pre q < units s
  taken q l =
      let w = numbered.ordered.place_taken q l in
      let e : unit_at (units s) s.order.pre (at s.order.pre w.0) ≡ w.0 =
      unit-at (units s) s.order.pre (few s b) numbered.ordered.place_once w.0 w.1 in
      rw (← w.2, e) w.1

  begun-exact : ExactStep.range_begun? s ≡ some (Step.range_begun s)
  unfolding ExactStep.range_begun? Step.range_begun
  begun-exact =
      rw (
        range-first min s.range.low,
        range-first max s.range.high,
        Laws3.little-first (units s) s.order.pre s.range.little,
        Laws3.big-first (units s) (links s) s.table.ends b.site.below_a b.site.below_b s.tree.parent
            s.order.pre (few s b) taken s.order.nd
            numbered.ordered.nd_some numbered.ordered.within few-places s.range.big,
        global-first min s.global.low,
        global-first max s.global.high,
      )
      refl
    where
      global-first : (op : ℕ → ℕ → ℕ) (global : List ℕ)
          → ExactRules.global_first? op (units s) (links s) s.table.ends s.tree.parent s.order.pre global
          ≡ some (global_first op (units s) (links s) s.table.ends s.tree.parent s.order.pre global)
      global-first =
          Laws3.global-first (units s) (links s) s.table.ends b.site.below_a b.site.below_b s.tree.parent
          s.order.pre (few s b) taken

      range-first : (op : ℕ → ℕ → ℕ) (range : List ℕ)
          → ExactRules.range_first? op (units s) (links s) s.table.ends s.tree.parent s.order.nd
          s.order.pre range
          ≡ some (range_first op (units s) (links s) s.table.ends s.tree.parent s.order.nd
          s.order.pre range)
      range-first =
          Laws3.range-first (units s) (links s) s.table.ends b.site.below_a b.site.below_b s.tree.parent
          s.order.pre (few s b) taken s.order.nd
          numbered.ordered.nd_some numbered.ordered.within

  spans : Spans (units s) (at s.order.pre) (last_place s.order.nd s.order.pre)
  spans = place-spans (units s) s.order.nd s.order.pre few-places numbered.ordered.nd_some
      numbered.ordered.within

  doubled_exact : {le : ℕ → ℕ → Type 0} {local : ℕ → ℕ} {global range : List ℕ} (i : ℕ)
      → SegmentsAt le (units s) local (at s.order.pre) (last_place s.order.nd s.order.pre) global range
      s.range.little s.range.big i
      → ExactStep.range_doubled? i s ≡ some (Step.range_doubled i s)
  unfolding ExactStep.range_doubled? Step.range_doubled
  doubled_exact i now =
      rw (
        Laws3.range-later i (units s) few-places s.range.little s.range.big big_below steps room min
            s.global.low s.range.low,
        Laws3.range-later i (units s) few-places s.range.little s.range.big big_below steps room max
            s.global.high s.range.high,
        Laws3.little-later i (units s) few-places s.range.little s.range.big big_below steps room,
        Laws3.big-later i (units s) few-places s.range.little s.range.big big_below steps room,
        Laws3.global-later min i (units s) s.global.low,
        Laws3.global-later max i (units s) s.global.high,
      )
      refl
    where
      big_below : (v : ℕ) → v < units s → at s.range.big v < units s
      big_below v l = omega (arith, now.big_last v l, spans.last_below v l)

      steps : (v : ℕ) → v < units s → moves_little i s.range.little s.range.big v ≡ true →
          at s.range.little v + 2 ^ i ≤ at s.range.big v
      steps v l q = between now v l (and_left (ltb (at s.range.little v) (at s.range.big v))
          (odd i (at s.range.little v)) q)

      room : (v : ℕ) → v < units s → moves_big i s.range.little s.range.big v ≡ true →
          2 ^ i ≤ at s.range.big v
      room v l q = omega (
        arith,
        between now v l
            (and_left (ltb (at s.range.little v) (at s.range.big v)) (odd i (at s.range.big v)) q),
      )

pub range-exact : (s : State) → Base s → In7 s → ExactStep.range? s ≡ some (Step.range s)
unfolding ExactStep.range? Step.range
range-exact s b i =
    conds (eqb s.clock.made 0) (λ q. begun-exact s b i.numbered) (λ q. later q i.segments)
  where
    later : eqb s.clock.made 0 ≡ false
        → (s.clock.made ≡ 0)
        ⊎ ((1 ≤ s.clock.made)
        × SegmentsAt ◌≤◌ (units s) (local_at min (units s) (links s) s.table.ends s.tree.parent s.order.pre)
        (at s.order.pre)
        (last_place s.order.nd s.order.pre) s.global.low s.range.low s.range.little s.range.big
        (s.clock.made - 1)
        × SegmentsAt AtLeast (units s) (local_at max (units s) (links s) s.table.ends s.tree.parent
        s.order.pre) (at s.order.pre)
        (last_place s.order.nd s.order.pre) s.global.high s.range.high s.range.little s.range.big
        (s.clock.made - 1))
        → ExactStep.range_doubled? (s.clock.made - 1) s ≡ some (Step.range_doubled (s.clock.made - 1) s)
    later q (inl z) = absurd (eqb-false s.clock.made 0 q z)
    later q (inr (p, l, h)) = doubled_exact s b i.numbered (s.clock.made - 1) l

-- ---- stages 8 to 10

module _ (s : State) (b : Base s) where
  pub edges_exact : Treed s → ExactStep.aux_edges? s ≡ some (Step.aux_edges s)
  unfolding ExactStep.aux_edges? Step.aux_edges
  edges_exact t =
      rw (
        Laws3.parent-joins (units s) s.tree.parent (names s b t) s.order.nd s.order.pre s.range.low
            s.range.high s.aux.parents,
        Laws3.link-joins (units s) s.tree.parent (names s b t) (links s) s.table.ends b.site.below_a
            b.site.below_b s.order.nd s.order.pre s.aux.links,
      )
      refl

  pub aux-exact : Treed s → ExactStep.aux_components? s ≡ some (Step.aux_components s)
  unfolding ExactStep.aux_components? Step.aux_components
  aux-exact t = rw (classes-exact s b t) refl

  pub labels-exact : ExactStep.labels? s ≡ some (Step.labels s)
  unfolding ExactStep.labels? ExactStep.label_classes? ExactStep.label_positions? Step.labels Step.label_classes
      Step.label_positions
  labels-exact =
      conds (eqb s.clock.made 0)
      (λ q.
      rw (Laws3.class-round (units s) (links s) s.table.ends b.site.below_a b.site.below_b s.tree.parent
      s.order.pre s.aux.color s.labels.class)
      refl)
      (λ q. rw (Laws3.label_round_lem (links s) s.labels.class s.labels.label) refl)
