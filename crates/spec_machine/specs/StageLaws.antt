-- What a step is at the stage that the clock shows, and what holds of the tables of every round.
use Rattle.std.specs.Prelude.{◌≡◌, refl, Bool, cond, ℕ, ◌-◌, T, eqb, ltb}
use Rattle.std.proofs.Common.{ap, ◌∙◌, arith, ltb→lt, ne_eqb}
use Rattle.base_lists.specs.All.{cond-keeps}
use Rattle.spec_machine.specs.State.{State}
use Rattle.spec_machine.specs.State.{with_clock, finished, FINISHED}
use Rattle.spec_machine.specs.Step

-- the state with the clock of the next round over these tables
abbrev pub ticked : State → State → State
ticked s tables = with_clock (Step.next_clock (Step.last_round s) (Step.round_requests s) s.clock) tables

-- an unfinished survey makes a round
pub step-going : (s : State) → (s.clock.stage ≡ FINISHED → ⊥) → Step.step s ≡ ticked s (Step.round_tables s)
unfolding Step.step
step-going s h = rw (ne_eqb s.clock.stage FINISHED h) refl

-- at stage k: the tables, the end rule and the requests
pub step-at : (k : ℕ) → T (ltb k FINISHED) → (s : State) → s.clock.stage ≡ k →
    Step.step s ≡ ticked s (Step.tables_at k s)
unfolding Step.round_tables
step-at k l s e = step-going s (omega (arith, ltb→lt k FINISHED l)) ∙ ap (λ (k : ℕ). ticked s (Step.tables_at k s)) e

pub ends-at : (k : ℕ) (s : State) → s.clock.stage ≡ k → Step.rule_ends s ≡ Step.ends_at k s
unfolding Step.rule_ends
ends-at k s e = ap (λ (k : ℕ). Step.ends_at k s) e

pub requests-at : (k : ℕ) (s : State) → s.clock.stage ≡ k → Step.round_requests s ≡ Step.requests_at k s
unfolding Step.round_requests
requests-at k s e = ap (λ (k : ℕ). Step.requests_at k s) e

-- ---- whatever stage the clock shows

-- what holds of the tables of each round
pub record EachRound (P : State → Type 0) (s : State) : Type 0 where
  pub components : P (Step.components s)
  pub tree_searched : P (Step.tree_searched s)
  pub tree_planned : P (Step.tree_planned s)
  pub tour_next : P (Step.tour_next s)
  pub tour_pred : P (Step.tour_pred s)
  pub ranking : P (Step.ranking s)
  pub marks_forward : P (Step.marks_forward s)
  pub marks_descendants : P (Step.marks_descendants s)
  pub places : P (Step.places s)
  pub range_begun : P (Step.range_begun s)
  pub range_doubled : (i : ℕ) → P (Step.range_doubled i s)
  pub aux_edges : P (Step.aux_edges s)
  pub aux_components : P (Step.aux_components s)
  pub label_classes : P (Step.label_classes s)
  pub label_positions : P (Step.label_positions s)

-- holds of the tables of this one
pub each-round : (P : State → Type 0) (s : State) → EachRound P s → P (Step.round_tables s)
unfolding Step.round_tables Step.tree Step.tour Step.marks Step.range Step.labels
each-round P s r =
    choose (eqb s.clock.stage 1) r.components
    (choose (eqb s.clock.stage 2) (choose (Step.planned s) r.tree_planned r.tree_searched)
    (choose (eqb s.clock.stage 3) (choose (eqb s.clock.made 0) r.tour_next r.tour_pred)
    (choose (eqb s.clock.stage 4) r.ranking
    (choose (eqb s.clock.stage 5) (choose (eqb s.clock.made 0) r.marks_forward r.marks_descendants)
    (choose (eqb s.clock.stage 6) (choose (Step.last_round s) r.places r.ranking)
    (choose (eqb s.clock.stage 7) (choose (eqb s.clock.made 0) r.range_begun
    (r.range_doubled (s.clock.made - 1)))
    (choose (eqb s.clock.stage 8) r.aux_edges
    (choose (eqb s.clock.stage 9) r.aux_components
    (choose (eqb s.clock.made 0) r.label_classes r.label_positions)))))))))
  where
    choose : (b : Bool) {x y : State} → P x → P y → P (cond b x y)
    choose b {x} {y} p q = cond-keeps P b x y p q

-- no round touches the table of links
kept_table : (s : State) → (Step.round_tables s).table ≡ s.table
unfolding Step.components Step.tree_searched Step.tree_planned Step.tour_next Step.tour_pred Step.ranking
    Step.marks_forward
    Step.marks_descendants Step.places Step.range_begun Step.range_doubled Step.aux_edges Step.aux_components
    Step.label_classes Step.label_positions
kept_table s =
    each-round (λ (x : State). x.table ≡ s.table) s
    (record {
      components = refl;
      tree_searched = refl;
      tree_planned = refl;
      tour_next = refl;
      tour_pred = refl;
      ranking = refl;
      marks_forward = refl;
      marks_descendants = refl;
      places = refl;
      range_begun = refl;
      range_doubled = λ i. refl;
      aux_edges = refl;
      aux_components = refl;
      label_classes = refl;
      label_positions = refl;
    })

pub step-table : (s : State) → (Step.step s).table ≡ s.table
unfolding Step.step
step-table s = cond-keeps (λ (z : State). z.table ≡ s.table) (finished s) s _ refl (kept_table s)

-- nor the planner's tree
kept-plan : (s : State) → (Step.round_tables s).plan ≡ s.plan
unfolding Step.components Step.tree_searched Step.tree_planned Step.tour_next Step.tour_pred Step.ranking
    Step.marks_forward
    Step.marks_descendants Step.places Step.range_begun Step.range_doubled Step.aux_edges Step.aux_components
    Step.label_classes Step.label_positions
kept-plan s =
    each-round (λ (x : State). x.plan ≡ s.plan) s
    (record {
      components = refl;
      tree_searched = refl;
      tree_planned = refl;
      tour_next = refl;
      tour_pred = refl;
      ranking = refl;
      marks_forward = refl;
      marks_descendants = refl;
      places = refl;
      range_begun = refl;
      range_doubled = λ i. refl;
      aux_edges = refl;
      aux_components = refl;
      label_classes = refl;
      label_positions = refl;
    })

pub step-plan : (s : State) → (Step.step s).plan ≡ s.plan
unfolding Step.step
step-plan s = cond-keeps (λ (z : State). z.plan ≡ s.plan) (finished s) s _ refl (kept-plan s)

-- ---- stages whose first round differs

-- the tables of its first round, and of a later one
pub first-tables : (s first later : State) → s.clock.made ≡ 0 → cond (eqb s.clock.made 0) first later ≡ first
first-tables s first later e = rw e refl

pub later-tables : (s first later : State) → (s.clock.made ≡ 0 → ⊥) →
    cond (eqb s.clock.made 0) first later ≡ later
later-tables s first later h = rw (ne_eqb s.clock.made 0 h) refl
