-- Every state that a load reaches, from what it starts with, and what the finished one says: the last theorem of this
-- crate is `survey-right`.
use Rattle.std.specs.Prelude.{◌≡◌, refl, Bool, true, false, cond, ◌⊎◌, ◌↔◌, List}
use Rattle.std.proofs.Common.{sym, ap, ◌∙◌, inl, inr, add-one, arith, eq-eqb, ne_eqb}
use Prim.Native.Nat.{ℕ, zero, suc, ◌+◌, ◌≤◌, ◌<◌}
use Rattle.std.proofs.Math.Decide.{dec_lt, ℕ_discrete}
use Rattle.table.specs.Table.{end_a, end_b, stored_refusal}
use Rattle.spec_rules.specs.Basics.{at}
use Rattle.spec_rules.specs.Labels.{lone, single}
use Rattle.theory_graph.specs.Rings.{Ring, Holds, OnRing, Articulation}
use Rattle.theory_graph.proofs.Same.{on_ring_same, no_ring_same, articulation-same}
use Rattle.spec_machine.specs.State.{State}
use Rattle.spec_machine.specs.State.{units, links, finished, FINISHED, MAX-ROUNDS, MAX-REQUESTS}
use Rattle.spec_machine.specs.WellFormed.{well_formed}
use Rattle.spec_machine.specs.Load.{Input, links_in, table_of, ends_of}
use Rattle.spec_machine.specs.Step
use Rattle.spec_machine.specs.StageLaws.{step-table, step-going}
use Rattle.spec_machine.specs.Report.{unit_single, link_label, link_lone}
use Rattle.spec_machine.specs.RunLaws.{steps_suc, step-finished, Total, total, total-least, total-countdown}
use Rattle.spec_machine.specs.RunLaws.{ended-exact, steps-well_formed}
use Rattle.theory_reach.specs.Site.{Link}
use Rattle.theory_reach.specs.Sized.{step-sized}
use Rattle.theory_reach.specs.Invariant
use Rattle.theory_reach.specs.Invariant.{Base, Reached, in1, in2, in3, in4, in5, in6, in7, in8, in9, in10, in11}
use Rattle.theory_reach.specs.LabelsRight
use Rattle.theory_reach.specs.Ticks.{Goes}
use Rattle.theory_reach.specs.Rounds1and2.{goes_1, goes_2}
use Rattle.theory_reach.specs.Rounds3and4.{goes_3, goes_4}
use Rattle.theory_reach.specs.Rounds5and6.{goes_5, goes_6}
use Rattle.theory_reach.specs.Rounds7and8.{goes_7, goes_8}
use Rattle.theory_reach.specs.Rounds9and10.{goes_9, goes_10}
use Rattle.theory_reach.specs.Loaded.{end-a, end-b, same-links}
use Rattle.theory_reach.specs.Started.{Started}

-- ---- a step of a reached state

pub goes : (s : State) → Base s → Reached s → (s.clock.stage ≡ FINISHED → ⊥) → Goes s
goes s b (in1 i) h = goes_1 s b i
goes s b (in2 i) h = goes_2 s b i
goes s b (in3 i) h = goes_3 s b i
goes s b (in4 i) h = goes_4 s b i
goes s b (in5 i) h = goes_5 s b i
goes s b (in6 i) h = goes_6 s b i
goes s b (in7 i) h = goes_7 s b i
goes s b (in8 i) h = goes_8 s b i
goes s b (in9 i) h = goes_9 s b i
goes s b (in10 i) h = goes_10 s b i
goes s b (in11 i) h = absurd (h i.stage)

base_step : (s : State) → Base s → Base (Step.step s)
base_step s b = record { site = rw (step-table s) b.site; sized = step-sized s b.sized }

reached-step : (s : State) → Base s → Reached s → Dec (s.clock.stage ≡ FINISHED) → Reached (Step.step s)
reached-step s b r (yes e) = rw (step-finished s (eq-eqb s.clock.stage FINISHED e)) r
reached-step s b r (no h) = (goes s b r h).after

-- ---- every state from a start

module _ {input : Input} {s₀ : State} (S : Started input s₀) where
  pub base-steps : (k : ℕ) → Base (Step.steps k s₀)
  unfolding Step.steps
  base-steps zero = S.base
  base-steps (suc k) = rw (steps_suc k s₀) (base_step (Step.steps k s₀) (base-steps k))

  pub reached-steps : (k : ℕ) → Reached (Step.steps k s₀)
  unfolding Step.steps
  reached-steps zero = S.reached
  reached-steps (suc k) =
      rw (steps_suc k s₀)
      (reached-step (Step.steps k s₀) (base-steps k) (reached-steps k)
      (ℕ_discrete (Step.steps k s₀).clock.stage FINISHED))

  pub table-steps : (k : ℕ) → (Step.steps k s₀).table ≡ table_of input
  unfolding Step.steps
  table-steps zero = S.table
  table-steps (suc k) = rw (steps_suc k s₀) (step-table (Step.steps k s₀) ∙ table-steps k)

  -- before the end each round is not cut short, and no number leaves its bound
  pub goes_on : (k : ℕ) → k < total s₀ → Goes (Step.steps k s₀)
  goes_on k l =
      goes (Step.steps k s₀) (base-steps k) (reached-steps k) ((total-least s₀ S.kept).least k l)

  -- all rounds are the steps made, and within their limit
  pub rounds-steps : (k : ℕ) → k ≤ total s₀ → (Step.steps k s₀).clock.rounds ≡ k
  unfolding Step.steps Step.next_clock
  rounds-steps zero l = S.unmade
  rounds-steps (suc k) l =
      rw (steps_suc k s₀, step-going (Step.steps k s₀) ((total-least s₀ S.kept).least k l))
      (omega (arith, rounds-steps k (omega arith), total-countdown s₀, S.shown))

  -- requests are added up and never clamped
  pub requests-steps : (k : ℕ) → k < total s₀
      → (Step.steps (suc k) s₀).clock.requests ≡ (Step.steps k s₀).clock.requests
      + Step.round_requests (Step.steps k s₀)
  unfolding Step.next_clock
  requests-steps k l =
      rw (steps_suc k s₀, step-going (Step.steps k s₀) ((total-least s₀ S.kept).least k l))
      (omega (arith, (goes_on k l).unclamped))

-- ---- what the finished survey says

-- labels, lone links and single points of e are those of the graph that the table draws
pub record SurveyRight (input : Input) (e : State) : Type 0 where
  -- two different links have one label exactly when a ring holds both
  pub labels : (j k : ℕ) → j < links_in input → k < links_in input → (j ≡ k → ⊥)
      → (link_label e j ≡ link_label e k) ↔ OnRing (Link (links_in input) input.words) (end_a input.words j)
      (end_b input.words j) (end_a input.words k) (end_b input.words k)
  -- a label is the least position that has it
  pub firsts : (j : ℕ) → j < links_in input
      → (link_label e j < links_in input) × (link_label e (link_label e j) ≡ link_label e j)
      × ((k : ℕ) → k < links_in input → link_label e k ≡ link_label e j → link_label e j ≤ k)
  -- a link is lone exactly when no ring holds it
  pub lones : (j : ℕ) → j < links_in input
      → (link_lone e j ≡ true) ↔ ((r : List ℕ) → Ring (Link (links_in input) input.words) r →
      Holds r (end_a input.words j) (end_b input.words j) → ⊥)
  -- a unit is a single point exactly when two other units that are linked up with each other have no route that avoids
  -- it
  pub singles : (u : ℕ) → u < input.units →
      (unit_single e u ≡ true) ↔ Articulation (Link (links_in input) input.words) u

module _ {input : Input} {s₀ : State} (S : Started input s₀) where
  -- over the state's own array
  finished-right : (s : State) → s.table ≡ table_of input → Reached s → s.clock.stage ≡ FINISHED
      → LabelsRight.Right input.units (links_in input) (ends_of input.words) s.labels.label
  finished-right s e (in1 i) f = absurd (omega (arith, i.stage))
  finished-right s e (in2 i) f = absurd (omega (arith, i.stage))
  finished-right s e (in3 i) f = absurd (omega (arith, i.stage))
  finished-right s e (in4 i) f = absurd (omega (arith, i.stage))
  finished-right s e (in5 i) f = absurd (omega (arith, i.stage))
  finished-right s e (in6 i) f = absurd (omega (arith, i.stage))
  finished-right s e (in7 i) f = absurd (omega (arith, i.stage))
  finished-right s e (in8 i) f = absurd (omega (arith, i.stage))
  finished-right s e (in9 i) f = absurd (omega (arith, i.stage))
  finished-right s e (in10 i) f = absurd (omega (arith, i.stage))
  finished-right s e (in11 i) f = rw e at i.right

  -- in the words of the table
  right-words : (s : State) → s.table ≡ table_of input →
      LabelsRight.Right input.units (links_in input) (ends_of input.words) s.labels.label → SurveyRight input s
  right-words s e r =
      record {
        labels =
            λ j k lj lk d.
            let w = r.together j k lj lk d in
            let o = on_ring_same (Link (links_in input) (ends_of input.words)) (Link (links_in input) input.words)
            (same-links input S.accepted) (end_a input.words j) (end_b input.words j) (end_a input.words k)
            (end_b input.words k) in
            let q : (at s.labels.label j ≡ at s.labels.label k)
            ↔ OnRing (Link (links_in input) (ends_of input.words)) (end_a input.words j) (end_b input.words j)
            (end_a input.words k) (end_b input.words k) =
            rw (
              end-a input S.accepted j lj,
              end-b input S.accepted j lj,
              end-a input S.accepted k lk,
              end-b input S.accepted k lk,
            ) at w in
            (λ x. o.0 (q.0 x), λ x. q.1 (o.1 x));
        firsts = r.firsts;
        lones =
            λ j l.
            let o = no_ring_same (Link (links_in input) (ends_of input.words)) (Link (links_in input) input.words)
            (same-links input S.accepted) (end_a input.words j) (end_b input.words j) in
            let q : (lone (links_in input) s.labels.label j ≡ true)
            ↔ ((c : List ℕ) → Ring (Link (links_in input) (ends_of input.words)) c →
            Holds c (end_a input.words j) (end_b input.words j) → ⊥) =
            rw (end-a input S.accepted j l, end-b input S.accepted j l) at (r.bridges j l) in
            rw e (λ x. o.0 (q.0 x), λ x. q.1 (o.1 x));
        singles =
            λ u l.
            let o = articulation-same (Link (links_in input) (ends_of input.words))
            (Link (links_in input) input.words) (same-links input S.accepted) u in
            rw e (λ x. o.0 ((r.cuts u l).0 x), λ x. (r.cuts u l).1 (o.1 x));
      }

  -- whenever it is finished
  pub end-right : (k : ℕ) → (Step.steps k s₀).clock.stage ≡ FINISHED → SurveyRight input (Step.steps k s₀)
  end-right k f =
      right-words (Step.steps k s₀) (table-steps S k)
      (finished-right (Step.steps k s₀) (table-steps S k) (reached-steps S k) f)

  -- From every start: the survey comes to the end after `total` rounds and no fewer, at most the first countdown; all
  -- rounds and requests stay within their limits; and the finished survey is right.
  pub survey-right : Total s₀ (total s₀)
      × (total s₀ ≤ Step.countdown s₀)
      × (Step.countdown s₀ ≤ MAX-ROUNDS)
      × SurveyRight input (Step.steps (total s₀) s₀)
  survey-right = (
    total-least s₀ S.kept,
    total-countdown s₀,
    S.shown,
    end-right (total s₀) (total-least s₀ S.kept).ends,
  )
