-- After a load none of the three things of document 01 occurs, and no ceiling cuts a stage short: every round that a
-- load leads to is the exact one.
use Rattle.std.specs.Prelude.{◌≡◌, Bool, cond, List}
use Rattle.std.proofs.Math.Path.{refl}
use Rattle.std.proofs.Common.{sym, ap, ◌∙◌, arith}
use Rattle.std.proofs.Math.Bool.{true}
use Rattle.std.proofs.Math.Option.{some}
use Prim.Native.Nat.{ℕ, zero, suc, ◌+◌, ◌≤◌, ◌<◌, min}
use Rattle.std.proofs.Math.Decide.{dec_lt}
use borrow.Author.Tests.{eq-eqb, ne_eqb}
use Rattle.table.specs.Table.{stored_refusal}
use Rattle.spec_machine.specs.State.{State}
use Rattle.spec_state.specs.declared.groups.Clock.{Clock}
use Rattle.spec_machine.specs.State.{finished, FINISHED, MAX-ROUNDS, MAX-REQUESTS}
use Rattle.spec_machine.specs.Load.{Input}
use Rattle.spec_machine.specs.Step
use Rattle.spec_machine.specs.StageLaws.{ticked, step-at, ends-at}
use Rattle.spec_machine.specs.RunLaws.{steps_suc, step-finished, ended-exact, total, total-least, total-countdown}
use Rattle.theory_reach.specs.Invariant.{Base, In6, Reached, in1, in2, in3, in4, in5, in6, in7, in8, in9, in10}
use Rattle.theory_reach.specs.Invariant.{in11}
use Rattle.theory_reach.specs.RankingOf.{first-potential, second-potential}
use Rattle.theory_reach.specs.Ticks.{Goes}
use Rattle.theory_reach.specs.Started.{Started}
use Rattle.theory_reach.specs.Reach.{base-steps, reached-steps, goes_on, rounds-steps}
use Rattle.theory_reach.specs.Partial.{conds}
use Rattle.theory_reach.specs.ExactStep
use Rattle.theory_reach.specs.ExactStep.{step_exact, steps_exact, exact_clock}
use Rattle.theory_reach.specs.ExactTables.{ends-exact, requests-exact, components-exact, tree-exact, tour-exact}
use Rattle.theory_reach.specs.ExactTables.{ranking-exact, marks-exact, places-exact, range-exact, edges_exact}
use Rattle.theory_reach.specs.ExactTables.{aux-exact, labels-exact}

-- the exact round makes the tables of the round
record Exact (s : State) : Type 0 where
  ends : ExactStep.rule_ends? s ≡ some (Step.rule_ends s)
  tables : State
  plain : Step.step s ≡ ticked s tables
  exact : ExactStep.round_tables? (Step.rule_ends s) s ≡ some tables

-- at stage k
tables-at : (k : ℕ) (last : Bool) (s : State) → s.clock.stage ≡ k →
    ExactStep.round_tables? last s ≡ ExactStep.tables_at? k last s
unfolding ExactStep.round_tables?
tables-at k last s e = ap (λ (k : ℕ). ExactStep.tables_at? k last s) e

-- ---- every stage

module _ (s : State) (b : Base s) where
  -- at any stage but 9 the end asks for no tree
  ends_else : (k : ℕ) → s.clock.stage ≡ k → (k ≡ 9 → ⊥) → ExactStep.rule_ends? s ≡ some (Step.rule_ends s)
  ends_else k e h = ends-exact s b (λ q. absurd (h (sym e ∙ q)))

  -- the second ranking: places with its last round
  last_6 : (i : In6 s) → Step.last_round s ≡ Step.rule_ends s
      → cond (Step.rule_ends s) (ExactStep.places? s) (ExactStep.ranking? s)
      ≡ some (cond (Step.last_round s) (Step.places s) (Step.ranking s))
  last_6 i u =
      rw u
      (conds (Step.rule_ends s) (λ q. places-exact s b i (sym (ends-at 6 s i.stage) ∙ q))
      (λ q. ranking-exact s (second-potential s b i.treed) i.ranked))

  exact : Reached s → Step.last_round s ≡ Step.rule_ends s → (s.clock.stage ≡ FINISHED → ⊥) → Exact s
  exact (in1 i) u h =
      record {
        ends = ends_else 1 i.stage (omega arith);
        tables = Step.components s;
        plain = step-at 1 tt s i.stage;
        exact = tables-at 1 _ s i.stage ∙ components-exact s b;
      }
  exact (in2 i) u h = record {
    ends = ends_else 2 i.stage (omega arith);
    tables = Step.tree s;
    plain = step-at 2 tt s i.stage;
    exact = tables-at 2 _ s i.stage ∙ tree-exact s b i;
  }
  exact (in3 i) u h =
      record {
        ends = ends_else 3 i.stage (omega arith);
        tables = Step.tour s;
        plain = step-at 3 tt s i.stage;
        exact = tables-at 3 _ s i.stage ∙ tour-exact s b i.treed;
      }
  exact (in4 i) u h =
      record {
        ends = ends_else 4 i.stage (omega arith);
        tables = Step.ranking s;
        plain = step-at 4 tt s i.stage;
        exact = tables-at 4 _ s i.stage ∙ ranking-exact s (first-potential s b i.toured.treed) i.ranked;
      }
  exact (in5 i) u h =
      record {
        ends = ends_else 5 i.stage (omega arith);
        tables = Step.marks s;
        plain = step-at 5 tt s i.stage;
        exact = tables-at 5 _ s i.stage ∙ marks-exact s b i.toured.treed i.held;
      }
  exact (in6 i) u h =
      record {
        ends = ends_else 6 i.stage (omega arith);
        tables = cond (Step.last_round s) (Step.places s) (Step.ranking s);
        plain = step-at 6 tt s i.stage;
        exact = tables-at 6 _ s i.stage ∙ last_6 i u;
      }
  exact (in7 i) u h = record {
    ends = ends_else 7 i.stage (omega arith);
    tables = Step.range s;
    plain = step-at 7 tt s i.stage;
    exact = tables-at 7 _ s i.stage ∙ range-exact s b i;
  }
  exact (in8 i) u h =
      record {
        ends = ends_else 8 i.stage (omega arith);
        tables = Step.aux_edges s;
        plain = step-at 8 tt s i.stage;
        exact = tables-at 8 _ s i.stage ∙ edges_exact s b i.numbered.treed;
      }
  exact (in9 i) u h =
      record {
        ends = ends-exact s b (λ q. i.numbered.treed);
        tables = Step.aux_components s;
        plain = step-at 9 tt s i.stage;
        exact = tables-at 9 _ s i.stage ∙ aux-exact s b i.numbered.treed;
      }
  exact (in10 i) u h = record {
    ends = ends_else 10 i.stage (omega arith);
    tables = Step.labels s;
    plain = step-at 10 tt s i.stage;
    exact = tables-at 10 _ s i.stage ∙ labels-exact s b;
  }
  exact (in11 i) u h = absurd (h i.stage)

-- ---- the round

-- within their limits rounds and requests are added up
clock-exact : (last : Bool) (r : ℕ) (c : Clock) → c.rounds + 1 ≤ MAX-ROUNDS → c.requests + r ≤ MAX-REQUESTS →
    exact_clock last r c ≡ Step.next_clock last r c
unfolding exact_clock Step.next_clock
clock-exact last r c h k =
    let rounds : min (c.rounds + 1) MAX-ROUNDS ≡ c.rounds + 1 = omega arith in
    let requests : min (c.requests + r) MAX-REQUESTS ≡ c.requests + r = omega arith in
    rw (rounds, requests) refl

round_exact : (s : State) → (s.clock.stage ≡ FINISHED → ⊥) → Exact s → Goes s → s.clock.rounds + 1 ≤ MAX-ROUNDS →
    step_exact s ≡ some (Step.step s)
unfolding step_exact
round_exact s h x g l =
    let clock : exact_clock (Step.rule_ends s) (Step.round_requests s) s.clock
    ≡ Step.next_clock (Step.last_round s) (Step.round_requests s) s.clock =
    rw g.uncut (clock-exact (Step.rule_ends s) (Step.round_requests s) s.clock l g.unclamped) in
    rw (ne_eqb s.clock.stage FINISHED h, x.ends, requests-exact s, x.exact, x.plain, clock) refl

-- ---- every round from a start

module _ {input : Input} {s₀ : State} (S : Started input s₀) where
  -- the exact round of every state before the end is defined, and is the round
  step-exact : (k : ℕ) → k < total s₀ → step_exact (Step.steps k s₀) ≡ some (Step.step (Step.steps k s₀))
  step-exact k l =
      let goes : Goes (Step.steps k s₀) = goes_on S k l in
      let going : (Step.steps k s₀).clock.stage ≡ FINISHED → ⊥ = (total-least s₀ S.kept).least k l in
      round_exact (Step.steps k s₀) going
      (exact (Step.steps k s₀) (base-steps S k) (reached-steps S k) goes.uncut going) goes
      (omega (arith, rounds-steps S k (omega arith), total-countdown s₀, S.shown))

  -- a finished survey stays as it is either way
  step-exact-after : (k : ℕ) → total s₀ ≤ k → step_exact (Step.steps k s₀) ≡ some (Step.step (Step.steps k s₀))
  unfolding step_exact
  step-exact-after k l =
      let over : finished (Step.steps k s₀) ≡ true =
      eq-eqb (Step.steps k s₀).clock.stage FINISHED ((ended-exact s₀ S.kept k).1 l) in
      rw (step-finished (Step.steps k s₀) over, over) refl

  -- so the exact round of every state that a load reaches is the round,
  pub every-step_exact : (k : ℕ) → step_exact (Step.steps k s₀) ≡ some (Step.step (Step.steps k s₀))
  every-step_exact k = go (dec_lt k (total s₀))
    where
      go : Dec (k < total s₀) → step_exact (Step.steps k s₀) ≡ some (Step.step (Step.steps k s₀))
      go (yes l) = step-exact k l
      go (no l) = step-exact-after k (omega arith)

  -- and any number of exact rounds lead where the rounds do
  pub steps-exact : (k : ℕ) → steps_exact k s₀ ≡ some (Step.steps k s₀)
  unfolding steps_exact Step.steps
  steps-exact zero = refl
  steps-exact (suc k) = rw (steps-exact k, steps_suc k s₀) (every-step_exact k)
