-- One round of stage 7 on the tables that it changes, and that it is a step of the state.
use Rattle.std.specs.Prelude.{◌≡◌, refl, Bool, true, false, cond, ◌&&◌, ◌⊎◌, List, ℕ, ◌+◌, ◌-◌, ◌<◌, min, max, eqb}
use Rattle.std.proofs.Common.{inl, inr, arith}
use borrow.Author.Tests.{eq-eqb, ne_eqb}
use Rattle.base_lists.specs.All.{cond-keeps}
use Rattle.base_lists.specs.Tests.{either}
use Rattle.base_log2.specs.Lg.{lg}
use Rattle.base_log2.specs.LgLaws.{lg-least}
use Rattle.table.proofs.Passes.{passes}
use Rattle.spec_rules.specs.Fits.{links_fit}
use Rattle.spec_rules.specs.Range.{global_first, range_first, little_first, big_first, range_later, little_later}
use Rattle.spec_rules.specs.Range.{big_later}
use Rattle.spec_rules.specs.Range.{global_later, range_ends}
use Rattle.spec_state.specs.declared.groups.Clock.{Clock}
use Rattle.spec_machine.specs.State
use Rattle.spec_machine.specs.State.{State, units, links, FINISHED}
use Rattle.spec_machine.specs.WellFormed.{well_formed}
use Rattle.spec_machine.specs.Kept.{Kept, kept-exact}
use Rattle.spec_machine.specs.StepKept.{made-below}
use Rattle.spec_machine.specs.Step
use Rattle.spec_machine.specs.Step.{next_clock}
use Rattle.spec_machine.specs.InStage.{in_stage, last_at}
use Rattle.spec_machine.specs.StageSteps.{Stage, step_by, on-links}
use Rattle.stage07_range.specs.declared.Ran.{Ran}

-- the stage makes a round: its links fit, and the clock stands in it
abbrev pub on : ℕ → ℕ → List ℕ → Ran → Bool
on n m ends x = links_fit n m ends && in_stage n 7 x.clock

-- the first round, and a later one, i; the code counts sixteen doublings, more than any state makes
unfoldable pub one : ℕ → ℕ → List ℕ → List ℕ → List ℕ → List ℕ → Ran → Ran
one n m ends parent nd pre x =
    let after = next_clock (last_at n (range_ends n x.clock.made) x.clock) 0 x.clock in
    let i = min (x.clock.made - 1) 16 in
    cond (eqb x.clock.made 0)
    (record {
      low = range_first min n m ends parent nd pre x.low;
      high = range_first max n m ends parent nd pre x.high;
      little = little_first n pre x.little;
      big = big_first n nd pre x.big;
      least = global_first min n m ends parent pre x.least;
      greatest = global_first max n m ends parent pre x.greatest;
      clock = after;
      made = x.made + 1;
    })
    (record {
      low = range_later min i n x.least x.little x.big x.low;
      high = range_later max i n x.greatest x.little x.big x.high;
      little = little_later i n x.big x.little;
      big = big_later i n x.little x.big;
      least = global_later min i n x.least;
      greatest = global_later max i n x.greatest;
      clock = after;
      made = x.made + 1;
    })

-- a round by its tables and its clock: the first, and a later one
module _ (n m : ℕ) (ends parent nd pre : List ℕ) (x : Ran) (low high little big least greatest : List ℕ)
    (clock : Clock) where
  pub begun : x.clock.made ≡ 0 → low ≡ range_first min n m ends parent nd pre x.low
      → high ≡ range_first max n m ends parent nd pre x.high → little ≡ little_first n pre x.little →
      big ≡ big_first n nd pre x.big
      → least ≡ global_first min n m ends parent pre x.least →
      greatest ≡ global_first max n m ends parent pre x.greatest
      → clock ≡ next_clock (last_at n (range_ends n x.clock.made) x.clock) 0 x.clock
      → record {
        low = low;
        high = high;
        little = little;
        big = big;
        least = least;
        greatest = greatest;
        clock = clock;
        made = x.made + 1;
      } ≡ one n m ends parent nd pre x
  unfolding one
  begun h a b c d e f k = rw (a, b, c, d, e, f, k, eq-eqb x.clock.made 0 h)

  pub turned : (x.clock.made ≡ 0 → ⊥) →
      low ≡ range_later min (min (x.clock.made - 1) 16) n x.least x.little x.big x.low
      → high ≡ range_later max (min (x.clock.made - 1) 16) n x.greatest x.little x.big x.high
      → little ≡ little_later (min (x.clock.made - 1) 16) n x.big x.little →
      big ≡ big_later (min (x.clock.made - 1) 16) n x.little x.big
      → least ≡ global_later min (min (x.clock.made - 1) 16) n x.least →
      greatest ≡ global_later max (min (x.clock.made - 1) 16) n x.greatest
      → clock ≡ next_clock (last_at n (range_ends n x.clock.made) x.clock) 0 x.clock
      → record {
        low = low;
        high = high;
        little = little;
        big = big;
        least = least;
        greatest = greatest;
        clock = clock;
        made = x.made + 1;
      } ≡ one n m ends parent nd pre x
  unfolding one
  turned h a b c d e f k = rw (a, b, c, d, e, f, k, ne_eqb x.clock.made 0 h)

-- the state with these tables and clock
abbrev pub into : State → Ran → State
into s x =
    State.with_clock x.clock
    (State.with_range (record { low = x.low; high = x.high; little = x.little; big = x.big })
    (State.with_global (record { low = x.least; high = x.greatest }) s))

pub stage : (s : State)
    → Stage 7 (units s) (links_fit (units s) (links s) s.table.ends) (λ (x : Ran). x.clock)
    (one (units s) (links s) s.table.ends s.tree.parent s.order.nd s.order.pre) (λ (x : Ran). x.made)
    (into s)
unfolding one last_at Step.range Step.range_begun Step.range_doubled
stage s =
    on-links s (omega arith) (λ x. refl) (λ x. refl)
    (λ x. cond-keeps (λ (y : Ran). y.made ≡ x.made + 1) (eqb x.clock.made 0) _ _ refl refl)
    (λ x w e. steps x w e (either (eqb x.clock.made 0)))
  where
    made : Ran → Ran
    made x = one (units s) (links s) s.table.ends s.tree.parent s.order.nd s.order.pre x

    -- at most 256 units: at most 8 doublings
    doublings : (x : Ran) → well_formed (into s x) ≡ true → x.clock.stage ≡ 7 →
        min (x.clock.made - 1) 16 ≡ x.clock.made - 1
    doublings x w e =
        let k : Kept (into s x) = (kept-exact (into s x)).0 w in
        let below : x.clock.made < 1 + lg (units s)
        = rw e at (made-below (into s x) k (λ (f : x.clock.stage ≡ FINISHED). omega arith)) in
        omega (arith, below, lg-least (units s) 8 (passes (units s) (State.words s) k.passes).few_units)

    steps : (x : Ran) → well_formed (into s x) ≡ true → x.clock.stage ≡ 7
        → (eqb x.clock.made 0 ≡ true) ⊎ (eqb x.clock.made 0 ≡ false) → into s (made x) ≡ Step.step (into s x)
    steps x w e (inl h) = rw (step_by 7 tt (into s x) e, h)
    steps x w e (inr h) = rw (step_by 7 tt (into s x) e, h, doublings x w e)
