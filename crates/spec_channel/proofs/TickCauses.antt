-- Why a tick is refused, in the words of T-12, and that each test decides its cause.
use Rattle.std.specs.Prelude.{◌≡◌, Bool, true, not, ◌||◌, ◌⊎◌, ◌↔◌, List, [], ◌∷◌, ℕ, ◌<◌, eqb, ltb}
use Rattle.std.proofs.Common.{arith, ltb-true, lt-ltb}
use Rattle.base_lists.specs.Folds.{some}
use Rattle.base_lists.specs.Some.{some-exact}
use Rattle.base_lists.specs.Tests.{and_exact, or_exact, not_exact}
use Rattle.table.specs.RefusalLaws.{Reason, FirstCause, SomeCause, first-cause, some-cause}
use Rattle.spec_rules.specs.BoundLaws.{eq_exact}
use Rattle.spec_machine.specs.State.{State, units, finished, FINISHED}
use Rattle.spec_machine.specs.Kept.{Kept, kept-exact}
use Rattle.spec_machine.specs.WellFormed.{well_formed}
use Rattle.spec_channel.specs.Office

-- no survey: neither units nor a stage
abbrev pub Empty : State → Type 0
Empty s = (units s ≡ 0) × (s.clock.stage ≡ 0)

pub empty-exact : (s : State) → (Office.empty s ≡ true) ↔ Empty s
unfolding Office.empty
empty-exact s = and_exact (eqb (units s) 0) (eqb s.clock.stage 0) (eq_exact (units s) 0)
    (eq_exact s.clock.stage 0)

-- a loaded survey that isn't finished; a loaded one that isn't kept
abbrev pub Waits : State → Type 0
Waits s = (Empty s → ⊥) × (s.clock.stage ≡ FINISHED → ⊥)

abbrev pub Spoilt : State → Type 0
Spoilt s = (Empty s → ⊥) × (Kept s → ⊥)

pub waits-exact : (s : State) → (Office.waiting s ≡ true) ↔ Waits s
unfolding Office.waiting
waits-exact s =
    and_exact (not (Office.empty s)) (not (finished s)) (not_exact (Office.empty s) (empty-exact s))
    (not_exact (finished s) (eq_exact s.clock.stage FINISHED))

pub spoilt-exact : (s : State) → (Office.spoilt s ≡ true) ↔ Spoilt s
unfolding Office.spoilt
spoilt-exact s =
    and_exact (not (Office.empty s)) (not (well_formed s)) (not_exact (Office.empty s) (empty-exact s))
    (not_exact (well_formed s) (kept-exact s))

pub some_is : (p : ℕ → Bool) (P : ℕ → Type 0) → ((i : ℕ) → (p i ≡ true) ↔ P i) →
    (some 8 p ≡ true) ↔ ((i : ℕ) × (i < 8) × P i)
some_is p P x = (
  λ e. let (i, h, q) = (some-exact 8 p).0 e in (i, h, (x i).0 q),
  λ w. (some-exact 8 p).1 (w.0, w.1, (x w.0).1 w.2),
)

-- 10: the turn names no seat, or some loaded seat has a survey that isn't kept
abbrev pub unsound : Office.Office → Reason
unsound o =
    record {
      number = 10;
      test = ltb 7 o.last || some 8 (λ (i : ℕ). Office.spoilt (Office.seat i o));
      cause = (7 < o.last) ⊎ ((i : ℕ) × (i < 8) × Spoilt (Office.seat i o));
      exact = or_exact (ltb 7 o.last) (some 8 (λ (i : ℕ). Office.spoilt (Office.seat i o))) (
        ltb-true 7 o.last,
        lt-ltb 7 o.last,
      ) (some_is (λ (i : ℕ). Office.spoilt (Office.seat i o))
          (λ (i : ℕ). Spoilt (Office.seat i o)) (λ (i : ℕ). spoilt-exact (Office.seat i o)));
    }

-- 11: every seat is finished, an empty one too
abbrev pub all_finished : Office.Office → Reason
all_finished o =
    record {
      number = 11;
      test = not (some 8 (λ (i : ℕ). Office.waiting (Office.seat i o)));
      cause = (i : ℕ) × (i < 8) × Waits (Office.seat i o) → ⊥;
      exact = not_exact (some 8 (λ (i : ℕ). Office.waiting (Office.seat i o)))
          (some_is (λ (i : ℕ). Office.waiting (Office.seat i o)) (λ (i : ℕ). Waits (Office.seat i o))
          (λ (i : ℕ). waits-exact (Office.seat i o)));
    }

-- 10, 11
abbrev pub tick_reasons : Office.Office → List Reason
tick_reasons o = unsound o ∷ all_finished o ∷ []

pub tick-first_cause : (o : Office.Office) (k : ℕ) → (k ≡ 0 → ⊥) →
    (Office.tick_refusal o ≡ k) ↔ FirstCause (tick_reasons o) k
unfolding Office.tick_refusal
tick-first_cause o k h = first-cause (tick_reasons o) k h

pub tick-some_cause : (o : Office.Office) → (Office.tick_refusal o ≡ 0 → ⊥) ↔ SomeCause (tick_reasons o)
unfolding Office.tick_refusal
tick-some_cause o = some-cause (tick_reasons o) (omega arith)
