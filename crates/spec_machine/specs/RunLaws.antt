-- Laws of steps and runs: a run makes as many steps as it says, stops at its budget or at the end and not before, and
-- from a well-formed state as many rounds as the countdown shows come to the end.
use Rattle.std.specs.Prelude.{◌≡◌, refl, Bool, true, false, cond, ◌⊎◌, ◌↔◌, ℕ, zero, suc, ◌+◌, ◌-◌, ◌≤◌, ◌<◌}
use Rattle.std.proofs.Common.{sym, ap, ◌∙◌, inl, inr, add-suc, suc-add, add-zero, zero-add, not-suc-le-zero, add-one}
use Rattle.std.proofs.Common.{arith, eqb-true, eq-eqb}
use Rattle.std.proofs.Math.Decide.{dec_lt, dec_le, ℕ_discrete}
use Rattle.std.proofs.lemmas.Bool.{eqb-false}
use Rattle.base_lists.specs.Tests.{either, not_both, cond_true, cond_false}
use Rattle.spec_machine.specs.State.{State}
use Rattle.spec_machine.specs.State.{finished, FINISHED}
use Rattle.spec_machine.specs.WellFormed.{well_formed}
use Rattle.spec_machine.specs.Step.{step, steps, countdown}
use Rattle.spec_machine.specs.StepLaws.{step-well_formed, step-countdown, countdown_zero}
use Rattle.spec_machine.specs.Run.{ran}

-- ---- steps

pub steps-add : (a b : ℕ) (s : State) → steps (a + b) s ≡ steps b (steps a s)
unfolding steps
steps-add zero b s = rw zero-add refl
steps-add (suc a) b s = rw suc-add (steps-add a b (step s))

-- one step more at the end
pub steps_suc : (k : ℕ) (s : State) → steps (suc k) s ≡ step (steps k s)
unfolding steps
steps_suc zero s = refl
steps_suc (suc k) s = steps_suc k (step s)

-- a finished survey stays as it is
pub step-finished : (s : State) → finished s ≡ true → step s ≡ s
unfolding step
step-finished s e = rw e refl

pub steps-finished : (k : ℕ) (s : State) → finished s ≡ true → steps k s ≡ s
unfolding steps
steps-finished zero s e = refl
steps-finished (suc k) s e = rw (step-finished s e) (steps-finished k s e)

-- ---- well-formed states

pub steps-well_formed : (k : ℕ) (s : State) → well_formed s ≡ true → well_formed (steps k s) ≡ true
unfolding steps
steps-well_formed zero s w = w
steps-well_formed (suc k) s w = go (either (finished s)) (steps-well_formed k)
  where
    go : (finished s ≡ true) ⊎ (finished s ≡ false) →
        ((s' : State) → well_formed s' ≡ true → well_formed (steps k s') ≡ true) → well_formed (steps k (step s)) ≡ true
    go (inl f) later = rw (step-finished s f) (later s w)
    go (inr f) later = later (step s) (step-well_formed s w f)

-- ---- what a run makes

-- s' is what j steps from s leave, within the budget, stopping there or at the end and not before
pub record Made (budget : ℕ) (s s' : State) (j : ℕ) : Type 0 where
  pub state : s' ≡ steps j s
  pub within : j ≤ budget
  pub stops : (j ≡ budget) ⊎ (finished s' ≡ true)
  pub going : (i : ℕ) → i < j → finished (steps i s) ≡ false

-- the rounds that came before are added
ran-before : (budget k : ℕ) (s : State) →
    ((ran budget k s).0 ≡ (ran budget 0 s).0) × ((ran budget k s).1 ≡ (ran budget 0 s).1 + k)
unfolding ran
ran-before zero k s = (refl, sym (zero-add k))
ran-before (suc budget) k s = go (either (finished s)) (λ i. ran-before budget i (step s))
  where
    go : (finished s ≡ true) ⊎ (finished s ≡ false)
        → ((i : ℕ) → ((ran budget i (step s)).0 ≡ (ran budget 0 (step s)).0)
        × ((ran budget i (step s)).1 ≡ (ran budget 0 (step s)).1 + i))
        → ((ran (suc budget) k s).0 ≡ (ran (suc budget) 0 s).0)
        × ((ran (suc budget) k s).1 ≡ (ran (suc budget) 0 s).1 + k)
    go (inl f) later = rw f (refl, sym (zero-add k))
    go (inr f) later = rw f ((later (suc k)).0 ∙ sym (later 1).0, omega (arith, (later (suc k)).1, (later 1).1))

pub ran-made : (budget : ℕ) (s : State) → Made budget s (ran budget 0 s).0 (ran budget 0 s).1
unfolding ran steps
ran-made zero s = record {
  state = refl;
  within = omega arith;
  stops = inl refl;
  going = λ i l. absurd (not-suc-le-zero l);
}
ran-made (suc budget) s = go (either (finished s)) (ran-made budget (step s)) (ran-before budget 1 (step s))
  where
    first : finished s ≡ false → ((i : ℕ) → i < (ran budget 0 (step s)).1 → finished (steps i (step s)) ≡ false) →
        (i : ℕ) → i < (ran budget 0 (step s)).1 + 1 → finished (steps i s) ≡ false
    first f later zero l = f
    first f later (suc i) l = later i (omega arith)

    go : (finished s ≡ true) ⊎ (finished s ≡ false) →
        Made budget (step s) (ran budget 0 (step s)).0 (ran budget 0 (step s)).1
        → ((ran budget 1 (step s)).0 ≡ (ran budget 0 (step s)).0)
        × ((ran budget 1 (step s)).1 ≡ (ran budget 0 (step s)).1 + 1)
        → Made (suc budget) s (ran (suc budget) 0 s).0 (ran (suc budget) 0 s).1
    go (inl f) m b = rw f (record {
      state = refl;
      within = omega arith;
      stops = inr f;
      going = λ i l. absurd (not-suc-le-zero l);
    })
    go (inr f) m b =
        rw (f, b.0, b.1)
        (record {
          state = rw (add-one (ran budget 0 (step s)).1) m.state;
          within = omega (arith, m.within);
          stops = stop m.stops;
          going = first f m.going;
        })
      where
        stop : ((ran budget 0 (step s)).1 ≡ budget) ⊎ (finished (ran budget 0 (step s)).0 ≡ true)
            → ((ran budget 0 (step s)).1 + 1 ≡ suc budget) ⊎ (finished (ran budget 0 (step s)).0 ≡ true)
        stop (inl e) = inl (omega arith)
        stop (inr e) = inr e

-- ---- the number of rounds to the end

-- the least count of steps that ends the survey
pub record Total (s : State) (k : ℕ) : Type 0 where
  pub ends : (steps k s).clock.stage ≡ FINISHED
  pub least : (i : ℕ) → i < k → (steps i s).clock.stage ≡ FINISHED → ⊥

-- computed by running with the countdown as the budget
unfoldable pub total : State → ℕ
total s = (ran (countdown s) 0 s).1

-- rounds made and countdown left never exceed the first countdown
pub countdown-steps : (k : ℕ) (s : State) → well_formed s ≡ true → ((i : ℕ) → i < k → finished (steps i s) ≡ false) →
    countdown (steps k s) + k ≤ countdown s
unfolding steps
countdown-steps zero s w h = omega arith
countdown-steps (suc k) s w h =
    let f : finished s ≡ false = h 0 (omega arith) in
    let later : countdown (steps k (step s)) + k ≤ countdown (step s) =
    countdown-steps k (step s) (step-well_formed s w f) (λ i l. h (suc i) (omega arith)) in
    let falls : countdown (step s) < countdown s = step-countdown s w f in
    omega arith

pub total-least : (s : State) → well_formed s ≡ true → Total s (total s)
unfolding total
total-least s w =
    record {
      ends = ended m.stops;
      least = λ i l e. not_both (finished (steps i s)) (eq-eqb (steps i s).clock.stage FINISHED e) (m.going i l);
    }
  where
    m : Made (countdown s) s (ran (countdown s) 0 s).0 (ran (countdown s) 0 s).1
    m = ran-made (countdown s) s

    ended : ((ran (countdown s) 0 s).1 ≡ countdown s) ⊎ (finished (ran (countdown s) 0 s).0 ≡ true) →
        (steps (ran (countdown s) 0 s).1 s).clock.stage ≡ FINISHED
    ended (inr f) = rw (← m.state) (eqb-true (ran (countdown s) 0 s).0.clock.stage FINISHED f)
    ended (inl e) =
        (countdown_zero (steps (ran (countdown s) 0 s).1 s) (steps-well_formed (ran (countdown s) 0 s).1 s w)).0
        (omega (arith, countdown-steps (ran (countdown s) 0 s).1 s w m.going))

pub total-countdown : (s : State) → total s ≤ countdown s
unfolding total
total-countdown s = (ran-made (countdown s) s).within

-- so the end is reached at that count and after it, and not before
pub ended-exact : (s : State) → well_formed s ≡ true → (k : ℕ) → ((steps k s).clock.stage ≡ FINISHED) ↔ (total s ≤ k)
ended-exact s w k = (λ e. late e (dec_lt k (total s)), after)
  where
    late : (steps k s).clock.stage ≡ FINISHED → Dec (k < total s) → total s ≤ k
    late e (yes l) = absurd ((total-least s w).least k l e)
    late e (no l) = omega arith

    after : total s ≤ k → (steps k s).clock.stage ≡ FINISHED
    after l =
        let j : k ≡ total s + (k - total s) = omega arith in
        let f : finished (steps (total s) s) ≡ true =
        eq-eqb (steps (total s) s).clock.stage FINISHED (total-least s w).ends in
        rw (
          j,
          steps-add (total s) (k - total s) s,
          steps-finished (k - total s) (steps (total s) s) f,
        ) (total-least s w).ends
