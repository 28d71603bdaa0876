-- What one load and one tick do to each seat, and what a list of them does to one.
use Rattle.std.specs.Prelude.{◌≡◌, true, false, not, ◌&&◌, ◌||◌, ◌⊎◌, List, [], ◌∷◌, ℕ, zero, suc, ◌+◌, ◌-◌, ◌<◌}
use Rattle.std.specs.Prelude.{length, set}
use Rattle.std.proofs.Math.Path.{refl}
use Rattle.std.proofs.Common.{sym, ◌∙◌, inl, inr, arith, length-set, get_or-set_same, get_or-set_other}
use Rattle.std.proofs.Math.Bool.{Bool}
use Rattle.std.proofs.Math.Decide.{ℕ_discrete, dec_lt}
use Rattle.std.proofs.Math.Dec.{eqb, ltb}
use borrow.Author.Tests.{eqb-true, eq-eqb, ne_eqb, ltb-true, lt-ltb, not-true, not-false}
use Rattle.base_lists.specs.Folds.{some}
use Rattle.base_lists.specs.Some.{some-exact, some-none}
use Rattle.base_lists.specs.Tests.{either, and_left, and_right, or_false-left, or_false-right, refuted}
use Rattle.table.specs.RefusalLaws.{passed-test}
use Rattle.spec_machine.specs.State.{State, finished}
use Rattle.spec_machine.specs.Load.{unloaded}
use Rattle.spec_machine.specs.Step.{step}
use Rattle.spec_channel.specs.Turns.{Next}
use Rattle.spec_channel.proofs.TurnLaws.{picked_next}
use Rattle.spec_channel.specs.Office

-- ---- a survey that waits

pub waiting-parts : (s : State) → Office.waiting s ≡ true → (Office.empty s ≡ false) × (finished s ≡ false)
unfolding Office.waiting
waiting-parts s e = (
  not-true (Office.empty s) (and_left (not (Office.empty s)) (not (finished s)) e),
  not-true (finished s) (and_right (not (Office.empty s)) (not (finished s)) e),
)

-- ---- a load of a seat

module _ (i : ℕ) (load : Office.Loading) where
  -- 23 exactly for a seat above 7; else the load's own number
  pub seat-missing : 7 < i → Office.seat_refusal i load ≡ 23
  unfolding Office.seat_refusal
  seat-missing h = rw (lt-ltb 7 i h) refl

  pub seat-there : i < 8 → Office.seat_refusal i load ≡ Office.own_refusal load
  unfolding Office.seat_refusal
  seat-there h = rw (refuted (ltb 7 i) (λ e. omega (arith, ltb-true 7 i e))) refl

  pub seat-accepted : Office.seat_refusal i load ≡ 0 → (i < 8) × (Office.own_refusal load ≡ 0)
  seat-accepted e = go (dec_lt i 8)
    where
      go : Dec (i < 8) → (i < 8) × (Office.own_refusal load ≡ 0)
      go (yes h) = (h, sym (seat-there h) ∙ e)
      go (no h) = let z : ◌≡◌ {A = ℕ} 23 0 = sym (seat-missing (omega arith)) ∙ e in absurd (omega arith)

module _ (i : ℕ) (load : Office.Loading) (o : Office.Office) where
  pub load_made : Office.seat_refusal i load ≡ 0 →
      Office.load_seat i load o ≡ record { seats = set o.seats i (Office.survey_of load); last = o.last }
  unfolding Office.load_seat
  load_made e = rw (eq-eqb (Office.seat_refusal i load) 0 e) refl

  pub load_refused : (Office.seat_refusal i load ≡ 0 → ⊥) → Office.load_seat i load o ≡ o
  unfolding Office.load_seat
  load_refused h = rw (ne_eqb (Office.seat_refusal i load) 0 h) refl

  -- a seat that isn't loaded again stays, and so do the number of seats and the turn
  pub load_other : (j : ℕ) → (i ≡ j → Office.seat_refusal i load ≡ 0 → ⊥) →
      Office.seat j (Office.load_seat i load o) ≡ Office.seat j o
  load_other j h = go (ℕ_discrete (Office.seat_refusal i load) 0)
    where
      go : Dec (Office.seat_refusal i load ≡ 0) → Office.seat j (Office.load_seat i load o) ≡ Office.seat j o
      go (no n) = rw (load_refused n) refl
      go (yes e) = rw (load_made e) (get_or-set_other o.seats i j (Office.survey_of load) unloaded (λ q. h (sym q) e))

  pub load_turn : (Office.load_seat i load o).last ≡ o.last
  load_turn = go (ℕ_discrete (Office.seat_refusal i load) 0)
    where
      go : Dec (Office.seat_refusal i load ≡ 0) → (Office.load_seat i load o).last ≡ o.last
      go (no n) = rw (load_refused n) refl
      go (yes e) = rw (load_made e) refl

  pub load_length : length (Office.load_seat i load o).seats ≡ length o.seats
  load_length = go (ℕ_discrete (Office.seat_refusal i load) 0)
    where
      go : Dec (Office.seat_refusal i load ≡ 0) → length (Office.load_seat i load o).seats ≡ length o.seats
      go (no n) = rw (load_refused n) refl
      go (yes e) = rw (load_made e) (length-set o.seats i (Office.survey_of load))

  pub load_same : length o.seats ≡ 8 → Office.seat_refusal i load ≡ 0 →
      Office.seat i (Office.load_seat i load o) ≡ Office.survey_of load
  load_same l e = let h = (seat-accepted i load e).0 in rw (load_made e)
      (get_or-set_same o.seats i (Office.survey_of load) unloaded (omega (arith, h, l)))

-- some seat passes a test, or none does
pub some_or_none : (p : ℕ → Bool) → ((i : ℕ) × (i < 8) × (p i ≡ true)) ⊎ ((i : ℕ) → i < 8 → p i ≡ false)
some_or_none p = go (either (some 8 p))
  where
    go : (some 8 p ≡ true) ⊎ (some 8 p ≡ false) → ((i : ℕ) × (i < 8) × (p i ≡ true)) ⊎ ((i : ℕ) → i < 8 → p i ≡ false)
    go (inl e) = inl ((some-exact 8 p).0 e)
    go (inr e) = inr (some-none 8 p e)

-- ---- a tick

module _ (o : Office.Office) where
  pub tick-made : Office.tick_refusal o ≡ 0 → Office.tick o ≡ Office.given (Office.served o) o
  unfolding Office.tick
  tick-made e = rw (eq-eqb (Office.tick_refusal o) 0 e) refl

  pub tick-refused : (Office.tick_refusal o ≡ 0 → ⊥) → Office.tick o ≡ o
  unfolding Office.tick
  tick-refused h = rw (ne_eqb (Office.tick_refusal o) 0 h) refl

  pub tick-length : length (Office.tick o).seats ≡ length o.seats
  tick-length = go (ℕ_discrete (Office.tick_refusal o) 0)
    where
      go : Dec (Office.tick_refusal o ≡ 0) → length (Office.tick o).seats ≡ length o.seats
      go (no n) = rw (tick-refused n) refl
      go (yes e) = rw (tick-made e) (length-set o.seats (Office.served o) _)

  -- what a tick that is not refused found
  pub tick-passed : Office.tick_refusal o ≡ 0
      → (ltb 7 o.last ≡ false) × (some 8 (λ (i : ℕ). Office.spoilt (Office.seat i o)) ≡ false)
      × (some 8 (λ (i : ℕ). Office.waiting (Office.seat i o)) ≡ true)
  unfolding Office.tick_refusal
  tick-passed e =
      let a = ltb 7 o.last in
      let b = some 8 (λ (i : ℕ). Office.spoilt (Office.seat i o)) in
      let c = some 8 (λ (i : ℕ). Office.waiting (Office.seat i o)) in
      let p = passed-test (a || b) 10 _ (omega arith) e in
      let q = passed-test (not c) 11 _ (omega arith) p.1 in
      (or_false-left a b p.0, or_false-right a b p.0, not-false c q.0)

  pub served-next : Office.tick_refusal o ≡ 0 → Next o.last (Office.waits o) (Office.served o)
  served-next e =
      let (i, h, w) = (some-exact 8 (λ (i : ℕ). Office.waiting (Office.seat i o))).0 (tick-passed e).2 in
      picked_next o.last (Office.waits o) i h w

  pub served-below : Office.tick_refusal o ≡ 0 → Office.served o < 8
  served-below e = let n = served-next e in rw n.place (omega arith)

  -- the seat served makes a round, the others stay
  pub tick-same : length o.seats ≡ 8 → Office.tick_refusal o ≡ 0 →
      Office.seat (Office.served o) (Office.tick o) ≡ step (Office.seat (Office.served o) o)
  tick-same l e =
      let h = served-below e in
      rw (tick-made e) (get_or-set_same o.seats (Office.served o) (step (Office.seat (Office.served o) o)) unloaded
      (omega (arith, h, l)))

  pub tick-other : (j : ℕ) → (Office.tick_refusal o ≡ 0 → Office.served o ≡ j → ⊥) →
      Office.seat j (Office.tick o) ≡ Office.seat j o
  tick-other j h = go (ℕ_discrete (Office.tick_refusal o) 0)
    where
      go : Dec (Office.tick_refusal o ≡ 0) → Office.seat j (Office.tick o) ≡ Office.seat j o
      go (no n) = rw (tick-refused n) refl
      go (yes e) =
          rw (tick-made e)
          (get_or-set_other o.seats (Office.served o) j (step (Office.seat (Office.served o) o)) unloaded
          (λ q. h e (sym q)))

  -- the round that a tick gives
  pub round-given : (i : ℕ) → Office.tick_refusal o ≡ 0 → Office.served o ≡ i → Office.round_of i o ≡ 1
  unfolding Office.round_of
  round-given i e q = rw (eq-eqb (Office.tick_refusal o) 0 e, eq-eqb (Office.served o) i q) refl

  pub round-none : (i : ℕ) → (Office.tick_refusal o ≡ 0 → Office.served o ≡ i → ⊥) → Office.round_of i o ≡ 0
  unfolding Office.round_of
  round-none i h = rw (refuted (a && b) (λ t. h (eqb-true (Office.tick_refusal o) 0 (and_left a b t))
      (eqb-true (Office.served o) i (and_right a b t)))) refl
    where
      a : Bool
      a = eqb (Office.tick_refusal o) 0

      b : Bool
      b = eqb (Office.served o) i

-- ---- the rounds of one seat

-- from s to e by k rounds, each of a survey that waits
pub data Rounds : ℕ → State → State → Type 0 where
  none : {s : State} → Rounds zero s s
  one : {k : ℕ} {s e : State} → Office.waiting s ≡ true → Rounds k (step s) e → Rounds (suc k) s e

pub rounds-made : (i : ℕ) (es : List Office.Event) (o : Office.Office) → length o.seats ≡ 8 → Office.NotAgain i es
    → Rounds (Office.rounds_of i es o) (Office.seat i o) (Office.seat i (Office.play es o))
rounds-made i [] o l a = none
rounds-made i (Office.loads j load ∷ es) o l a =
    let r = rounds-made i es (Office.load_seat j load o) (load_length j load o ∙ l) a.1 in
    rw (load_other j load o i a.0) at r
rounds-made i (Office.ticks ∷ es) o l a =
    go (ℕ_discrete (Office.tick_refusal o) 0) (ℕ_discrete (Office.served o) i)
    (rounds-made i es (Office.tick o) (tick-length o ∙ l) a)
  where
    same : 0 + Office.rounds_of i es (Office.tick o) ≡ Office.rounds_of i es (Office.tick o)
    same = omega arith

    go : Dec (Office.tick_refusal o ≡ 0) → Dec (Office.served o ≡ i) →
        Rounds (Office.rounds_of i es (Office.tick o)) (Office.seat i (Office.tick o))
        (Office.seat i (Office.play es (Office.tick o)))
        → Rounds (Office.round_of i o + Office.rounds_of i es (Office.tick o)) (Office.seat i o)
        (Office.seat i (Office.play es (Office.tick o)))
    go (yes e) (yes q) r =
        let due : Office.waiting (Office.seat i o) ≡ true = rw q at (served-next o e).due in
        let made : Office.seat i (Office.tick o) ≡ step (Office.seat i o) = rw q at (tick-same o l e) in
        let more : 1 + Office.rounds_of i es (Office.tick o) ≡ suc (Office.rounds_of i es (Office.tick o)) =
        omega arith in
        rw (round-given o i e q, more) (one due (rw made at r))
    go (yes e) (no q) r = rw (round-none o i (λ _ p. q p), same) (rw (tick-other o i (λ _ p. q p)) at r)
    go (no e) d r = rw (round-none o i (λ p _. e p), same) (rw (tick-other o i (λ p _. e p)) at r)
