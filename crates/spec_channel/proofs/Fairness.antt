-- An office in order stays so, and a survey that waits gets a round within eight ticks.
use Rattle.std.specs.Prelude.{◌≡◌, not, ◌||◌, ◌⊎◌, List, [], ◌∷◌, ℕ, ◌+◌, ◌-◌, ◌%◌, ◌≤◌, ◌<◌, ltb, length}
use Rattle.std.proofs.Math.Path.{refl}
use Rattle.std.proofs.Common.{sym, ap, ◌∙◌, inl, inr, arith, ltb-true}
use Rattle.std.proofs.Math.Bool.{true, false}
use Rattle.std.proofs.Math.Decide.{ℕ_discrete, dec_lt}
use Rattle.std.proofs.lemmas.Bool.{not-true}
use Rattle.base_lists.specs.Folds.{some}
use Rattle.base_lists.specs.Some.{some-exact}
use Rattle.base_lists.specs.Tests.{and_left, and_right, refuted, not_both}
use Rattle.spec_machine.specs.State.{State}
use Rattle.spec_machine.specs.WellFormed.{well_formed}
use Rattle.spec_machine.specs.Step.{step}
use Rattle.spec_machine.specs.StepLaws.{step-well_formed}
use Rattle.spec_channel.specs.Turns.{seat_after, Next}
use Rattle.spec_channel.specs.Office
use Rattle.spec_channel.proofs.OfficeLaws
use Rattle.spec_channel.proofs.LoadingLaws.{load_kept}

-- eight seats, each empty or kept, and a turn that names one
pub record InOrder (o : Office.Office) : Type 0 where
  pub eight : length o.seats ≡ 8
  pub turn : o.last < 8
  pub sound : (i : ℕ) → i < 8 → (Office.empty (Office.seat i o) ≡ true) ⊎ (well_formed (Office.seat i o) ≡ true)

sound_unspoilt : (s : State) → (Office.empty s ≡ true) ⊎ (well_formed s ≡ true) → Office.spoilt s ≡ true → ⊥
unfolding Office.spoilt
sound_unspoilt s (inl e) q = not_both (Office.empty s) e
    (not-true (Office.empty s) (and_left (not (Office.empty s)) (not (well_formed s)) q))
sound_unspoilt s (inr e) q = not_both (well_formed s) e
    (not-true (well_formed s) (and_right (not (Office.empty s)) (not (well_formed s)) q))

-- a tick of an office in order has no cause of 10: it is refused only where no survey waits
module _ (o : Office.Office) (I : InOrder o) where
  first_passes : (ltb 7 o.last || some 8 (λ (i : ℕ). Office.spoilt (Office.seat i o))) ≡ false
  first_passes =
      let a : ltb 7 o.last ≡ false = refuted (ltb 7 o.last)
      (λ e. omega (arith, ltb-true 7 o.last e, I.turn)) in
      let b : some 8 (λ (i : ℕ). Office.spoilt (Office.seat i o)) ≡ false =
      refuted (some 8 (λ (i : ℕ). Office.spoilt (Office.seat i o)))
      (λ e. let (i, h, q) = (some-exact 8 (λ (i : ℕ). Office.spoilt (Office.seat i o))).0 e in sound_unspoilt
      (Office.seat i o) (I.sound i h) q) in
      rw (a, b) refl

  pub tick_goes : (i : ℕ) → i < 8 → Office.waits o i ≡ true → Office.tick_refusal o ≡ 0
  unfolding Office.tick_refusal
  tick_goes i h e =
      let b : some 8 (λ (i : ℕ). Office.waiting (Office.seat i o)) ≡ true =
      (some-exact 8 (λ (i : ℕ). Office.waiting (Office.seat i o))).1 (i, h, e) in
      rw (first_passes, b) refl

  pub tick-rests : ((i : ℕ) → i < 8 → Office.waits o i ≡ false) → Office.tick_refusal o ≡ 11
  unfolding Office.tick_refusal
  tick-rests none =
      let b : some 8 (λ (i : ℕ). Office.waiting (Office.seat i o)) ≡ false =
      refuted (some 8 (λ (i : ℕ). Office.waiting (Office.seat i o)))
      (λ e. let (i, h, q) = (some-exact 8 (λ (i : ℕ). Office.waiting (Office.seat i o))).0 e in not_both
      (Office.waiting (Office.seat i o)) q (none i h)) in
      rw (first_passes, b) refl

-- ---- it stays in order

pub load_order : (i : ℕ) (load : Office.Loading) (o : Office.Office) → InOrder o → InOrder (Office.load_seat i load o)
load_order i load o I =
    record {
      eight = OfficeLaws.load_length i load o ∙ I.eight;
      turn = rw (OfficeLaws.load_turn i load o) I.turn;
      sound = λ j h. go j h (ℕ_discrete i j) (ℕ_discrete (Office.seat_refusal i load) 0);
    }
  where
    go : (j : ℕ) → j < 8 → Dec (i ≡ j) → Dec (Office.seat_refusal i load ≡ 0)
        → (Office.empty (Office.seat j (Office.load_seat i load o)) ≡ true)
        ⊎ (well_formed (Office.seat j (Office.load_seat i load o)) ≡ true)
    go j h (yes q) (yes e) =
        let s : Office.seat j (Office.load_seat i load o) ≡ Office.survey_of load =
        rw (sym q) (OfficeLaws.load_same i load o I.eight e) in
        inr (rw s (load_kept load (OfficeLaws.seat-accepted i load e).1))
    go j h (no q) d = rw (OfficeLaws.load_other i load o j (λ p _. q p)) (I.sound j h)
    go j h (yes q) (no e) = rw (OfficeLaws.load_other i load o j (λ _ p. e p)) (I.sound j h)

pub tick-order : (o : Office.Office) → InOrder o → InOrder (Office.tick o)
tick-order o I =
    record {
      eight = OfficeLaws.tick-length o ∙ I.eight;
      turn = turn (ℕ_discrete (Office.tick_refusal o) 0);
      sound = λ j h. go j h (ℕ_discrete (Office.tick_refusal o) 0) (ℕ_discrete (Office.served o) j);
    }
  where
    turn : Dec (Office.tick_refusal o ≡ 0) → (Office.tick o).last < 8
    turn (yes e) = rw (OfficeLaws.tick-made o e) (OfficeLaws.served-below o e)
    turn (no e) = rw (OfficeLaws.tick-refused o e) I.turn

    -- a round of a survey that waits leaves it kept
    kept : (s : State) → Office.waiting s ≡ true → (Office.empty s ≡ true) ⊎ (well_formed s ≡ true) →
        well_formed (step s) ≡ true
    kept s w (inl e) = absurd (not_both (Office.empty s) e (OfficeLaws.waiting-parts s w).0)
    kept s w (inr e) = step-well_formed s e (OfficeLaws.waiting-parts s w).1

    go : (j : ℕ) → j < 8 → Dec (Office.tick_refusal o ≡ 0) → Dec (Office.served o ≡ j)
        → (Office.empty (Office.seat j (Office.tick o)) ≡ true) ⊎ (well_formed (Office.seat j (Office.tick o)) ≡ true)
    go j h (yes e) (yes q) =
        let s : Office.seat j (Office.tick o) ≡ step (Office.seat j o) =
        rw q at (OfficeLaws.tick-same o I.eight e) in
        let due : Office.waiting (Office.seat j o) ≡ true = rw q at (OfficeLaws.served-next o e).due in
        inr (rw s (kept (Office.seat j o) due (I.sound j h)))
    go j h (yes e) (no q) = rw (OfficeLaws.tick-other o j (λ _ p. q p)) (I.sound j h)
    go j h (no e) d = rw (OfficeLaws.tick-other o j (λ p _. e p)) (I.sound j h)

pub play-order : (es : List Office.Event) (o : Office.Office) → InOrder o → InOrder (Office.play es o)
play-order [] o I = I
play-order (Office.loads i load ∷ es) o I = play-order es (Office.load_seat i load o) (load_order i load o I)
play-order (Office.ticks ∷ es) o I = play-order es (Office.tick o) (tick-order o I)

-- ---- the turn comes round

-- the seat served at distance d, another one is due at distance k: it has come nearer
nearer : (last d k i j : ℕ) → k < 8 → i ≡ seat_after last k → j ≡ seat_after last d → d ≤ k → (j ≡ i → ⊥)
    → (d < k) × ((k - d - 1 < 8) × (i ≡ seat_after j (k - d - 1)))
nearer last d k i j a e f l h = go (ℕ_discrete d k)
  where
    go : Dec (d ≡ k) → (d < k) × ((k - d - 1 < 8) × (i ≡ seat_after j (k - d - 1)))
    go (yes q) = absurd (h (f ∙ (ap (λ (m : ℕ). seat_after last m) q ∙ sym e)))
    go (no q) = (omega arith, (omega arith, omega arith))

-- a survey that waits at distance k gets a round within k + 1 ticks
comes : (es : List Office.Event) (o : Office.Office) (i k : ℕ) → InOrder o → i < 8 → k < 8 → i ≡ seat_after o.last k →
    Office.waits o i ≡ true
    → Office.NotAgain i es → k < Office.tick_count es → 1 ≤ Office.rounds_of i es o
comes [] o i k I h a p w l t = absurd (omega arith)
comes (Office.loads j load ∷ es) o i k I h a p w l t =
    comes es (Office.load_seat j load o) i k (load_order j load o I) h a (rw (OfficeLaws.load_turn j load o) p)
    (rw (OfficeLaws.load_other j load o i l.0) w) l.1 t
comes (Office.ticks ∷ es) o i k I h a p w l t =
    go (ℕ_discrete (Office.served o) i) (λ m. comes es (Office.tick o) i m (tick-order o I) h)
  where
    e : Office.tick_refusal o ≡ 0
    e = tick_goes o I i h w

    n : Next o.last (Office.waits o) (Office.served o)
    n = OfficeLaws.served-next o e

    -- none that waits is passed over
    soon : n.far ≤ k
    soon = by (dec_lt k n.far)
      where
        by : Dec (k < n.far) → n.far ≤ k
        by (yes q) = absurd (not_both (Office.waits o i) w (rw (sym p) at (n.none k q)))
        by (no q) = omega arith

    go : Dec (Office.served o ≡ i)
        → ((m : ℕ) → m < 8 → i ≡ seat_after (Office.tick o).last m → Office.waits (Office.tick o) i ≡ true →
        Office.NotAgain i es → m < Office.tick_count es → 1 ≤ Office.rounds_of i es (Office.tick o))
        → 1 ≤ Office.round_of i o + Office.rounds_of i es (Office.tick o)
    go (yes q) later = let g = OfficeLaws.round-given o i e q in omega (arith, g)
    go (no q) later =
        let c = nearer o.last n.far k i (Office.served o) a p n.place soon q in
        let s : Office.seat i (Office.tick o) ≡ Office.seat i o = OfficeLaws.tick-other o i (λ _ r. q r) in
        let turned : (Office.tick o).last ≡ Office.served o = rw (OfficeLaws.tick-made o e) refl in
        let r = later (k - n.far - 1) c.1.0 (rw turned c.1.1) (rw s w) l (omega (arith, c.0, t)) in
        omega (arith, r)

pub round-soon : (es : List Office.Event) (o : Office.Office) (i : ℕ) → InOrder o → i < 8 → Office.waits o i ≡ true
    → Office.NotAgain i es → 8 ≤ Office.tick_count es → 1 ≤ Office.rounds_of i es o
round-soon es o i I h w l t =
    let b = I.turn in
    comes es o i ((i + 7 - o.last) % 8) I h (omega arith) (omega arith) w l (omega arith)
