-- A tick by way of the seat whose turn it is, as the code goes: the turn, then the other seats, then whether some seat
-- waits, then the seat itself.
use Rattle.std.specs.Prelude.{◌≡◌, ◌||◌, ◌⊎◌, ℕ, ◌≤◌, ◌<◌, ltb}
use Rattle.std.proofs.Math.Path.{refl, ap}
use Rattle.std.proofs.Common.{sym, ◌∙◌, inl, inr, lt-ltb, ltb-true}
use Rattle.std.proofs.Math.Bool.{true, false, not}
use Rattle.std.proofs.Math.Decide.{ℕ_discrete}
use native.Mathlib.Omega.{arith}
use Rattle.base_lists.specs.Folds.{some}
use Rattle.base_lists.specs.Some.{some-exact}
use Rattle.base_lists.specs.Tests.{or_left, or_right, refuted, not_both}
use Rattle.spec_machine.specs.State.{State}
use Rattle.spec_machine.specs.WellFormed.{well_formed}
use Rattle.spec_channel.specs.Turns.{Next}
use Rattle.spec_channel.proofs.TurnLaws.{picked-either}
use Rattle.spec_channel.specs.Office.{Office, seat, waits, waiting, spoilt, tick_refusal, tick, served}
use Rattle.spec_channel.proofs.OfficeLaws.{waiting-parts, tick-refused}

module _ (o : Office) where
  -- a number for a refused tick, which moves nothing
  pub tick-stays : (k : ℕ) → tick_refusal o ≡ k → (k ≡ 0 → ⊥) → (k ≡ tick_refusal o) × (o ≡ tick o)
  tick-stays k e h = (sym e, sym (tick-refused o (λ z. h (sym e ∙ z))))

  unsound : (ltb 7 o.last || some 8 (λ (i : ℕ). spoilt (seat i o))) ≡ true → tick_refusal o ≡ 10
  unfolding tick_refusal
  unsound e = rw e refl

  pub tick-high : 7 < o.last → tick_refusal o ≡ 10
  tick-high h = unsound (or_left (ltb 7 o.last) (some 8 (λ (i : ℕ). spoilt (seat i o))) (lt-ltb 7 o.last h))

  pub tick-spoilt : (i : ℕ) → i < 8 → spoilt (seat i o) ≡ true → tick_refusal o ≡ 10
  tick-spoilt i h e =
      unsound (or_right (ltb 7 o.last) (some 8 (λ (i : ℕ). spoilt (seat i o)))
      ((some-exact 8 (λ (i : ℕ). spoilt (seat i o))).1 (i, h, e)))

  module _ (turn : o.last ≤ 7) (others : (j : ℕ) → j < 8 → (j ≡ served o → ⊥) → spoilt (seat j o) ≡ false) where
    sound : ((j : ℕ) → j < 8 → spoilt (seat j o) ≡ false) →
        (ltb 7 o.last || some 8 (λ (i : ℕ). spoilt (seat i o))) ≡ false
    sound none =
        let a : ltb 7 o.last ≡ false = refuted (ltb 7 o.last) (λ e. omega (arith, ltb-true 7 o.last e)) in
        let b : some 8 (λ (i : ℕ). spoilt (seat i o)) ≡ false =
        refuted (some 8 (λ (i : ℕ). spoilt (seat i o)))
        (λ e. let (i, h, q) = (some-exact 8 (λ (i : ℕ). spoilt (seat i o))).0 e in not_both (spoilt (seat i o)) q
        (none i h)) in
        rw (a, b) refl

    -- no seat's turn: all are finished
    pub tick-over : 7 < served o → tick_refusal o ≡ 11
    unfolding tick_refusal
    tick-over h = go (picked-either o.last (waits o))
      where
        go : Next o.last (waits o) (served o) ⊎ ((served o ≡ 8) × ((i : ℕ) → i < 8 → waits o i ≡ false)) →
            tick_refusal o ≡ 11
        go (inl n) = absurd (omega (arith, n.place, h))
        go (inr none) =
            let b : some 8 (λ (i : ℕ). waiting (seat i o)) ≡ false =
            refuted (some 8 (λ (i : ℕ). waiting (seat i o)))
            (λ e. let (i, k, q) = (some-exact 8 (λ (i : ℕ). waiting (seat i o))).0 e in not_both (waiting (seat i o)) q
            (none.1 i k)) in
            rw (sound (λ j k. others j k (λ q. omega (arith, h, k, q))), b) refl

    -- a seat's turn: it waits
    pub served-waits : served o ≤ 7 → waiting (seat (served o) o) ≡ true
    served-waits h = go (picked-either o.last (waits o))
      where
        go : Next o.last (waits o) (served o) ⊎ ((served o ≡ 8) × ((i : ℕ) → i < 8 → waits o i ≡ false)) →
            waiting (seat (served o) o) ≡ true
        go (inl n) = n.due
        go (inr none) = absurd (omega (arith, none.0, h))

    spoilt-by : (s : State) → waiting s ≡ true → spoilt s ≡ not (well_formed s)
    unfolding spoilt
    spoilt-by s e = rw (waiting-parts s e).0 refl

    pub tick_unkept : served o ≤ 7 → well_formed (seat (served o) o) ≡ false → tick_refusal o ≡ 10
    tick_unkept h w =
        let e : spoilt (seat (served o) o) ≡ true = spoilt-by (seat (served o) o) (served-waits h) ∙ ap not w in
        tick-spoilt (served o) (omega arith) e

    pub tick-given : served o ≤ 7 → well_formed (seat (served o) o) ≡ true → tick_refusal o ≡ 0
    unfolding tick_refusal
    tick-given h w =
        let e : spoilt (seat (served o) o) ≡ false = spoilt-by (seat (served o) o) (served-waits h) ∙ ap not w in
        let b : some 8 (λ (i : ℕ). waiting (seat i o)) ≡ true =
        (some-exact 8 (λ (i : ℕ). waiting (seat i o))).1 (served o, omega arith, served-waits h) in
        rw (sound (λ j k. all j k e (ℕ_discrete j (served o))), b) refl
      where
        all : (j : ℕ) → j < 8 → spoilt (seat (served o) o) ≡ false → Dec (j ≡ served o) → spoilt (seat j o) ≡ false
        all j k e (yes q) = rw q e
        all j k e (no q) = others j k q
