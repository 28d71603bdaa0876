-- A seat is empty exactly while no load of it was accepted: `VacantUntilLoaded`, proved below it.
use Rattle.std.specs.Prelude.{◌≡◌, refl, true, false, ◌↔◌, List, [], ◌∷◌, ℕ, ◌<◌, length}
use Rattle.std.proofs.Common.{◌∙◌, arith}
use Rattle.std.proofs.Math.Decide.{ℕ_discrete}
use Rattle.spec_machine.specs.State.{State}
use Rattle.spec_machine.specs.Kept.{kept-exact}
use Rattle.spec_machine.specs.WellFormed.{well_formed}
use Rattle.spec_machine.specs.Step.{step}
use Rattle.spec_machine.specs.StepLaws.{step-well_formed}
use Rattle.spec_channel.specs.Office
use Rattle.spec_channel.proofs.OfficeLaws
use Rattle.spec_channel.proofs.LoadingLaws.{load_kept}
use Rattle.spec_channel.proofs.TickCauses.{empty-exact}
use Rattle.spec_channel.proofs.Channel.{Begun}
use Rattle.spec_channel.proofs.ChannelProof.{one-channel}

abbrev pub VacantUntilLoaded : Type 0
VacantUntilLoaded =
    (start : Office.Office) → Begun start → (events : List Office.Event) (i : ℕ) → i < 8
    → (Office.empty (Office.seat i (Office.play events start)) ≡ true) ↔ Office.NotAgain i events

-- a kept survey is in some stage
kept-loaded : (s : State) → well_formed s ≡ true → Office.empty s ≡ true → ⊥
kept-loaded s w e =
    let k = (kept-exact s).0 w in
    let z = (empty-exact s).0 e in
    omega (arith, k.from, z.1)

empty-rests : (s : State) → Office.empty s ≡ true → Office.waiting s ≡ false
unfolding Office.waiting
empty-rests s e = rw e refl

-- a kept survey stays kept, whatever follows
load_keeps : (i j : ℕ) (load : Office.Loading) (o : Office.Office) → Dec (j ≡ i) → Dec (Office.seat_refusal j load ≡ 0)
    →
    (Office.seat_refusal j load ≡ 0 → Office.seat j (Office.load_seat j load o) ≡ Office.survey_of load)
    → well_formed (Office.seat i o) ≡ true → well_formed (Office.seat i (Office.load_seat j load o)) ≡ true
load_keeps i j load o (yes q) (yes z) same w =
    rw (← q) (rw (same z) (load_kept load (OfficeLaws.seat-accepted j load z).1))
load_keeps i j load o (no q) d same w = rw (OfficeLaws.load_other j load o i (λ p _. q p)) w
load_keeps i j load o (yes q) (no z) same w = rw (OfficeLaws.load_other j load o i (λ _ p. z p)) w

tick-keeps : (i : ℕ) (o : Office.Office) → length o.seats ≡ 8 → Dec (Office.tick_refusal o ≡ 0) →
    Dec (Office.served o ≡ i)
    → well_formed (Office.seat i o) ≡ true → well_formed (Office.seat i (Office.tick o)) ≡ true
tick-keeps i o l (yes e) (yes q) w =
    let s : Office.seat i (Office.tick o) ≡ step (Office.seat i o) = rw q at (OfficeLaws.tick-same o l e) in
    let due : Office.waiting (Office.seat i o) ≡ true = rw q at (OfficeLaws.served-next o e).due in
    rw s (step-well_formed (Office.seat i o) w (OfficeLaws.waiting-parts (Office.seat i o) due).1)
tick-keeps i o l (yes e) (no q) w = rw (OfficeLaws.tick-other o i (λ _ p. q p)) w
tick-keeps i o l (no e) d w = rw (OfficeLaws.tick-other o i (λ p _. e p)) w

stays-kept : (i : ℕ) (es : List Office.Event) (o : Office.Office) → length o.seats ≡ 8 →
    well_formed (Office.seat i o) ≡ true → well_formed (Office.seat i (Office.play es o)) ≡ true
stays-kept i [] o l w = w
stays-kept i (Office.loads j load ∷ es) o l w =
    stays-kept i es (Office.load_seat j load o) (OfficeLaws.load_length j load o ∙ l)
    (load_keeps i j load o (ℕ_discrete j i) (ℕ_discrete (Office.seat_refusal j load) 0)
    (OfficeLaws.load_same j load o l) w)
stays-kept i (Office.ticks ∷ es) o l w =
    stays-kept i es (Office.tick o) (OfficeLaws.tick-length o ∙ l)
    (tick-keeps i o l (ℕ_discrete (Office.tick_refusal o) 0) (ℕ_discrete (Office.served o) i) w)

never-loaded : (i : ℕ) (es : List Office.Event) (o : Office.Office) → length o.seats ≡ 8 →
    Office.empty (Office.seat i (Office.play es o)) ≡ true → Office.NotAgain i es
never-loaded i [] o l e = tt
never-loaded i (Office.loads j load ∷ es) o l e = (
  λ q z. kept-loaded (Office.seat i (Office.play es (Office.load_seat j load o)))
      (stays-kept i es (Office.load_seat j load o) (OfficeLaws.load_length j load o ∙ l)
      (rw (← q) (rw (OfficeLaws.load_same j load o l z) (load_kept load (OfficeLaws.seat-accepted j load z).1)))) e,
  never-loaded i es (Office.load_seat j load o) (OfficeLaws.load_length j load o ∙ l) e,
)
never-loaded i (Office.ticks ∷ es) o l e = never-loaded i es (Office.tick o) (OfficeLaws.tick-length o ∙ l) e

pub vacant_until_loaded : VacantUntilLoaded
vacant_until_loaded start b es i h = (
  never-loaded i es start b.eight,
  λ n. rw ((one-channel start b []).rests i (empty-rests (Office.seat i start) (b.empty i h)) es n) (b.empty i h),
)
