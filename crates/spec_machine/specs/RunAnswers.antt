-- The refusal of a round or a run by its two tests.
use Rattle.std.specs.Prelude.{◌≡◌, refl, Bool, true, false, not, ◌⊎◌, [], ◌∷◌, ℕ, eqb}
use Rattle.std.proofs.Common.{◌∙◌, inl, inr, arith}
use Rattle.base_lists.specs.Tests.{either}
use Rattle.table.specs.Refusals.{first_of}
use Rattle.spec_machine.specs.State.{State}
use Rattle.spec_machine.specs.State.{finished, FINISHED}
use Rattle.spec_machine.specs.WellFormed.{well_formed}
use Rattle.spec_machine.specs.Calls.{round_refusal}

refusal_malformed : (s : State) → well_formed s ≡ false → 10 ≡ round_refusal s
unfolding round_refusal
refusal_malformed s w = rw w refl

refusal-finished : (s : State) → well_formed s ≡ true → finished s ≡ true → 11 ≡ round_refusal s
unfolding round_refusal
refusal-finished s w f = rw (w, f) refl

refusal-going : (s : State) → well_formed s ≡ true → finished s ≡ false → 0 ≡ round_refusal s
unfolding round_refusal
refusal-going s w f = rw (w, f) refl

-- the refusal, from whether the state is well formed and its stage
pub refusal-told : (s : State) (well : Bool) (k : ℕ) → well ≡ well_formed s →
    k ≡ first_of ((10, not well) ∷ (11, eqb s.clock.stage FINISHED) ∷ [])
    → k ≡ round_refusal s
unfolding round_refusal
refusal-told s well k e told = rw (told, e)

-- what is not refused is well formed and not finished
pub accepted : (s : State) → round_refusal s ≡ 0 → (well_formed s ≡ true) × (finished s ≡ false)
accepted s e = go (either (well_formed s)) (either (finished s))
  where
    go : (well_formed s ≡ true) ⊎ (well_formed s ≡ false) → (finished s ≡ true) ⊎ (finished s ≡ false) →
        (well_formed s ≡ true) × (finished s ≡ false)
    go (inl w) (inr f) = (w, f)
    go (inl w) (inl f) = let z : ◌≡◌ {A = ℕ} 11 0 = refusal-finished s w f ∙ e in absurd (omega arith)
    go (inr w) f = let z : ◌≡◌ {A = ℕ} 10 0 = refusal_malformed s w ∙ e in absurd (omega arith)
