-- An empty seat in its words: the first word, the unit count, is 0, and so is the stage.
use Rattle.std.specs.Prelude.{◌≡◌, true, false, List, ℕ, get_or}
use Rattle.std.proofs.Math.Path.{refl}
use Rattle.std.proofs.Common.{sym, ap, ◌∙◌, lit<, eq-eqb, ne_eqb}
use Rattle.std.proofs.Math.Dec.{eqb}
use Rattle.spec_state.specs.declared.groups.Clock.{Clock}
use Rattle.spec_machine.specs.State.{units}
use Rattle.words_layout.specs.Layout.{state_of}
use Rattle.words_layout.specs.FieldLaws.{number_in_lem}
use Rattle.spec_channel.specs.Office.{empty}

first_word : (ws : List ℕ) → units (state_of ws) ≡ get_or ws 0 0
unfolding state_of
first_word ws = sym (number_in_lem 0 2 0 ws (lit< tt))

stage-word : (ws : List ℕ) → (state_of ws).clock.stage ≡ get_or ws 2050 0
unfolding state_of
stage-word ws = sym (number_in_lem 2050 4 0 ws (lit< tt))

module _ (ws : List ℕ) where
  pub units-there : (get_or ws 0 0 ≡ 0 → ⊥) → false ≡ empty (state_of ws)
  unfolding empty
  units-there h = rw (ne_eqb (units (state_of ws)) 0 (λ e. h (sym (first_word ws) ∙ e))) refl

  -- without units the stage decides
  pub stage_decides : get_or ws 0 0 ≡ 0 → (k : Clock) → k ≡ (state_of ws).clock → eqb k.stage 0 ≡ empty (state_of ws)
  unfolding empty
  stage_decides z k e = rw (eq-eqb (units (state_of ws)) 0 (first_word ws ∙ z))
      (ap (λ (k : Clock). eqb k.stage 0) e)

  pub both_zero : get_or ws 0 0 ≡ 0 → get_or ws 2050 0 ≡ 0 → empty (state_of ws) ≡ true
  both_zero u s = sym (stage_decides u (state_of ws).clock refl)
      ∙ eq-eqb (state_of ws).clock.stage 0 (stage-word ws ∙ s)
