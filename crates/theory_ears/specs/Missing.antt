-- T-08, "a missing link is on no ring", of either position: a ring that holds two links is one of links that count,
-- both of them too.
use Rattle.std.specs.Prelude.{◌≡◌, refl, Bool, true, false, ◌⊎◌, List, ℕ, ◌<◌}
use Rattle.std.proofs.Common.{inl, inr}
use Rattle.theory_reach.specs.Site.{Site}
use Rattle.theory_ears.specs.Present.{Ringed, missing}

-- a ring of both positions either way round
ringed_turn : (ok : ℕ → Bool) (m : ℕ) (ends : List ℕ) (i j : ℕ) → Ringed ok m ends i j → Ringed ok m ends j i
ringed_turn ok m ends i j (r, R, h, q) = (r, R, q, h)

module _ {n m : ℕ} {ends : List ℕ} (site : Site n m ends) (ok : ℕ → Bool) (i j : ℕ) where
  pub missing-second : j < m → ok j ≡ false → Ringed ok m ends i j → ⊥
  missing-second l e w = missing site ok j i l e (ringed_turn ok m ends i j w)

  -- one of them missing, or both
  pub on_no_ring : i < m → j < m → (ok i ≡ false) ⊎ (ok j ≡ false) → Ringed ok m ends i j → ⊥
  on_no_ring li lj (inl e) w = missing site ok i j li e w
  on_no_ring li lj (inr e) w = missing-second lj e w

  -- so a ring that holds both positions has both links present
  pub both-present : i < m → j < m → Ringed ok m ends i j → (ok i ≡ true) × (ok j ≡ true)
  both-present li lj w = (
    present (ok i) (λ e. on_no_ring li lj (inl e) w),
    present (ok j) (λ e. on_no_ring li lj (inr e) w),
  )
    where
      present : (b : Bool) → (b ≡ false → ⊥) → b ≡ true
      present true h = refl
      present false h = absurd (h refl)
