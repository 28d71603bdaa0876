-- The better of two, by how their levels compare.
use Rattle.std.specs.Prelude.{◌≡◌, true, false, ◌≢◌, ℕ, ltb, ℤ}
use Rattle.std.proofs.Math.Path.{refl}
use Rattle.std.specs.Int.Signed.{lt_z, le_z}
use Rattle.base_lists.specs.Tests.{refuted}
use Rattle.spec_rules.specs.Tree.{better}
use Rattle.spec_rules.proofs.ParentChoice.{le_z_refl, le_z_antisym, lt_z_apart, lt_z_not}

module _ (z : ℤ) (w : ℕ) (y : ℤ) (u : ℕ) where
  pub better-above : lt_z y z ≡ true → better z w y u ≡ true
  unfolding better
  better-above h = rw h refl

  pub better-below : lt_z y z ≡ false → z ≢ y → better z w y u ≡ false
  unfolding better
  better-below h n = rw (h, refuted (le_z y z) (λ e. n (le_z_antisym z y (lt_z_not y z h) e))) refl

-- at the same level the number tells
pub better-tie : (z : ℤ) (w : ℕ) (y : ℤ) (u : ℕ) → z ≡ y → better z w y u ≡ ltb w u
unfolding better
better-tie z w y u e = rw (e, refuted (lt_z y y) (λ h. lt_z_apart y y h (le_z_refl y)), le_z_refl y) refl
