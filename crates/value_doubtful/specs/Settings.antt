-- Settings of a site (T-08): each link is sure or doubtful, any set of the doubtful ones may be absent. Marks are a
-- byte a link, 0 for sure.
use Rattle.std.specs.Prelude.{◌≡◌, Bool, true, List, ℕ, ◌<◌}
use Rattle.theory_ears.specs.Present.{Ringed, sure}

-- a setting: which links are present, all sure ones among them
abbrev pub Setting : ℕ → List ℕ → (ℕ → Bool) → Type 0
Setting m marks present = (j : ℕ) → j < m → sure marks j ≡ true → present j ≡ true

-- in each setting a ring of the links that are present holds both positions, or in some
abbrev pub InEach : ℕ → List ℕ → List ℕ → ℕ → ℕ → Type 0
InEach m ends marks i j = (present : ℕ → Bool) → Setting m marks present → Ringed present m ends i j

abbrev pub InSome : ℕ → List ℕ → List ℕ → ℕ → ℕ → Type 0
InSome m ends marks i j = (present : ℕ → Bool) × Setting m marks present × Ringed present m ends i j
