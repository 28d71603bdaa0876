-- Whose turn it is (T-12): of eight seats the next that waits after the one last served, going round.
use Rattle.std.specs.Prelude.{◌≡◌, Bool, true, false, cond, ℕ, ◌+◌, ◌%◌, ◌<◌, ltb}
use Rattle.base_lists.specs.Folds.{least}

-- the seat d places past the one after `last`, going round
abbrev pub seat_after : ℕ → ℕ → ℕ
seat_after last d = (last + 1 + d) % 8

-- how far the first seat that waits is, 8 where none waits
unfoldable pub distance : ℕ → (ℕ → Bool) → ℕ
distance last waits = least 8 (λ (d : ℕ). cond (waits (seat_after last d)) d 8) 8

-- that seat, 8 where none waits
unfoldable pub picked : ℕ → (ℕ → Bool) → ℕ
picked last waits = let d = distance last waits in cond (ltb d 8) (seat_after last d) 8

-- in words: seat i waits, and no seat does that comes before it
pub record Next (last : ℕ) (waits : ℕ → Bool) (i : ℕ) : Type 0 where
  pub far : ℕ
  pub near : far < 8
  pub place : i ≡ seat_after last far
  pub due : waits i ≡ true
  pub none : (d : ℕ) → d < far → waits (seat_after last d) ≡ false
