-- A table filled in place: what a turn finds there, and a turn that leaves an entry.
use Rattle.std.specs.Prelude.{◌≡◌, ℕ, ◌+◌, ◌≤◌, List, slice_index}
use Rattle.std.proofs.Common.{sym, ◌∙◌, le_refl}
use Rattle.std.proofs.lemmas.List.{set-get_or}
use Rattle.base_lists.specs.Tables.{over, get_d_over_past}
use Rattle.base_lists.specs.Rounds.{over-more}

module _ (v : ℕ) (f : ℕ → ℕ) (old t : List ℕ) (was : t ≡ over v f old) where
  -- an entry not yet made anew
  pub read_past : (i : ℕ) → v ≤ i → slice_index t i ≡ slice_index old i
  read_past i h = rw was (get_d_over_past v f old i 0 h)

  -- the entry stays
  pub over-kept : f v ≡ slice_index old v → t ≡ over (v + 1) f old
  over-kept stays = over-more v f old t t (slice_index t v) was (read_past v (le_refl v)
      ∙ sym stays) (sym (set-get_or t v 0))
