-- Tables filled entry by entry, as loops meet them.
use Rattle.std.specs.Prelude.{◌≡◌, refl, cond, List, ℕ, ◌+◌, ◌<◌, eqb, length, get_or, set}
use Rattle.std.proofs.Common.{◌∙◌, arith, get_or-set_same, get_or-set_other}
use Rattle.std.proofs.Math.Decide.{ℕ_discrete}
use Rattle.base_lists.specs.Tables.{over, get_d_over_past}
use Rattle.base_lists.specs.Rounds.{over-more}
use Rattle.theory_min_label.specs.MinLabel.{NONE, marked}

-- one entry more
pub entry_more : (f : ℕ → ℕ) (x new : List ℕ) (v y : ℕ) → v < length x → ((j : ℕ) → j < v → get_or x j 0 ≡ f j) →
    y ≡ f v → new ≡ set x v y
    → (j : ℕ) → j < v + 1 → get_or new j 0 ≡ f j
entry_more f x new v y l h e p j b = go (ℕ_discrete j v)
  where
    go : Dec (j ≡ v) → get_or new j 0 ≡ f j
    go (yes q) = rw (p, q) (get_or-set_same x v y 0 l ∙ e)
    go (no q) = rw p (get_or-set_other x v j y 0 q ∙ h j (omega arith))

-- one unit more marked: the entry read is still the old one
pub marks-more : (f b x₀ x new : List ℕ) (v fv bv old y : ℕ) → x ≡ over v (marked f b x₀) x₀ → old ≡ get_or x v 0 →
    fv ≡ get_or f v 0 → bv ≡ get_or b v 0
    → y ≡ cond (eqb old NONE) (cond (eqb fv bv) fv NONE) old → new ≡ set x v y → new ≡ over (v + 1) (marked f b x₀) x₀
marks-more f b x₀ x new v fv bv old y was eo ef eb ey p =
    let e : old ≡ get_or x₀ v 0 = eo ∙ rw was (get_d_over_past v (marked f b x₀) x₀ v 0 (omega arith)) in
    over-more v (marked f b x₀) x₀ x new y was (rw (ey, e, ef, eb) refl) p
