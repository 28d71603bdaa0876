-- The links that are left when one is taken from the front, as a loop over chunks of two takes it.
use Rattle.std.specs.Prelude.{◌≡◌, refl, Bool, ◌||◌, List, [], ◌∷◌, ◌++◌, ℕ, suc, length, get_or}
use Rattle.std.proofs.Common.{sym, ◌∙◌, arith}
use Rattle.std.proofs.Math.Bool.{or_assoc}
use Rattle.theory_min_label.specs.Hands.{lowers, handed, swept, falls, Ends}

two : (link later : List ℕ) → length link ≡ 2 → link ++ later ≡ get_or link 0 0 ∷ get_or link 1 0 ∷ later
two [] later e = absurd (omega arith)
two (a ∷ []) later e = absurd (omega arith)
two (a ∷ b ∷ []) later e = refl
two (a ∷ b ∷ c ∷ t) later e = absurd (omega arith)

module _ (rest link later : List ℕ) (is : rest ≡ link ++ later) (size : length link ≡ 2) where
  front : rest ≡ get_or link 0 0 ∷ get_or link 1 0 ∷ later
  front = is ∙ two link later size

  pub ends_later : (k : ℕ) → Ends k rest → Ends k later
  ends_later k h i l = let g = rw front at h in g (suc (suc i)) (omega arith)

  pub falls_later : (d : Bool) (key x : List ℕ) (any : Bool) → (any || falls d key rest x)
      ≡ ((any || lowers d key x (get_or link 0 0) (get_or link 1 0)) || falls d key later x)
  unfolding falls
  falls_later d key x any = rw front (sym (or_assoc any _ _))

  pub swept_later : (d : Bool) (key x : List ℕ) →
      swept d key rest x ≡ swept d key later (handed d key x (get_or link 0 0) (get_or link 1 0))
  unfolding swept
  swept_later d key x = rw front refl
