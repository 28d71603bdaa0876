-- What is left of a list from a place on: its first element, or its first two, and the rest.
use Rattle.std.specs.Prelude.{◌≡◌, List, ◌∷◌, ℕ, suc, ◌+◌, ◌<◌, length, get_or, drop}
use Rattle.std.proofs.Common.{ap, ◌∙◌, add-one, arith, drop-cons}

module _ {ℓ} {A : Type ℓ} where
  pub rest-one : (t : List A) (i : ℕ) (d : A) → i < length t → drop i t ≡ get_or t i d ∷ drop (i + 1) t
  rest-one t i d h = rw add-one (drop-cons t i d h)

  pub rest-two : (t : List A) (i : ℕ) (d : A) → i + 1 < length t →
      drop i t ≡ get_or t i d ∷ get_or t (i + 1) d ∷ drop (i + 2) t
  rest-two t i d h =
      let e : i + 2 ≡ suc (i + 1) = omega arith in
      rest-one t i d (omega arith) ∙ ap (λ (l : List A). get_or t i d ∷ l) (rw e (drop-cons t (i + 1) d h))
