-- A link with no end visited in the round before is passed over.
use Rattle.std.specs.Prelude.{◌≡◌, refl, Bool, true, false, ◌&&◌, List, ℕ, eqb, ℤ}
use Rattle.spec_rules.specs.Tree.{over_link}
use Rattle.spec_rules.specs.TreeLaws.{Linked, holds_cong}

and_none : (b : Bool) → (b && false) ≡ false
and_none true = refl
and_none false = refl

pub passed_over : (passes : ℕ → Bool) (z : ℤ) (a b : ℕ) (held : List ℤ) (best : List ℕ) → passes a ≡ false →
    passes b ≡ false
    → Linked (λ (v : ℕ). passes) z a b held best held best
passed_over passes z a b held best e g f h =
    holds_cong held best f (λ (v : ℕ). over_link passes z a b v (f v))
    (λ v l. rw (e, g, and_none (eqb a v), and_none (eqb b v)) refl) h
