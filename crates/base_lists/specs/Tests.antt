-- Bool tests joined, and what a test that passes or fails says. Tests of numbers are those of lib.Dec.
use Rattle.std.specs.Prelude.{◌≡◌, refl, Bool, true, false, cond, not, ◌&&◌, ◌||◌, ◌⊎◌, ◌↔◌}
use Rattle.std.proofs.Common.{sym, true≢false, inl, inr}
use Rattle.std.proofs.lemmas.Bool.{false≢true}

-- a test is true or false
pub either : (b : Bool) → (b ≡ true) ⊎ (b ≡ false)
either true = inl refl
either false = inr refl

pub and_left : (a b : Bool) → (a && b) ≡ true → a ≡ true
and_left true b e = refl
and_left false b e = absurd (false≢true e)

pub and_right : (a b : Bool) → (a && b) ≡ true → b ≡ true
and_right true b e = e
and_right false b e = absurd (false≢true e)

pub and-true : (a b : Bool) → a ≡ true → b ≡ true → (a && b) ≡ true
and-true true b p q = q
and-true false b p q = absurd (false≢true p)

pub or_cases : (a b : Bool) → (a || b) ≡ true → (a ≡ true) ⊎ (b ≡ true)
or_cases true b e = inl refl
or_cases false b e = inr e

pub or_left : (a b : Bool) → a ≡ true → (a || b) ≡ true
or_left true b p = refl
or_left false b p = absurd (false≢true p)

pub or_right : (a b : Bool) → b ≡ true → (a || b) ≡ true
or_right true b p = refl
or_right false b p = p

pub or_false-left : (a b : Bool) → (a || b) ≡ false → a ≡ false
or_false-left true b e = absurd (true≢false e)
or_false-left false b e = refl

pub or_false-right : (a b : Bool) → (a || b) ≡ false → b ≡ false
or_false-right true b e = absurd (true≢false e)
or_false-right false b e = e

-- two sums of two, regrouped
pub or_swap : (a b c d : Bool) → ((a || b) || (c || d)) ≡ ((a || c) || (b || d))
or_swap true b c d = refl
or_swap false true true d = refl
or_swap false true false d = refl
or_swap false false c d = refl

pub not_both : (b : Bool) → b ≡ true → b ≡ false → ⊥
not_both true p q = true≢false q
not_both false p q = false≢true p

-- what is not true is false
pub refuted : (b : Bool) → (b ≡ true → ⊥) → b ≡ false
refuted true h = absurd (h refl)
refuted false h = refl

-- two tests that imply one another
pub same_test : (a b : Bool) → (a ≡ true → b ≡ true) → (b ≡ true → a ≡ true) → a ≡ b
same_test true b f g = sym (f refl)
same_test false true f g = g refl
same_test false false f g = refl

pub cond_true {ℓ} : {A : Type ℓ} (b : Bool) (x y : A) → b ≡ true → cond b x y ≡ x
cond_true true x y e = refl
cond_true false x y e = absurd (false≢true e)

pub cond_false {ℓ} : {A : Type ℓ} (b : Bool) (x y : A) → b ≡ false → cond b x y ≡ y
cond_false true x y e = absurd (true≢false e)
cond_false false x y e = refl

-- a joined test decides what its parts decide
pub and_exact : {A B : Type 0} (a b : Bool) → (a ≡ true) ↔ A → (b ≡ true) ↔ B → ((a && b) ≡ true) ↔ (A × B)
and_exact {A} {B} a b p q = (
  λ (e : (a && b) ≡ true). (p.0 (and_left a b e), q.0 (and_right a b e)),
  λ (w : A × B). and-true a b (p.1 w.0) (q.1 w.1),
)

pub or_exact : {A B : Type 0} (a b : Bool) → (a ≡ true) ↔ A → (b ≡ true) ↔ B → ((a || b) ≡ true) ↔ (A ⊎ B)
or_exact {A} {B} a b p q = (λ (e : (a || b) ≡ true). to (or_cases a b e), from)
  where
    to : (a ≡ true) ⊎ (b ≡ true) → A ⊎ B
    to (inl e) = inl (p.0 e)
    to (inr e) = inr (q.0 e)

    from : A ⊎ B → (a || b) ≡ true
    from (inl x) = or_left a b (p.1 x)
    from (inr y) = or_right a b (q.1 y)

-- a choice between two tests
pub cond-exact : {A B C : Type 0} (c a b : Bool) → (c ≡ true) ↔ C → (a ≡ true) ↔ A → (b ≡ true) ↔ B
    → (cond c a b ≡ true) ↔ ((C × A) ⊎ ((C → ⊥) × B))
cond-exact {A} {B} {C} true a b r p q = (λ (e : a ≡ true). inl (r.0 refl, p.0 e), from)
  where
    from : (C × A) ⊎ ((C → ⊥) × B) → a ≡ true
    from (inl w) = p.1 w.1
    from (inr w) = absurd (w.0 (r.0 refl))
cond-exact {A} {B} {C} false a b r p q = (λ (e : b ≡ true). inr (λ (c : C). false≢true (r.1 c), q.0 e), from)
  where
    from : (C × A) ⊎ ((C → ⊥) × B) → b ≡ true
    from (inl w) = absurd (false≢true (r.1 w.0))
    from (inr w) = q.1 w.1

-- the test turned round
pub not_exact : {A : Type 0} (a : Bool) → (a ≡ true) ↔ A → (not a ≡ true) ↔ (A → ⊥)
not_exact {A} true p = (λ (e : false ≡ true). absurd (false≢true e), λ (h : A → ⊥). absurd (h (p.0 refl)))
not_exact {A} false p = (λ (e : true ≡ true). λ (x : A). false≢true (p.1 x), λ (h : A → ⊥). refl)
