-- Each refusal is bound to its cause, and only that: for tests that decide their causes, the reply is number k exactly
-- when cause k holds and no earlier one does, and some number comes back exactly when some cause holds.
use Rattle.std.specs.Prelude.{◌≡◌, refl, Bool, true, false, cond, ◌⊎◌, ◌↔◌, List, [], ◌∷◌, ◌++◌, ℕ}
use Rattle.std.proofs.Common.{sym, inl, inr}
use Rattle.std.proofs.lemmas.Bool.{false≢true}
use Rattle.table.specs.Refusals.{first_of}

-- a number, the test that computes it, the cause in words, and that the test decides the cause
pub record Reason : Type 1 where
  pub number : ℕ
  pub test : Bool
  pub cause : Type 0
  pub exact : (test ≡ true) ↔ cause

abbrev pub tests : List Reason → List (ℕ × Bool)
tests [] = []
tests (r ∷ rs) = (r.number, r.test) ∷ tests rs

-- no reason has the number 0
abbrev pub Numbered : List Reason → Type 0
Numbered [] = Unit
Numbered (r ∷ rs) = (r.number ≡ 0 → ⊥) × Numbered rs

-- the cause numbered k holds, and no earlier one
abbrev pub FirstCause : List Reason → ℕ → Type 0
FirstCause [] k = ⊥
FirstCause (r ∷ rs) k = ((r.number ≡ k) × r.cause) ⊎ ((r.cause → ⊥) × FirstCause rs k)

abbrev pub SomeCause : List Reason → Type 0
SomeCause [] = ⊥
SomeCause (r ∷ rs) = r.cause ⊎ SomeCause rs

step-first : (b : Bool) (C : Type 0) → (b ≡ true) ↔ C → (n m k : ℕ) (F : Type 0) → (m ≡ k) ↔ F
    → (cond b n m ≡ k) ↔ (((n ≡ k) × C) ⊎ ((C → ⊥) × F))
step-first true C x n m k F later = (λ (e : n ≡ k). inl (e, x.0 refl), back)
  where
    back : (((n ≡ k) × C) ⊎ ((C → ⊥) × F)) → n ≡ k
    back (inl p) = p.0
    back (inr p) = absurd (p.0 (x.0 refl))
step-first false C x n m k F later = (λ (e : m ≡ k). inr (λ (c : C). false≢true (x.1 c), later.0 e), back)
  where
    back : (((n ≡ k) × C) ⊎ ((C → ⊥) × F)) → m ≡ k
    back (inl p) = absurd (false≢true (x.1 p.1))
    back (inr p) = later.1 p.1

-- the reply is refusal k exactly when cause k holds and no earlier cause does
pub first-cause : (rs : List Reason) (k : ℕ) → (k ≡ 0 → ⊥) → (first_of (tests rs) ≡ k) ↔ FirstCause rs k
first-cause [] k h = (λ (e : 0 ≡ k). h (sym e), λ (b : ⊥). absurd b)
first-cause (r ∷ rs) k h =
    step-first r.test r.cause r.exact r.number (first_of (tests rs)) k (FirstCause rs k) (first-cause rs k h)

step-none : (b : Bool) (C : Type 0) → (b ≡ true) ↔ C → (n m : ℕ) (S : Type 0) → (n ≡ 0 → ⊥) → (m ≡ 0 → ⊥) ↔ S
    → (cond b n m ≡ 0 → ⊥) ↔ (C ⊎ S)
step-none true C x n m S h later = (λ (e : n ≡ 0 → ⊥). inl (x.0 refl), λ (s : C ⊎ S). h)
step-none false C x n m S h later = (λ (e : m ≡ 0 → ⊥). inr (later.0 e), back)
  where
    back : (C ⊎ S) → m ≡ 0 → ⊥
    back (inl c) = absurd (false≢true (x.1 c))
    back (inr s) = later.1 s

-- a call is refused exactly when some cause holds
pub some-cause : (rs : List Reason) → Numbered rs → (first_of (tests rs) ≡ 0 → ⊥) ↔ SomeCause rs
some-cause [] h = (λ e. e refl, λ (b : ⊥). absurd b)
some-cause (r ∷ rs) h =
    step-none r.test r.cause r.exact r.number (first_of (tests rs)) (SomeCause rs) h.0
    (some-cause rs h.1)

-- where nothing is refused, each test in turn fails
pub passed-test : (b : Bool) (n m : ℕ) → (n ≡ 0 → ⊥) → cond b n m ≡ 0 → (b ≡ false) × (m ≡ 0)
passed-test true n m h e = absurd (h e)
passed-test false n m h e = (refl, e)

-- ---- tests after others

-- no test has the number 0
abbrev Counted : List (ℕ × Bool) → Type 0
Counted [] = Unit
Counted (t ∷ ts) = (t.0 ≡ 0 → ⊥) × Counted ts

some-step : (b : Bool) (n m k : ℕ) → ((m ≡ 0 → ⊥) → k ≡ m) → (cond b n m ≡ 0 → ⊥) → cond b n k ≡ cond b n m
some-step true n m k later h = refl
some-step false n m k later h = later h

-- where an earlier test holds, the later ones do not count
pub first_some : (ts us : List (ℕ × Bool)) → (first_of ts ≡ 0 → ⊥) → first_of (ts ++ us) ≡ first_of ts
first_some [] us h = absurd (h refl)
first_some (t ∷ ts) us h = some-step t.1 t.0 (first_of ts) (first_of (ts ++ us)) (first_some ts us) h

-- where none does, only they count
pub first-none : (ts us : List (ℕ × Bool)) → Counted ts → first_of ts ≡ 0 → first_of (ts ++ us) ≡ first_of us
first-none [] us c e = refl
first-none (t ∷ ts) us c e =
    let p = passed-test t.1 t.0 (first_of ts) c.0 e in
    rw p.0 (first-none ts us c.1 p.1)
