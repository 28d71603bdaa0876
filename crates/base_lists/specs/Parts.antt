-- The parts of a list before the first and past the last element that passes a test.
use Rattle.std.specs.Prelude.{◌≡◌, refl, ◌⊎◌, Bool, true, false, cond, ◌||◌, List, [], ◌∷◌, ◌++◌, ℕ, zero, eqb}
use Rattle.std.proofs.Common.{sym, ap, ◌∙◌, inl, inr, true≢false, eqb-true, eq-eqb}
use Rattle.base_lists.specs.Members.{Mem}
use Rattle.base_lists.specs.Tests.{or_cases, or_left, or_right}

-- some element passes
abbrev pub any : (ℕ → Bool) → List ℕ → Bool
any on [] = false
any on (x ∷ l) = on x || any on l

-- the elements before the first that passes, that one, and those after it
abbrev pub before : (ℕ → Bool) → List ℕ → List ℕ
before on [] = []
before on (x ∷ l) = cond (on x) [] (x ∷ before on l)

abbrev pub first_on : (ℕ → Bool) → List ℕ → ℕ
first_on on [] = zero
first_on on (x ∷ l) = cond (on x) x (first_on on l)

abbrev pub after : (ℕ → Bool) → List ℕ → List ℕ
after on [] = []
after on (x ∷ l) = cond (on x) l (after on l)

-- the last element that passes, where one does, and those after it
abbrev pub last_on : (ℕ → Bool) → List ℕ → ℕ
last_on on [] = zero
last_on on (x ∷ l) = cond (any on l) (last_on on l) x

abbrev pub past : (ℕ → Bool) → List ℕ → List ℕ
past on [] = []
past on (x ∷ l) = cond (any on l) (past on l) l

-- z stands in the list, as a test
abbrev pub memb : List ℕ → ℕ → Bool
memb l z = any (λ x. eqb z x) l

module _ (on : ℕ → Bool) where
  pub any_of : (z : ℕ) (l : List ℕ) → Mem z l → on z ≡ true → any on l ≡ true
  any_of z [] m h = absurd m
  any_of z (x ∷ l) (inl e) h = or_left (on x) (any on l) (rw e at h)
  any_of z (x ∷ l) (inr m) h = or_right (on x) (any on l) (any_of z l m h)

  any-find : (l : List ℕ) → any on l ≡ true → (z : ℕ) × Mem z l × (on z ≡ true)
  any-find [] h = absurd (true≢false (sym h))
  any-find (x ∷ l) h = go (any-find l) (or_cases (on x) (any on l) h)
    where
      go : (any on l ≡ true → (z : ℕ) × Mem z l × (on z ≡ true)) → (on x ≡ true) ⊎ (any on l ≡ true) →
          (z : ℕ) × Mem z (x ∷ l) × (on z ≡ true)
      go f (inl k) = (x, inl refl, k)
      go f (inr k) = let r = f k in (r.0, inr r.1, r.2)

  any_none : (l : List ℕ) → any on l ≡ false → (z : ℕ) → Mem z l → on z ≡ true → ⊥
  any_none l h z m k = true≢false (sym (any_of z l m k) ∙ h)

  pub first-split : (l : List ℕ) → any on l ≡ true → l ≡ before on l ++ first_on on l ∷ after on l
  first-split [] h = absurd (true≢false (sym h))
  first-split (x ∷ l) h = go (on x) h (first-split l)
    where
      go : (b : Bool) → b || any on l ≡ true → (any on l ≡ true → l ≡ before on l ++ first_on on l ∷ after on l)
          → x ∷ l ≡ cond b [] (x ∷ before on l) ++ cond b x (first_on on l) ∷ cond b l (after on l)
      go true k f = refl
      go false k f = ap (λ (t : List ℕ). x ∷ t) (f k)

  pub first_on_lem : (l : List ℕ) → any on l ≡ true → on (first_on on l) ≡ true
  first_on_lem [] h = absurd (true≢false (sym h))
  first_on_lem (x ∷ l) h = go (on x) refl h (first_on_lem l)
    where
      go : (b : Bool) → on x ≡ b → b || any on l ≡ true → (any on l ≡ true → on (first_on on l) ≡ true) →
          on (cond b x (first_on on l)) ≡ true
      go true e k f = e
      go false e k f = f k

  pub before-off : (l : List ℕ) (z : ℕ) → Mem z (before on l) → on z ≡ true → ⊥
  before-off [] z m k = m
  before-off (x ∷ l) z m k = go (on x) refl m (before-off l z)
    where
      go : (b : Bool) → on x ≡ b → Mem z (cond b [] (x ∷ before on l)) → (Mem z (before on l) → on z ≡ true → ⊥) → ⊥
      go true e h f = h
      go false e (inl h) f = true≢false (sym k ∙ (ap on h ∙ e))
      go false e (inr h) f = f h k

  pub last-split : (l : List ℕ) → any on l ≡ true → (m : List ℕ) × (l ≡ m ++ last_on on l ∷ past on l)
  last-split [] h = absurd (true≢false (sym h))
  last-split (x ∷ l) h = go (any on l) refl (last-split l)
    where
      go : (b : Bool) → any on l ≡ b → (any on l ≡ true → (m : List ℕ) × (l ≡ m ++ last_on on l ∷ past on l))
          → (m : List ℕ) × (x ∷ l ≡ m ++ cond b (last_on on l) x ∷ cond b (past on l) l)
      go true e f = let r = f e in (x ∷ r.0, ap (λ (t : List ℕ). x ∷ t) r.1)
      go false e f = ([], refl)

  pub last_on_lem : (l : List ℕ) → any on l ≡ true → on (last_on on l) ≡ true
  last_on_lem [] h = absurd (true≢false (sym h))
  last_on_lem (x ∷ l) h = go (any on l) refl (or_cases (on x) (any on l) h) (last_on_lem l)
    where
      go : (b : Bool) → any on l ≡ b → (on x ≡ true) ⊎ (any on l ≡ true) → (any on l ≡ true → on (last_on on l) ≡ true)
          → on (cond b (last_on on l) x) ≡ true
      go true e k f = f e
      go false e (inl k) f = k
      go false e (inr k) f = absurd (true≢false (sym k ∙ e))

  pub past_off : (l : List ℕ) (z : ℕ) → Mem z (past on l) → on z ≡ true → ⊥
  past_off [] z m k = m
  past_off (x ∷ l) z m k = go (any on l) refl m (past_off l z)
    where
      go : (b : Bool) → any on l ≡ b → Mem z (cond b (past on l) l) → (Mem z (past on l) → on z ≡ true → ⊥) → ⊥
      go true e h f = f h k
      go false e h f = any_none l e z h k

pub memb_mem : (l : List ℕ) (z : ℕ) → memb l z ≡ true → Mem z l
memb_mem l z h = let r = any-find (λ x. eqb z x) l h in rw (eqb-true z r.0 r.2) r.1

pub mem_memb : (l : List ℕ) (z : ℕ) → Mem z l → memb l z ≡ true
mem_memb l z m = any_of (λ x. eqb z x) z l m (eq-eqb z z refl)
