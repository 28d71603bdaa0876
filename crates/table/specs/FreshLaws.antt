-- Why a fresh table is refused (document 02, T-10): for a stored table's causes, and last because a unit has no link.
-- 22 in words, and that its test decides it.
use Rattle.std.specs.Prelude.{◌≡◌, true, not, ◌||◌, ◌⊎◌, ◌↔◌, List, [], ◌∷◌, ◌++◌, ℕ, zero}
use Rattle.std.specs.Prelude.{suc, ◌≤◌, ◌<◌, leb, eqb, ℤ}
use Rattle.std.proofs.Common.{inl, inr, arith, leb-true, le-leb, eqb-true, eq-eqb}
use Rattle.std.proofs.lemmas.Bool.{false≢true, not-true}
use Rattle.std.proofs.Math.Decide.{ℕ_discrete}
use Rattle.base_lists.specs.Tests.{or_cases, or_left, or_right, and_left, and_right, and-true, not_both, refuted}
use Rattle.table.specs.RefusalLaws.{Reason}
use Rattle.table.specs.TableLaws.{end_a-later, end_b-later}
use Rattle.table.specs.TableCauses.{stored_reasons}
use Rattle.table.specs.Table.{link_count, end_a, end_b, is_end, unlinked_below, unlinked_unit}

-- ---- the cause

-- unit u is an end of the link at position j
abbrev pub EndOf : List ℕ → ℕ → ℕ → Type 0
EndOf t u j = (u ≡ end_a t j) ⊎ (u ≡ end_b t j)

-- no link ends at unit u
abbrev pub Unlinked : List ℕ → ℕ → Type 0
Unlinked t u = (j : ℕ) → j < link_count t → EndOf t u j → ⊥

-- n is 2 or more, and some unit has no link
abbrev pub UnlinkedUnit : ℕ → List ℕ → Type 0
UnlinkedUnit n t = (2 ≤ n) × (u : ℕ) × (u < n) × Unlinked t u

-- ---- the test decides it

end-forth : (u : ℕ) (t : List ℕ) → is_end u t ≡ true → (j : ℕ) × (j < link_count t) × EndOf t u j
unfolding is_end
end-forth u [] e = absurd (false≢true e)
end-forth u (a ∷ []) e = absurd (false≢true e)
end-forth u (a ∷ b ∷ t) e = go (end-forth u t) (or_cases (eqb u a) (eqb u b || is_end u t) e)
  where
    later : (is_end u t ≡ true → (j : ℕ) × (j < link_count t) × EndOf t u j) → (eqb u b ≡ true) ⊎ (is_end u t ≡ true)
        → (j : ℕ) × (j < link_count (a ∷ b ∷ t)) × EndOf (a ∷ b ∷ t) u j
    later rest (inl h) = (zero, omega arith, inr (eqb-true u b h))
    later rest (inr h) =
        let p = rest h in
        let l : p.0 < link_count t = p.1 in
        (suc p.0, omega arith, rw (end_a-later a b t p.0, end_b-later a b t p.0) p.2)

    go : (is_end u t ≡ true → (j : ℕ) × (j < link_count t) × EndOf t u j) →
        (eqb u a ≡ true) ⊎ ((eqb u b || is_end u t) ≡ true)
        → (j : ℕ) × (j < link_count (a ∷ b ∷ t)) × EndOf (a ∷ b ∷ t) u j
    go rest (inl h) = (zero, omega arith, inl (eqb-true u a h))
    go rest (inr h) = later rest (or_cases (eqb u b) (is_end u t) h)

end_back : (u : ℕ) (t : List ℕ) (j : ℕ) → j < link_count t → EndOf t u j → is_end u t ≡ true
unfolding is_end
end_back u [] j l e = absurd (omega arith)
end_back u (a ∷ []) j l e = absurd (omega arith)
end_back u (a ∷ b ∷ t) zero l (inl e) = or_left (eqb u a) (eqb u b || is_end u t) (eq-eqb u a e)
end_back u (a ∷ b ∷ t) zero l (inr e) = or_right (eqb u a) (eqb u b || is_end u t)
    (or_left (eqb u b) (is_end u t) (eq-eqb u b e))
end_back u (a ∷ b ∷ t) (suc j) l e =
    or_right (eqb u a) (eqb u b || is_end u t)
    (or_right (eqb u b) (is_end u t)
    (end_back u t j (omega arith) (rw (end_a-later a b t j, end_b-later a b t j) at e)))

below-forth : (k : ℕ) (t : List ℕ) → unlinked_below k t ≡ true → (u : ℕ) × (u < k) × Unlinked t u
unfolding unlinked_below
below-forth zero t e = absurd (false≢true e)
below-forth (suc k) t e = go (below-forth k t) (or_cases (unlinked_below k t) (not (is_end k t)) e)
  where
    go : (unlinked_below k t ≡ true → (u : ℕ) × (u < k) × Unlinked t u) →
        (unlinked_below k t ≡ true) ⊎ (not (is_end k t) ≡ true)
        → (u : ℕ) × (u < suc k) × Unlinked t u
    go rest (inl h) = let p = rest h in let l : p.0 < k = p.1 in (p.0, omega arith, p.2)
    go rest (inr h) = (k, omega arith, λ j l q. not_both (is_end k t) (end_back k t j l q) (not-true (is_end k t) h))

below-back : (k : ℕ) (t : List ℕ) (u : ℕ) → u < k → Unlinked t u → unlinked_below k t ≡ true
unfolding unlinked_below
below-back zero t u l n = absurd (omega arith)
below-back (suc k) t u l n = go (λ (h : u < k). below-back k t u h n) (ℕ_discrete u k)
  where
    free : u ≡ k → is_end k t ≡ true → ⊥
    free e h = let p = end-forth k t h in n p.0 p.1 (rw e p.2)

    go : (u < k → unlinked_below k t ≡ true) → Dec (u ≡ k) → (unlinked_below k t || not (is_end k t)) ≡ true
    go rest (yes e) = or_right (unlinked_below k t) (not (is_end k t)) (rw (refuted (is_end k t) (free e)))
    go rest (no d) = or_left (unlinked_below k t) (not (is_end k t)) (rest (omega arith))

pub unlinked_exact : (n : ℕ) (t : List ℕ) → (unlinked_unit n t ≡ true) ↔ UnlinkedUnit n t
unlinked_exact n t = (
  λ e.
      let p = below-forth n t (and_right (leb 2 n) (unlinked_below n t) e) in
      (leb-true 2 n (and_left (leb 2 n) (unlinked_below n t) e), p.0, p.1, p.2),
  λ c. and-true (leb 2 n) (unlinked_below n t) (le-leb 2 n c.0) (below-back n t c.1 c.2 c.3),
)

-- ---- each number is bound to its cause, and only that

-- 22
abbrev pub unit_reasons : ℕ → List ℕ → List Reason
unit_reasons n t = record {
  number = 22;
  test = unlinked_unit n t;
  cause = UnlinkedUnit n t;
  exact =
      unlinked_exact n t;
}
    ∷ []

unfoldable pub fresh_reasons : ℕ → List ℕ → List ℤ → List Reason
fresh_reasons n t ls = stored_reasons n t ls ++ unit_reasons n t
