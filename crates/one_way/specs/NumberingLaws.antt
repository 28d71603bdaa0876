-- What the call refuses, by the checks passed and the one that fails, and each number bound to its cause.
use Rattle.std.specs.Prelude.{◌≡◌, ℕ, zero, suc, ◌<◌, ◌≤◌, false, cond, ◌↔◌, List, [], ◌∷◌, ◌++◌, length, ◌==◌, ◌≢◌}
use Rattle.std.specs.Prelude.{nat_le, nat_lt, refl}
use Rattle.std.proofs.Math.Path.{sym}
use Rattle.std.proofs.Common.{◌∙◌, inl, inr, arith, ltb-true, lt-ltb, le-ltb, ltb-false, leb-false, ne_eqb}
use Rattle.std.proofs.Math.Decide.{ℕ_discrete}
use Rattle.std.proofs.lemmas.Bool.{eqb-false}
use Rattle.base_lists.specs.Tests.{or_false-left, or_false-right}
use Rattle.table.specs.Refusals.{first_of}
use Rattle.table.specs.RefusalLaws.{Reason, FirstCause, SomeCause, tests, first-cause, some-cause, first_some}
use Rattle.table.specs.RefusalLaws.{first-none, passed-test}
use Rattle.table.specs.Table.{max_units, bad_unit_count, odd_words, too_many_links, end_missing, equal_ends}
use Rattle.table.specs.Table.{repeated_pair}
use Rattle.table.specs.Table.{pair_tests, pair_refusal}
use Rattle.table.specs.TableCauses.{pair_reasons}
use Rattle.theory_min_label.specs.MinLabel.{min_label}
use Rattle.theory_min_label.specs.Groups.{Link}
use Rattle.theory_min_label.specs.Hands.{Ends, Site}
use Rattle.one_way.specs.Numbering.{strong_refusal, strong_reply, strong_numbers, number_of, values_of}
use Rattle.one_way.specs.declared.Numbering.{Numbering}
use Rattle.one_way.specs.declared.Numbering.TheVariants.{Passes, Refused}

-- ---- the number

module _ (n : ℕ) (t : List ℕ) (words : ℕ) where
  pub strong-table : (pair_refusal n t ≢ 0) → pair_refusal n t ≡ strong_refusal n t words
  unfolding pair_refusal strong_refusal
  strong-table h = sym (first_some (pair_tests n t) ((14, nat_lt words n) ∷ []) h)

  -- where the table passes, 14 is left
  left : pair_refusal n t ≡ 0 → strong_refusal n t words ≡ first_of ((14, nat_lt words n) ∷ [])
  unfolding pair_refusal strong_refusal
  left e = first-none (pair_tests n t) ((14, nat_lt words n) ∷ []) (omega arith) e

  pub strong-short : pair_refusal n t ≡ 0 → words < n → 14 ≡ strong_refusal n t words
  strong-short e l = sym (left e ∙ rw (lt-ltb words n l) refl)

  pub strong-passed : pair_refusal n t ≡ 0 → n ≤ words → 0 ≡ strong_refusal n t words
  strong-passed e l = sym (left e ∙ rw (le-ltb words n l) refl)

-- ---- the causes

-- 4 to 9 of ordered pairs, then 14: the slice has fewer than n words
unfoldable pub strong_reasons : ℕ → List ℕ → ℕ → List Reason
strong_reasons n t words = pair_reasons n t
    ++ (record { number = 14; test = nat_lt words n; cause = words < n; exact = (ltb-true words n, lt-ltb words n) }
    ∷ [])

strong_refusal-tests : (n : ℕ) (t : List ℕ) (words : ℕ) →
    strong_refusal n t words ≡ first_of (tests (strong_reasons n t words))
unfolding strong_refusal strong_reasons pair_reasons
strong_refusal-tests n t words = refl

-- the reply is k exactly when cause k holds and no earlier one does
pub strong-first_cause : (n : ℕ) (t : List ℕ) (words k : ℕ) → (k ≢ 0) →
    (strong_refusal n t words ≡ k) ↔ FirstCause (strong_reasons n t words) k
strong-first_cause n t words k h = rw strong_refusal-tests (first-cause (strong_reasons n t words) k h)

-- the call is refused exactly when some cause holds
pub strong-some_cause : (n : ℕ) (t : List ℕ) (words : ℕ) →
    (strong_refusal n t words ≢ 0) ↔ SomeCause (strong_reasons n t words)
unfolding strong_reasons pair_reasons
strong-some_cause n t words = rw strong_refusal-tests (some-cause (strong_reasons n t words) (omega arith))

-- ---- a table that passes

missing-ends : (n : ℕ) (t : List ℕ) → end_missing n t ≡ false → Ends n t
unfolding end_missing
missing-ends n [] e i h = absurd (omega arith)
missing-ends n (x ∷ t) e zero h = leb-false n x (or_false-left (nat_le n x) (end_missing n t) e)
missing-ends n (x ∷ t) e (suc i) h = missing-ends n t (or_false-right (nat_le n x) (end_missing n t) e) i (omega arith)

no_loops : (t : List ℕ) → equal_ends t ≡ false → (u : ℕ) → Link t u u → ⊥
unfolding equal_ends
no_loops [] e u l = l
no_loops (a ∷ []) e u l = l
no_loops (a ∷ b ∷ t) e u (inl (p, q)) = eqb-false a b (or_false-left (a == b) (equal_ends t) e) (sym p ∙ q)
no_loops (a ∷ b ∷ t) e u (inr l) = no_loops t (or_false-right (a == b) (equal_ends t) e) u l

pub accepted-site : (n : ℕ) (t : List ℕ) (words : ℕ) → strong_refusal n t words ≡ 0 → Site n t × (n ≤ words)
unfolding strong_refusal
accepted-site n t words e =
    let p4 = passed-test (bad_unit_count n) 4 _ (omega arith) e in
    let p5 = passed-test (odd_words t) 5 _ (omega arith) p4.1 in
    let p6 = passed-test (too_many_links t) 6 _ (omega arith) p5.1 in
    let p7 = passed-test (end_missing n t) 7 _ (omega arith) p6.1 in
    let p8 = passed-test (equal_ends t) 8 _ (omega arith) p7.1 in
    let p9 = passed-test (repeated_pair t) 9 _ (omega arith) p8.1 in
    let p14 = passed-test (nat_lt words n) 14 _ (omega arith) p9.1 in (
      record {
        few = ltb-false max_units n (or_false-right (n == 0) (nat_lt max_units n) p4.0);
        ends = missing-ends n t p7.0;
        loopless = no_loops t p8.0;
      },
      ltb-false words n p14.0,
    )

-- ---- the reply and the slice

module _ (n : ℕ) (t out : List ℕ) where
  pub strong-refused : (k : ℕ) → k ≡ strong_refusal n t (length out) → (k ≢ 0) →
      (Refused k ≡ strong_reply n t out) × (out ≡ strong_numbers n t out)
  unfolding strong_reply strong_numbers
  strong-refused k e z = rw (← e) (rw (ne_eqb k 0 z) (refl, refl))

  pub strong-accepted : strong_refusal n t (length out) ≡ 0 →
      (Passes (min_label n t out).1 ≡ strong_reply n t out) × ((min_label n t out).0 ≡ strong_numbers n t out)
  unfolding strong_reply strong_numbers
  strong-accepted e = rw e (refl, refl)

  -- a reply that is the call's tells its number and values
  pub strong-tells : (r : Numbering) → r ≡ strong_reply n t out
      → (number_of r ≡ strong_refusal n t (length out))
      × (values_of r ≡ cond (strong_refusal n t (length out) == 0) ((min_label n t out).1 ∷ []) [])
  unfolding strong_reply
  strong-tells r e = rw e (go (strong_refusal n t (length out)) (ℕ_discrete (strong_refusal n t (length out)) 0))
    where
      go : (k : ℕ) → Dec (k ≡ 0) → (number_of (cond (k == 0) (Passes (min_label n t out).1) (Refused k)) ≡ k)
          × (values_of (cond (k == 0) (Passes (min_label n t out).1) (Refused k))
          ≡ cond (k == 0) ((min_label n t out).1 ∷ []) [])
      go k (yes z) = rw z (refl, refl)
      go k (no z) = rw (ne_eqb k 0 z) (refl, refl)
