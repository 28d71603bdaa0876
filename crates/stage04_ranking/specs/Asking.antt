-- An object after a ranking round, by whether it has a predecessor.
use Rattle.std.specs.Prelude.{◌≡◌, true, false, not, List, ℕ, ◌+◌, ◌≤◌, length}
use Rattle.std.proofs.Common.{sym, ap, ◌∙◌, eq-eqb, ne_eqb}
use Rattle.std.proofs.Math.ListN.{get_or-eq_default}
use Rattle.base_lists.specs.Tables.{over}
use Rattle.base_lists.specs.Tests.{cond_true, cond_false}
use Rattle.spec_rules.specs.Basics.{ABSENT, at, bounded}
use Rattle.table_values.specs.Passes.{over-kept}
use Rattle.spec_rules.specs.Ranking.{asks, jump_after, sum_after}

module _ (jump sum : List ℕ) (a before own : ℕ) (is : before ≡ at jump a) (has : own ≡ at sum a) where
  asking : (before ≡ ABSENT → ⊥) → asks jump a ≡ true
  asking n = ap not (ne_eqb (at jump a) ABSENT (λ q. n (is ∙ q)))

  still : before ≡ ABSENT → asks jump a ≡ false
  still e = ap not (eq-eqb (at jump a) ABSENT (sym is ∙ e))

  pub jump-taken : (x : ℕ) → x ≡ at jump before → (before ≡ ABSENT → ⊥) → x ≡ jump_after jump a
  jump-taken x e n = e ∙ ap (at jump) is ∙ sym (cond_true (asks jump a) (at jump (at jump a)) (at jump a) (asking n))

  pub sum-taken : (x : ℕ) → x ≡ bounded (own + at sum before) → (before ≡ ABSENT → ⊥) → x ≡ sum_after jump sum a
  sum-taken x e n =
      e
      ∙ ap (λ (y : ℕ). bounded (y + at sum before)) has
      ∙ ap (λ (y : ℕ). bounded (at sum a + at sum y)) is
      ∙ sym (cond_true (asks jump a) (bounded (at sum a + at sum (at jump a))) (at sum a) (asking n))

  pub jump_kept : before ≡ ABSENT → before ≡ jump_after jump a
  jump_kept e = is ∙ sym (cond_false (asks jump a) (at jump (at jump a)) (at jump a) (still e))

  pub sum_kept : before ≡ ABSENT → own ≡ sum_after jump sum a
  sum_kept e = has ∙ sym (cond_false (asks jump a) (bounded (at sum a + at sum (at jump a))) (at sum a) (still e))

  -- a predecessor past the tables' end: 0 is read there
  module _ (n : before ≡ ABSENT → ⊥) where
    pub jump-past : length jump ≤ before → 0 ≡ jump_after jump a
    jump-past h = jump-taken 0 (sym (get_or-eq_default jump 0 h)) n

    pub sum_past : length sum ≤ before → (x : ℕ) → x ≡ bounded (own + 0) → x ≡ sum_after jump sum a
    sum_past h x e = sum-taken x (e ∙ ap (λ (y : ℕ). bounded (own + y)) (sym (get_or-eq_default sum 0 h))) n

  -- no predecessor: both entries stay
  module _ (e : before ≡ ABSENT) (t : List ℕ) where
    pub jump-stays : t ≡ over a (jump_after jump) jump → t ≡ over (a + 1) (jump_after jump) jump
    jump-stays was = over-kept a (jump_after jump) jump t was (sym (jump_kept e) ∙ is)

    pub sum-stays : t ≡ over a (sum_after jump sum) sum → t ≡ over (a + 1) (sum_after jump sum) sum
    sum-stays was = over-kept a (sum_after jump sum) sum t was (sym (sum_kept e) ∙ has)
