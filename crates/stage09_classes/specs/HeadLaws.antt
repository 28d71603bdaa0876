-- Between each unit and its head.
use Rattle.std.specs.Prelude.{◌≡◌, true, ◌||◌, ◌⊎◌, List, eqb, get_or, set}
use Rattle.std.proofs.Math.Path.{refl}
use Rattle.std.proofs.Common.{sym, ◌∙◌, true≢false, inl, inr, arith}
use Rattle.std.proofs.Math.Bool.{false, cond}
use Prim.Native.Nat.{ℕ, zero, suc, ◌+◌, ◌<◌, min}
use Rattle.std.proofs.Math.Numerals.{add-one}
use borrow.Author.Tests.{eq-eqb, lt-ltb}
use Rattle.base_lists.specs.All.{All, every-exact}
use Rattle.base_lists.specs.Tests.{or_false-right}
use Rattle.base_lists.specs.Tests.{either}
use Rattle.base_lists.specs.Tables.{over}
use Rattle.base_lists.specs.Folds.{least, every}
use Rattle.base_lists.specs.Scatter.{takes_in, fold_absorbs, single-over}
use Rattle.spec_rules.specs.Basics.{ABSENT, at, is_root}
use Rattle.spec_rules.specs.Bounds.{name_ok}
use Rattle.spec_rules.specs.BoundLaws.{Names, name-exact, names_at}
use Rattle.stage09_aux.specs.Heads.{head_of, Heads}
use Rattle.stage09_classes.specs.Propagation.{to_heads}

pub heads-exist : (n : ℕ) (parent marks heads : List ℕ) → every (name_ok n) parent ≡ true →
    ((u : ℕ) → u < n → at heads u ≡ head_of parent marks u)
    → Heads n parent marks heads
heads-exist n parent marks heads fit are =
    record { are = are; exist = λ u h. rw (are u h) (go u h (either (eqb (at marks u) 0 || is_root parent u))) }
  where
    names : All (Names n) parent
    names = (every-exact (name_ok n) (Names n) (name-exact n) parent).0 fit

    named : (u : ℕ) → Names n (at parent u) → is_root parent u ≡ false → at parent u < n
    named u (inl h) e = h
    named u (inr q) e = absurd (true≢false (sym (eq-eqb (at parent u) ABSENT q) ∙ e))

    go : (u : ℕ) → u < n → ((eqb (at marks u) 0 || is_root parent u) ≡ true)
        ⊎ ((eqb (at marks u) 0 || is_root parent u) ≡ false) → head_of parent marks u < n
    go u h (inl e) = rw e h
    go u h (inr e) = rw e (named u (names_at n parent u (omega (arith, h)) names)
        (or_false-right (eqb (at marks u) 0) (is_root parent u) e))

module _ (n : ℕ) (heads said : List ℕ) where
  pub to_none : (old : List ℕ) → old ≡ to_heads 0 n heads said old
  unfolding to_heads
  to_none old = refl

  pub to-more : (k : ℕ) (old t new : List ℕ) → t ≡ to_heads k n heads said old → at heads k < n
      → new ≡ set t (at heads k) (min (get_or t (at heads k) 0) (at said k)) → new ≡ to_heads (k + 1) n heads said old
  unfolding to_heads takes_in
  to-more k old t new was low put = rw (put, add-one k, ← was, lt-ltb (at heads k) n low)

  pub to-over : (k : ℕ) (before : ℕ → ℕ) → ((v : ℕ) → min (before v) (at said v) ≡ before v)
      → to_heads k n heads said (over n before said)
      ≡ over n (λ (v : ℕ). least k (λ (u : ℕ). cond (eqb (at heads u) v) (at said u) (at said v)) (before v)) said
  unfolding to_heads
  to-over zero before own = refl
  to-over (suc k) before own =
      rw (to-over k before own)
      (single-over false n (λ (v : ℕ). least k (λ (u : ℕ). cond (eqb (at heads u) v) (at said u) (at said v))
      (before v)) (at said) said
      (at heads k) (at said k)
      (λ (v : ℕ). fold_absorbs false k (λ (u : ℕ). cond (eqb (at heads u) v) (at said u) (at said v)) (before v)
      (at said v) (own v)))
