-- 18's test from the tables that the code makes: marks of units whose parent is a neighbour, and tops.
use Rattle.std.specs.Prelude.{◌≡◌, refl, Bool, true, false, cond, ◌&&◌, List, ℕ, ◌+◌, ◌*◌, ◌≤◌, ◌<◌, length, get_or}
use Rattle.std.proofs.Common.{sym, ◌∙◌, arith}
use Rattle.std.proofs.Math.Path.{ap, ap₂}
use Rattle.std.proofs.Math.Bool.{not, ◌||◌, or_assoc}
use Rattle.std.proofs.Math.Dec.{eqb, ltb}
use Rattle.base_lists.specs.Folds.{some}
use Rattle.base_lists.specs.Some.{some_cong, some_or, some_more}
use Rattle.table.specs.Table.{end_a, end_b}
use Rattle.spec_rules.specs.Basics.{ABSENT, at}
use Rattle.spec_rules.specs.Fits.{EndsWithin}
use Rattle.spec_rules.specs.Planned.{top_of, parent_link, stray_parent, stray_top, splits, plan_unfit}

-- v has a parent and no mark, or is below its top
abbrev pub stray : List ℕ → List ℕ → List ℕ → ℕ → Bool
stray parents near tops v = (not (eqb (at parents v) ABSENT) && eqb (at near v) 0) || ltb v (at tops v)

-- the ends of link j have different tops
abbrev pub tops_differ : List ℕ → List ℕ → ℕ → Bool
tops_differ table tops j = not (eqb (at tops (end_a table j)) (at tops (end_b table j)))

-- ---- one more, as the loops look

pub stray-more : (parents near tops : List ℕ) (v : ℕ) (was new x y : Bool) (up mark top : ℕ) →
    was ≡ some v (stray parents near tops)
    → up ≡ at parents v → mark ≡ at near v → top ≡ at tops v → x ≡ (not (eqb up ABSENT) && eqb mark 0) →
    y ≡ (x || ltb v top) → new ≡ (was || y)
    → new ≡ some (v + 1) (stray parents near tops)
stray-more parents near tops v was new x y up mark top h p q t b d e =
    some_more v (stray parents near tops) was new y h (rw (d, b, p, q, t) refl) e

pub differ-more : (table tops : List ℕ) (j : ℕ) (was new : Bool) (a b : ℕ) → was ≡ some j (tops_differ table tops) →
    a ≡ at tops (end_a table j) → b ≡ at tops (end_b table j)
    → new ≡ (was || not (eqb a b)) → new ≡ some (j + 1) (tops_differ table tops)
differ-more table tops j was new a b h p q e =
    some_more j (tops_differ table tops) was new (not (eqb a b)) h (rw (p, q) refl) e

-- ---- all

blank : (b : Bool) → eqb (cond b 1 0) 0 ≡ not b
blank true = refl
blank false = refl

module _ (n m : ℕ) (table parents near tops : List ℕ) (few : n ≤ 256) (ends : EndsWithin n m table)
    (marks : (v : ℕ) → v < 256 → get_or near v 0 ≡ cond (some m (parent_link table parents v)) 1 0)
    (top : (v : ℕ) → v < n → get_or tops v 0 ≡ top_of parents n v) where
  pub unfit_by : (some n (stray parents near tops) || some m (tops_differ table tops)) ≡ plan_unfit n m table parents
  unfolding plan_unfit
  unfit_by =
      ap₂ ◌||◌
      (some_or n (stray parents near tops) (stray_parent m table parents) (stray_top n parents)
      (λ v l.
      ap₂ ◌||◌
      (ap (λ (b : Bool). not (eqb (at parents v) ABSENT) && b) (ap (λ (x : ℕ). eqb x 0) (marks v (omega arith))
      ∙ blank (some m (parent_link table parents v))))
      (ap (λ (x : ℕ). ltb v x) (top v l))))
      (some_cong m (tops_differ table tops) (splits n table parents)
      (λ j l. ap not (ap₂ eqb (top (end_a table j) (ends.1 (2 * j) (omega arith)))
      (top (end_b table j) (ends.1 (2 * j + 1) (omega arith))))))
      ∙ or_assoc (some n (stray_parent m table parents)) (some n (stray_top n parents))
      (some m (splits n table parents))
