-- The tables of colors and parents form a spanning forest rooted at the color units: all that stages 3 to 10 assume of
-- stages 1 and 2. The depth function is any; nothing here says how parents were chosen.
use Rattle.std.specs.Prelude.{◌≡◌, true, cond, not, ◌↔◌, List, ℕ, ◌<◌, ◌≤◌, ltb}
use Rattle.std.proofs.Common.{pos_of_ne-zero, arith}
use Rattle.base_lists.specs.Tests.{not_exact}
use Rattle.spec_rules.specs.Basics.{ABSENT, at, is_root}
use Rattle.spec_rules.specs.BoundLaws.{eq_exact}
use Rattle.theory_graph.specs.Forest.{Forest}
use Rattle.theory_reach.specs.Site.{Link}

-- the root of v: its color; a number that is no unit is a root of its own
abbrev pub root_of : ℕ → List ℕ → ℕ → ℕ
root_of n color v = cond (ltb v n) (at color v) v

pub record Rooted (n m : ℕ) (ends color parent : List ℕ) (d : ℕ → ℕ) : Type 0 where
  pub forest : Forest (Link m ends) (at parent) d (root_of n color)
  -- roots are the units whose parent is absent
  pub absent_root : (v : ℕ) → v < n → (at parent v ≡ ABSENT) ↔ (d v ≡ 0)
  pub parent_below : (v : ℕ) → v < n → 0 < d v → at parent v < n
  pub color_below : (v : ℕ) → v < n → at color v < n
  pub outside : (v : ℕ) → n ≤ v → d v ≡ 0

-- the rules' test for a root, and for a unit with a parent
module _ {n m : ℕ} {ends color parent : List ℕ} {d : ℕ → ℕ} (rooted : Rooted n m ends color parent d) where
  pub root-exact : (v : ℕ) → v < n → (is_root parent v ≡ true) ↔ (d v ≡ 0)
  root-exact v l = (
    λ t. (rooted.absent_root v l).0 ((eq_exact (at parent v) ABSENT).0 t),
    λ z. (eq_exact (at parent v) ABSENT).1 ((rooted.absent_root v l).1 z),
  )

  pub nonroot_exact : (v : ℕ) → v < n → (not (is_root parent v) ≡ true) ↔ (0 < d v)
  nonroot_exact v l = (
    λ t. pos_of_ne-zero (λ z. (not_exact (is_root parent v) (root-exact v l)).0 t z),
    λ h. (not_exact (is_root parent v) (root-exact v l)).1 (λ z. omega arith),
  )
