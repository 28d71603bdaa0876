-- The words from a place on.
use mathlib.Core.Path.{◌≡◌, ap, ◌∙◌}
use Prim.Native.Nat.{ℕ, ◌+◌, ◌-◌}
use native.Mathlib.Omega.{arith}
use lib.ListN.{take, drop}
use Rattle.base_lists.specs.Folds.{every}
use Rattle.base_copies.specs.Parts.{part}
use Rattle.words_layout.proofs.judged.within.Goals as goal

pub returns : goal.returns
unfolding part
returns c =
    let a = c.args in
    let size : a.at + a.n - a.at ≡ a.n = omega arith in
    λ p tells. c.within.ensures p tells ∙ ap (λ (k : ℕ). every p (take k (drop a.at a.words.now))) size
