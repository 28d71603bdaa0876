-- Unit by unit.
use mathlib.Core.Path.{◌≡◌, refl, ◌∙◌}
use mathlib.Core.Bool.{cond}
use mathlib.Core.List.{List}
use Prim.Native.Nat.{ℕ, ◌<◌, min}
use native.Mathlib.Decide.{dec_lt}
use native.Mathlib.Omega.{arith}
use lib.Dec.{ltb}
use lib.ListN.{length, get_or}
use borrow.Author.Tests.{lt-ltb, le-ltb}
use Rattle.base_lists.specs.Tables.{over, get_d_over, get_d_over_past}
use Rattle.base_lists.specs.Rounds.{over-more}
use Rattle.spec_rules.specs.Basics.{ABSENT}
use Rattle.stage09_aux.specs.Heads.{head_of}
use borrow.Author.Rules.{rules}
use Rattle.stage09_aux.proofs.heads.of.Goals as goal

-- a head, or what was there
head_at : (n : ℕ) (f : ℕ → ℕ) (old new : List ℕ) (u : ℕ) → length old ≡ 256 → new ≡ over n f old → u < 256 →
    get_or old u 0 ≡ ABSENT → Dec (u < n)
    → get_or new u 0 ≡ cond (ltb u n) (f u) ABSENT
head_at n f old new u full is h was (yes l) = rw (is, lt-ltb u n l) (get_d_over n f old u 0 l (omega (arith, h, full)))
head_at n f old new u full is h was (no l) =
    rw (is, le-ltb u n (omega (arith, l))) (get_d_over_past n f old u 0 (omega (arith, l)) ∙ was)

pub loop-u-preserved : goal.loop-u-preserved
loop-u-preserved c =
    let a = c.args in
    let is : c.choose.result ≡ head_of a.parent.now a.parents.now c.loop-u.u = search rules in
    over-more _ _ _ _ _ _ c.loop-u.invariant is refl

pub returns : goal.returns
returns c =
    let a = c.args in
    let all : c.loop-u.u ≡ min a.units 256 = search rules in
    λ u h. head_at (min a.units 256) (head_of a.parent.now a.parents.now) c.blank-new.result
    c.loop-u.new u (search rules) (rw all at c.loop-u.invariant) h (c.blank-new.ensures u h)
    (dec_lt u (min a.units 256))
