-- The words passed are x, and the rest is as it was.
use Rattle.std.proofs.Common.{◌≡◌, sym, ◌∙◌, ℕ, ◌+◌, ◌-◌, ◌≤◌, List, false, leb, length, replicate, take, drop}
use Rattle.std.proofs.Common.{length-drop, length-take-le, arith, leb-true}
use Rattle.std.proofs.lemmas.List.{length-replicate}
use Rattle.base_copies.specs.CopyLaws.{laid_out}
use Rattle.base_copies.proofs.Places.{mid-laid}
use Rattle.base_copies.proofs.fill.Goals as goal

-- as many as the part that they stand in for
many : (ws : List ℕ) (at n : ℕ) → at + n ≤ length ws → length (take (at + n - at) (drop at ws)) ≡ n
many ws at n h =
    let size : at + n - at ≡ n = omega arith in
    rw size (length-take-le n (drop at ws) (omega (arith, length-drop at ws, h)))

pub returns-then-not-fits : goal.returns-then-not-fits
returns-then-not-fits c =
    let a = c.args in
    let far : leb (a.at + a.count) (length a.words.now) ≡ false =
    sym c.fits.ensures ∙ c.if-not-fits.true in
    laid_out a.at (replicate a.count a.x) a.words.now (rw (length-replicate a.count a.x) far)

pub returns : goal.returns
returns c =
    let a = c.args in
    let there : a.at + a.count ≤ length a.words.now = leb-true _ _ (sym c.fits.ensures ∙ c.if-not-fits.false) in
    rw (c.fill.ensures.after (λ y e. e), many a.words.now a.at a.count there)
    (mid-laid a.words.now (replicate a.count a.x) a.at a.count (sym (length-replicate a.count a.x)) there)
