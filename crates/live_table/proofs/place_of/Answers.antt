-- Link by link from the front.
use Rattle.std.specs.Prelude.{cond, List, [], ◌∷◌, ◌++◌, ℕ, suc, get_or}
use Rattle.std.proofs.Common.{◌≡◌, refl, sym, ◌∙◌, ◌≤◌, length, ◌+◌, arith}
use Rattle.std.specs.Iterator.Adapters.{enumerate_source}
use Rattle.std.specs.Slice.Iter.{chunks_exact_rest}
use Rattle.table.specs.Table.{same_ends}
use Rattle.live_table.specs.Live.{place_of}
use Rattle.live_table.specs.PlaceLaws.{place_end}
use Rattle.live_table.proofs.place_of.Goals as goal

two : (link later : List ℕ) → length link ≡ 2 → link ++ later ≡ get_or link 0 0 ∷ get_or link 1 0 ∷ later
two [] later e = absurd (omega arith)
two (a ∷ []) later e = absurd (omega arith)
two (a ∷ b ∷ []) later e = refl
two (a ∷ b ∷ c ∷ t) later e = absurd (omega arith)

-- the search from a link on, and how many links there are
front : (a b : ℕ) (rest link later : List ℕ) → rest ≡ link ++ later → length link ≡ 2 →
    (place_of a b rest ≡ cond (same_ends a b (get_or link 0 0) (get_or link 1 0)) 0 (suc (place_of a b later)))
    × (length rest ≡ length later + 2)
unfolding place_of
front a b rest link later is size = rw (is, two link later size) (refl, omega arith)

pub returns-then-same_ends : goal.returns-then-same_ends
returns-then-same_ends c =
    let s = c.in-Some.ensures.steps in
    let found = sym c.same_ends.ensures ∙ c.if-same_ends.true in
    let here = (front c.args.a c.args.b _ _ _ s.0.1.0 (s.0.1.1 ∙ c.loop-j.invariant.0)).0 in
    omega (arith, s.1, c.loop-j.invariant.1, rw found at here)

pub loop-j-preserved : goal.loop-j-preserved
loop-j-preserved c =
    let s = c.in-Some.ensures.steps in
    let other = sym c.same_ends.ensures ∙ c.if-same_ends.false in
    let next = front c.args.a c.args.b _ _ _ s.0.1.0 (s.0.1.1 ∙ c.loop-j.invariant.0) in (
      s.0.0 ∙ c.loop-j.invariant.0,
      omega (arith, s.2, c.loop-j.invariant.1, rw other at next.0),
      omega (arith, s.2, c.loop-j.invariant.2, next.1),
    )

pub returns : goal.returns
returns c =
    let rest = chunks_exact_rest (enumerate_source c.loop-j.j-iterator) in
    let few : length rest ≤ 1 = omega (arith, c.loop-j.invariant.0, c.in-None.ensures.steps.0.1.0) in
    omega (arith, c.loop-j.invariant.1, c.loop-j.invariant.2, place_end c.args.a c.args.b rest 0 few)
