-- The checks of a given live table whose arrays are full, by load's checks of what it holds.
use Rattle.std.specs.Prelude.{◌≡◌, true, false, List, [], ◌∷◌, ◌++◌, ℕ, ◌*◌, ◌%◌, ◌≤◌, ◌<◌, ltb, length, ℤ}
use Rattle.std.proofs.Math.Path.{refl, sym}
use Rattle.std.proofs.Common.{◌∙◌, arith, length-take-le}
use borrow.Author.Tests.{lt-ltb, le-ltb, ltb-false, eq-eqb, ne_eqb}
use Rattle.table.specs.Refusals.{first_of}
use Rattle.table.specs.RefusalLaws.{first_some, first-none, passed-test}
use Rattle.table.specs.Table.{max_links, bad_unit_count, odd_words, too_many_links, levels_differ, stored_tests}
use Rattle.table.specs.Table.{stored_refusal}
use Rattle.spec_machine.specs.Load.{links_in}
use Rattle.live_table.specs.Counts.{miscounted}
use Rattle.live_table.specs.Live.{Live, held}
use Rattle.live_table.specs.LiveCalls.{given_refusal}

-- load's checks, and then 10
unfoldable pub held_refusal : ℕ → ℕ → List ℕ → List ℤ → List ℕ → ℕ
held_refusal n m t ls counts = first_of (stored_tests n t ls ++ (10, miscounted m t counts) ∷ [])

module _ (n m : ℕ) (t : List ℕ) (ls : List ℤ) (counts : List ℕ) where
  pub held-refused : (stored_refusal n t ls ≡ 0 → ⊥) → stored_refusal n t ls ≡ held_refusal n m t ls counts
  unfolding stored_refusal held_refusal
  held-refused h = sym (first_some (stored_tests n t ls) ((10, miscounted m t counts) ∷ []) h)

  held-last : stored_refusal n t ls ≡ 0 → held_refusal n m t ls counts ≡ first_of ((10, miscounted m t counts) ∷ [])
  unfolding stored_refusal held_refusal
  held-last e = first-none (stored_tests n t ls) ((10, miscounted m t counts) ∷ []) (omega arith) e

  pub held-miscounted : stored_refusal n t ls ≡ 0 → miscounted m t counts ≡ true → 10 ≡ held_refusal n m t ls counts
  held-miscounted e w = sym (held-last e ∙ rw w refl)

  pub held-right : stored_refusal n t ls ≡ 0 → miscounted m t counts ≡ false → 0 ≡ held_refusal n m t ls counts
  held-right e w = sym (held-last e ∙ rw w refl)

module _ (l : Live) where
  pub given_4 : bad_unit_count l.units ≡ true → 4 ≡ given_refusal l
  unfolding given_refusal
  given_4 e = rw e refl

  pub given_6 : bad_unit_count l.units ≡ false → max_links < l.links → 6 ≡ given_refusal l
  unfolding given_refusal
  given_6 e m = rw (e, lt-ltb max_links l.links m) refl

  module _ (full : length l.ends ≡ 2048) (heard : length l.levels ≡ 1024) (m : l.links ≤ max_links) where
    long : length (held l).words ≡ 2 * l.links
    long = length-take-le (2 * l.links) l.ends (omega (arith, full, m))

    levelled : length (held l).levels ≡ l.links
    levelled = length-take-le l.links l.levels (omega (arith, heard, m))

    pub held-links : links_in (held l) ≡ l.links
    held-links = omega (arith, long)

    five : odd_words (held l).words ≡ false
    five = ne_eqb (length (held l).words % 2) 1 (omega (arith, long))

    six : too_many_links (held l).words ≡ false
    six = rw held-links (le-ltb max_links l.links m)

    fifteen : levels_differ (held l).words (held l).levels ≡ false
    fifteen = rw (eq-eqb (length (held l).levels) (links_in (held l)) (levelled ∙ sym held-links)) refl

    -- 5 and 15 have no cause
    pub given-held : bad_unit_count l.units ≡ false →
        held_refusal l.units l.links (held l).words (held l).levels l.counts ≡ given_refusal l
    unfolding given_refusal held_refusal
    given-held e = rw (e, five, six, fifteen, le-ltb max_links l.links m) refl

  given-few : given_refusal l ≡ 0 → (bad_unit_count l.units ≡ false) × (l.links ≤ max_links)
  unfolding given_refusal
  given-few e =
      let a = passed-test (bad_unit_count l.units) 4 _ (omega arith) e in
      let b = passed-test (ltb max_links l.links) 6 _ (omega arith) a.1 in
      (a.0, ltb-false max_links l.links b.0)

  pub given-links : given_refusal l ≡ 0 → l.links ≤ max_links
  given-links e = (given-few e).1
