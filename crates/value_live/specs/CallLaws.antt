-- The answers of the calls, by what the checks said one after the other.
use Rattle.std.specs.Prelude.{◌≡◌, refl, Bool, not, ◌||◌, [], ◌∷◌, ℕ, ◌<◌, eqb, leb, ltb, length, ℤ}
use Rattle.std.proofs.Math.Path.{sym}
use Rattle.std.proofs.Common.{◌∙◌, arith, eq-eqb, ne_eqb, leb-false, ltb-true}
use Rattle.std.proofs.lemmas.Bool.{not-false}
use Rattle.table_levels.specs.Level.{in_range}
use Rattle.table.specs.Refusals.{first_of}
use Rattle.table.specs.RefusalLaws.{first_some, first-none, passed-test}
use Rattle.live_table.specs.Live.{Live, held, place_of}
use Rattle.live_table.specs.LiveCalls.{Answer, answered, given_tests, link_tests, pair_tests, given_refusal}
use Rattle.live_table.specs.LiveCalls.{add_refusal}
use Rattle.live_table.specs.LiveCalls.{withdraw_refusal}
use Rattle.live_table.specs.GivenLaws.{held-links, given-links}
use Rattle.live_table.specs.PlaceLaws.{place_found}

-- r is the number that came up
pub answer-refused : (k r : ℕ) (given after : Live) → r ≡ k → (r ≡ 0 → ⊥) →
    ◌≡◌ {A = Answer} (record { live = given; number = r }) (answered k given after)
answer-refused k r given after e h = rw (sym e, ne_eqb r 0 h) refl

pub answer-made : (k r : ℕ) (given after : Live) → r ≡ k → r ≡ 0 →
    ◌≡◌ {A = Answer} (record { live = after; number = r }) (answered k given after)
answer-made k r given after e z = rw (sym e, eq-eqb r 0 z) refl

module _ (l : Live) where
  -- the given table is refused
  pub add-early : (a b : ℕ) (level : ℤ) (k : ℕ) → k ≡ given_refusal l → (k ≡ 0 → ⊥) → k ≡ add_refusal a b level l
  unfolding given_refusal add_refusal
  add-early a b level k e h = e ∙ sym (first_some (given_tests l) (link_tests a b level (held l)) (λ z. h (e ∙ z)))

  pub withdraw-early : (a b k : ℕ) → k ≡ given_refusal l → (k ≡ 0 → ⊥) → k ≡ withdraw_refusal a b l
  unfolding given_refusal withdraw_refusal
  withdraw-early a b k e h = e ∙ sym (first_some (given_tests l) (pair_tests a b (held l)) (λ z. h (e ∙ z)))

  -- it passes, and its arrays are full
  module _ (full : length l.ends ≡ 2048) (heard : length l.levels ≡ 1024) (passed : given_refusal l ≡ 0)
      (a b j : ℕ) (place : j ≡ place_of a b (held l).words) where
    -- of the link
    pub add-late : (level : ℤ) (k : ℕ)
        → k ≡ first_of ((6, leb 1024 l.links) ∷ (16, not (in_range level)) ∷ (7, leb l.units a || leb l.units b)
        ∷ (8, eqb a b) ∷ (9, ltb j l.links) ∷ [])
        → k ≡ add_refusal a b level l
    unfolding given_refusal add_refusal
    add-late level k e =
        e ∙ sym (first-none (given_tests l) (link_tests a b level (held l)) (omega arith) passed
        ∙ rw (place_found a b (held l).words, held-links l full heard (given-links l passed), place) refl)

    -- of the two units
    pub withdraw-late : (k : ℕ) → k ≡ first_of
        ((7, leb l.units a || leb l.units b) ∷ (8, eqb a b) ∷ (21, not (ltb j l.links)) ∷ []) →
        k ≡ withdraw_refusal a b l
    unfolding given_refusal withdraw_refusal
    withdraw-late k e =
        e ∙ sym (first-none (given_tests l) (pair_tests a b (held l)) (omega arith) passed
        ∙ rw (place_found a b (held l).words, held-links l full heard (given-links l passed), place) refl)

-- a link that passes has its place
pub link-few : (m k : ℕ) (b c d e : Bool) → k ≡ first_of ((6, leb 1024 m) ∷ (16, b) ∷ (7, c) ∷ (8, d) ∷ (9, e) ∷ []) →
    k ≡ 0 → m < 1024
link-few m k b c d e is z = leb-false 1024 m (passed-test (leb 1024 m) 6 _ (omega arith) (sym is ∙ z)).0

-- two units that pass have their link
pub pair_found : (j m k : ℕ) (b c : Bool) → k ≡ first_of ((7, b) ∷ (8, c) ∷ (21, not (ltb j m)) ∷ []) → k ≡ 0 → j < m
pair_found j m k b c is z =
    let p = passed-test b 7 _ (omega arith) (sym is ∙ z) in
    let q = passed-test c 8 _ (omega arith) p.1 in
    let r = passed-test (not (ltb j m)) 21 _ (omega arith) q.1 in
    ltb-true j m (not-false (ltb j m) r.0)
