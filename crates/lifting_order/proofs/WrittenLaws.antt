-- The tests of the lifting order, and what is written, by what the code finds.
use Rattle.std.specs.Prelude.{◌≡◌, Bool, ◌&&◌, ◌||◌, List, [], ◌∷◌, ◌++◌, ℕ, ◌+◌, ◌*◌, ◌%◌, ◌≤◌, ◌<◌, leb, take}
use Rattle.std.proofs.Math.Path.{refl, sym, ap}
use Rattle.std.proofs.Common.{◌∙◌, length-take}
use Rattle.std.proofs.Math.Bool.{true, false, not}
use native.Mathlib.Omega.{arith}
use Rattle.std.proofs.Math.Dec.{ltb}
use Rattle.std.proofs.Math.ListN.{length, get_or, drop}
use Rattle.std.proofs.Math.Seq.{take_all}
use borrow.Author.Tests.{eq-eqb, ne_eqb, leb-true, le-leb, lt-leb, leb-false, ltb-true, ltb-false, lt-ltb, le-ltb}
use Rattle.std.proofs.lemmas.Bool.{eqb-false, not-false}
use Rattle.base_lists.specs.All.{every-at}
use Rattle.base_lists.specs.Folds.{every}
use Rattle.base_lists.specs.Tables.{over}
use Rattle.base_lists.specs.Tests.{and_left, and_right, or_false-left, or_false-right}
use Rattle.table.specs.Refusals.{first_of}
use Rattle.table.specs.RefusalLaws.{first_some, first-none, passed-test}
use Rattle.table.specs.Table.{link_count, odd_words, end_missing, max_units}
use Rattle.spec_rules.specs.Fits.{links_fit, fit-few}
use Rattle.lifting_order.specs.Order.{order_of, bad_pairs, no_order}
use Rattle.lifting_order.specs.Standing.{Given, Found, laid-over}
use Rattle.lifting_order.specs.Written.{site_fits, given_refusal, order_refusal, order_written}

-- ---- the site

module _ (n m : ℕ) (ends : List ℕ) where
  pub site-units : max_units < n → false ≡ site_fits n m ends
  unfolding site_fits
  site-units h = rw (lt-leb n max_units h) refl

  pub site-ends : n ≤ max_units → length ends < 2 * m → false ≡ site_fits n m ends
  unfolding site_fits
  site-ends a h = rw (le-leb n max_units a, lt-leb (2 * m) (length ends) h) refl

  pub site-links : n ≤ max_units → 2 * m ≤ length ends → links_fit n m ends ≡ site_fits n m ends
  unfolding site_fits
  site-links a h = rw (le-leb n max_units a, le-leb (2 * m) (length ends) h) refl

  pub site-long : site_fits n m ends ≡ true → 2 * m ≤ length ends
  unfolding site_fits
  site-long s =
      leb-true (2 * m) (length ends) (and_left (leb (2 * m) (length ends)) (links_fit n m ends)
      (and_right (leb n max_units) _ s))

-- ---- the pairs

every-missing : (n : ℕ) (t : List ℕ) → every (λ (x : ℕ). ltb x n) t ≡ not (end_missing n t)
unfolding end_missing
every-missing n [] = refl
every-missing n (x ∷ t) = rw (every-missing n t) (go (leb n x) (ltb x n) (other x) (end_missing n t))
  where
    other : (x : ℕ) → ltb x n ≡ not (leb n x)
    other x = one (leb n x) refl
      where
        one : (b : Bool) → leb n x ≡ b → ltb x n ≡ not b
        one true e = le-ltb x n (leb-true n x e)
        one false e = lt-ltb x n (leb-false n x e)

    go : (a b : Bool) → b ≡ not a → (c : Bool) → (b && not c) ≡ not (a || c)
    go true b e c = rw e refl
    go false b e c = rw e refl

module _ (n : ℕ) (p : List ℕ) where
  pub bad_named : link_count p ≤ 256 → (length p % 2 ≡ 1 → ⊥) → not (links_fit n (link_count p) p) ≡ bad_pairs n p
  unfolding links_fit
  bad_named a h =
      rw (
        le-ltb 256 (link_count p) a,
        ne_eqb (length p % 2) 1 h,
        le-leb (link_count p) 1024 (omega arith),
        take_all (2 * link_count p) p (omega arith),
        every-missing n p,
      )
      (twice (end_missing n p))
    where
      twice : (b : Bool) → not (not b) ≡ b
      twice true = refl
      twice false = refl

-- ---- what passes

module _ (n m : ℕ) (ends p : List ℕ) where
  abbrev t : List ℕ
  t = take (2 * m) ends

  -- what the order is made from
  pub fits-given : site_fits n m ends ≡ true → bad_pairs n p ≡ false → Given n t p
  unfolding site_fits links_fit
  fits-given s b =
      record {
        few = few;
        links = record {
          few = omega (arith, long, many);
          below = λ i l. omega (arith, few, ltb-true (get_or t i 0) n (every-at (λ (x : ℕ). ltb x n) t i 0 below l));
        };
        whole-links = omega (arith, long);
        pairs = record {
          few = omega (arith, pairs);
          below = λ i l. omega (arith, few, ltb-true (get_or p i 0) n (every-at (λ (x : ℕ). ltb x n) p i 0 named l));
        };
        whole-pairs = omega (arith, even);
      }
    where
      few : n ≤ 256
      few = leb-true n 256 (and_left (leb n 256) _ s)

      fit : links_fit n m ends ≡ true
      fit = and_right (leb (2 * m) (length ends)) (links_fit n m ends) (and_right (leb n 256) _ s)

      many : m ≤ 1024
      many = fit-few n m ends fit

      below : every (λ (x : ℕ). ltb x n) t ≡ true
      below = and_right (leb m 1024) _ fit

      long : length t ≡ 2 * m
      long = length-take (2 * m) ends ∙ omega (arith, site-long n m ends s)

      pairs : link_count p ≤ 256
      pairs = ltb-false 256 (link_count p) (or_false-left (ltb 256 (link_count p)) _ b)

      rest : (odd_words p || end_missing n p) ≡ false
      rest = or_false-right (ltb 256 (link_count p)) _ b

      even : length p % 2 ≡ 1 → ⊥
      even = eqb-false (length p % 2) 1 (or_false-left (odd_words p) (end_missing n p) rest)

      named : every (λ (x : ℕ). ltb x n) p ≡ true
      named = every-missing n p ∙ rw (or_false-right (odd_words p) (end_missing n p) rest) refl

  module _ (places : ℕ) where
    pub passed-given : given_refusal n m ends p places ≡ 0 →
        (site_fits n m ends ≡ true) × (n ≤ places) × (bad_pairs n p ≡ false)
    unfolding given_refusal
    passed-given e =
        let a = passed-test (not (site_fits n m ends)) 10 _ (omega arith) e in
        let b = passed-test (ltb places n) 14 _ (omega arith) a.1 in
        let d = passed-test (bad_pairs n p) 19 _ (omega arith) b.1 in
        (not-false (site_fits n m ends) a.0, ltb-false places n b.0, d.0)

    -- an earlier test holds, or none does
    given-refused : (given_refusal n m ends p places ≡ 0 → ⊥) →
        order_refusal n m ends p places ≡ given_refusal n m ends p places
    unfolding given_refusal order_refusal
    given-refused h =
        first_some ((10, not (site_fits n m ends)) ∷ (14, ltb places n) ∷ (19, bad_pairs n p) ∷ [])
        ((20, no_order n t p) ∷ []) h

    given-passed : given_refusal n m ends p places ≡ 0 →
        order_refusal n m ends p places ≡ first_of ((20, no_order n t p) ∷ [])
    unfolding given_refusal order_refusal
    given-passed h =
        first-none ((10, not (site_fits n m ends)) ∷ (14, ltb places n) ∷ (19, bad_pairs n p) ∷ [])
        ((20, no_order n t p) ∷ []) (omega arith) h

  -- ---- what is written

  abbrev Told : ℕ → List ℕ → List ℕ → Type 0
  Told r out new = (r ≡ order_refusal n m ends p (length out)) × (new ≡ order_written n m ends p out)

  -- 10, 14 or 19
  pub told-given : (r : ℕ) (out : List ℕ) → r ≡ given_refusal n m ends p (length out) → (r ≡ 0 → ⊥) → Told r out out
  unfolding order_written
  told-given r out e h =
      let q : order_refusal n m ends p (length out) ≡ r = given-refused (length out) (λ z. h (e ∙ z)) ∙ sym e in
      (sym q, rw (q, ne_eqb r 0 h) refl)

  -- 20
  pub told_none : (out order : List ℕ) (left : ℕ) → given_refusal n m ends p (length out) ≡ 0 → Found n t p order left →
      (left ≡ 0 → ⊥) → Told 20 out out
  unfolding order_written
  told_none out order left e f h =
      let b : no_order n t p ≡ true = rw (ne_eqb (length (order_of n t p)) n (omega (arith, f.many))) refl in
      let q : order_refusal n m ends p (length out) ≡ 20 = given-passed (length out) e ∙ rw b refl in
      (sym q, rw q refl)

  -- all stand: the order, laid over the slice
  pub told-order : (out new order : List ℕ) (left : ℕ) → given_refusal n m ends p (length out) ≡ 0 →
      Found n t p order left → left ≡ 0
      → new ≡ over n (λ (i : ℕ). get_or order i 0) out → Told 0 out new
  unfolding order_written
  told-order out new order left e f z w =
      let whole : length (order_of n t p) ≡ n = omega (arith, f.many) in
      let b : no_order n t p ≡ false = rw (eq-eqb (length (order_of n t p)) n whole) refl in
      let q : order_refusal n m ends p (length out) ≡ 0 = given-passed (length out) e ∙ rw b refl in
      let fits : length (order_of n t p) ≤ length out = omega (arith, (passed-given (length out) e).1) in
      let laid : over (length (order_of n t p)) (λ (i : ℕ). get_or order i 0) out
      ≡ order_of n t p ++ drop (length (order_of n t p)) out =
      laid-over (order_of n t p) (λ (i : ℕ). get_or order i 0) out fits
      (λ i l. ap (λ (k : ℕ). get_or order k 0) (first left i z) ∙ f.laid i l) in
      (sym q, rw q (w ∙ (ap (λ (k : ℕ). over k (λ (i : ℕ). get_or order i 0) out) (sym whole) ∙ laid)))
    where
      first : (left i : ℕ) → left ≡ 0 → i ≡ left + i
      first left i e = omega arith
