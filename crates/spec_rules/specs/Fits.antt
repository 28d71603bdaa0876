-- What a kept state guarantees of a table's links and of parents, as tests that the code of a stage makes once a run.
use Rattle.std.specs.Prelude.{◌≡◌, Bool, true, ◌&&◌, List, ℕ, ◌*◌, ◌≤◌, ◌<◌, leb, get_or, take}
use Rattle.std.proofs.Common.{arith, length-take, get_or-take}
use Rattle.std.proofs.Math.Dec.{ltb}
use Rattle.std.proofs.Math.ListN.{length}
use borrow.Author.Tests.{leb-true, le-leb, ltb-true, lt-ltb}
use Rattle.base_lists.specs.All.{all_of, every-at, every-exact}
use Rattle.base_lists.specs.Folds.{every}
use Rattle.base_lists.specs.Tests.{and_left, and_right, and-true}
use Rattle.table.specs.Table.{max_links}

-- at most 1,024 links, and each end is one of n units
unfoldable pub links_fit : ℕ → ℕ → List ℕ → Bool
links_fit n m ends = leb m max_links && every (λ (x : ℕ). ltb x n) (take (2 * m) ends)

-- the ends of m links are there and below n
abbrev pub EndsWithin : ℕ → ℕ → List ℕ → Type 0
EndsWithin n m ends = (2 * m ≤ length ends) × ((i : ℕ) → i < 2 * m → get_or ends i 0 < n)

module _ (n m : ℕ) (ends : List ℕ) where
  pub fit-few : links_fit n m ends ≡ true → m ≤ max_links
  unfolding links_fit
  fit-few e = leb-true m max_links (and_left (leb m max_links) _ e)

  -- what the test says of an array that holds 1,024 links
  pub fit-within : length ends ≡ 2048 → links_fit n m ends ≡ true → EndsWithin n m ends
  unfolding links_fit
  fit-within l e = (fits, below)
    where
      fits : 2 * m ≤ length ends
      fits = omega (arith, l, leb-true m max_links (and_left (leb m max_links) _ e))

      below : (i : ℕ) → i < 2 * m → get_or ends i 0 < n
      below i h =
          let t = take (2 * m) ends in
          let in-t : i < length t = rw (length-take (2 * m) ends) (omega (arith, h, fits)) in
          rw (get_or-take (2 * m) ends i 0 h) at
          (ltb-true (get_or t i 0) n (every-at (λ (x : ℕ). ltb x n) t i 0 (and_right (leb m max_links) _ e) in-t))

  -- it holds where every end exists
  pub within-fit : m ≤ max_links → ((i : ℕ) → i < length (take (2 * m) ends) → get_or (take (2 * m) ends) i 0 < n) →
      links_fit n m ends ≡ true
  unfolding links_fit
  within-fit few h =
      and-true (leb m max_links) _ (le-leb m max_links few)
      ((every-exact (λ (x : ℕ). ltb x n) (λ (x : ℕ). x < n) (λ x. (ltb-true x n, lt-ltb x n)) (take (2 * m) ends)).1
      (all_of (λ (x : ℕ). x < n) (take (2 * m) ends) 0 h))
