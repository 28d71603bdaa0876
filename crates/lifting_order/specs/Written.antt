-- What is written to a lent slice, from n units, m links and the ends of a table, and the pairs p; or why nothing is.
use Rattle.std.specs.Prelude.{Bool, not, ◌&&◌, List, [], ◌∷◌, ℕ, ◌*◌, leb, ltb, length, take}
use Rattle.table.specs.Refusals.{first_of, written}
use Rattle.table.specs.Table.{max_units}
use Rattle.spec_rules.specs.Fits.{links_fit}
use Rattle.lifting_order.specs.Order.{order_of, bad_pairs, no_order}

-- what the order is made from: at most 256 units, and m links between them, as in every kept state
unfoldable pub site_fits : ℕ → ℕ → List ℕ → Bool
site_fits n m ends = leb n max_units && (leb (2 * m) (length ends) && links_fit n m ends)

-- 10: no site; 14: fewer places than units; 19: bad pairs
unfoldable pub given_refusal : ℕ → ℕ → List ℕ → List ℕ → ℕ → ℕ
given_refusal n m ends p places =
    first_of ((10, not (site_fits n m ends)) ∷ (14, ltb places n) ∷ (19, bad_pairs n p) ∷ [])

-- the same, and 20: no order exists
unfoldable pub order_refusal : ℕ → ℕ → List ℕ → List ℕ → ℕ → ℕ
order_refusal n m ends p places =
    first_of
    ((10, not (site_fits n m ends))
    ∷ (14, ltb places n)
    ∷ (19, bad_pairs n p)
    ∷ (20, no_order n (take (2 * m) ends) p)
    ∷ [])

-- the slice afterwards: the order at its front, or all as it was
unfoldable pub order_written : ℕ → ℕ → List ℕ → List ℕ → List ℕ → List ℕ
order_written n m ends p out = written (order_refusal n m ends p (length out)) (order_of n (take (2 * m) ends) p) out
