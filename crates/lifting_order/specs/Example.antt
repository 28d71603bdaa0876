-- Lifting orders by hand, and where there is none.
use Rattle.std.specs.Prelude.{◌≡◌, refl, true, [], ◌∷◌}
use Rattle.lifting_order.specs.Order.{grow, order_of, no_order}

-- a path, 0-1 and 1-2
path : order_of 3 (0 ∷ 1 ∷ 1 ∷ 2 ∷ []) [] ≡ 2 ∷ 1 ∷ 0 ∷ []
unfolding grow order_of
path = refl

-- a ring, 0-1-2-3
ring : order_of 4 (0 ∷ 1 ∷ 1 ∷ 2 ∷ 2 ∷ 3 ∷ 3 ∷ 0 ∷ []) [] ≡ 3 ∷ 2 ∷ 1 ∷ 0 ∷ []
unfolding grow order_of
ring = refl

-- a star, 0-1 and 0-2: "1 before 2" has 2 stand before 1
star : order_of 3 (0 ∷ 1 ∷ 0 ∷ 2 ∷ []) (1 ∷ 2 ∷ []) ≡ 1 ∷ 2 ∷ 0 ∷ []
unfolding grow order_of
star = refl

-- one unit
single : order_of 1 [] [] ≡ 0 ∷ []
unfolding grow order_of
single = refl

-- on the path, "1 before 2" would part 2 from unit 0
parts : no_order 3 (0 ∷ 1 ∷ 1 ∷ 2 ∷ []) (1 ∷ 2 ∷ []) ≡ true
unfolding grow order_of
parts = refl

-- unit 0 goes last
zero_first : no_order 2 (0 ∷ 1 ∷ []) (0 ∷ 1 ∷ []) ≡ true
unfolding grow order_of
zero_first = refl

-- no unit goes before itself
itself : no_order 2 (0 ∷ 1 ∷ []) (1 ∷ 1 ∷ []) ≡ true
unfolding grow order_of
itself = refl

-- pairs in a circle
circle : no_order 3 (0 ∷ 1 ∷ 0 ∷ 2 ∷ []) (1 ∷ 2 ∷ 2 ∷ 1 ∷ []) ≡ true
unfolding grow order_of
circle = refl

-- two groups
groups : no_order 4 (0 ∷ 1 ∷ 2 ∷ 3 ∷ []) [] ≡ true
unfolding grow order_of
groups = refl
