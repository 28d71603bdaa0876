-- Sites worked by hand: the numbers, and the passes.
use Rattle.std.specs.Prelude.{◌≡◌, [], ◌∷◌}
use Rattle.std.proofs.Math.Path.{refl}
use Rattle.theory_min_label.specs.MinLabel.{min_label, min_forward, min_backward, passes, remaining, propagated}
use Rattle.theory_min_label.specs.MinLabel.{received}

module _ where
  one : min_label 1 [] (7 ∷ 8 ∷ []) ≡ (0 ∷ 8 ∷ [], 1)
  unfolding min_label min_forward min_backward passes remaining propagated received
  one = refl

  -- 0 → 1: two groups, two passes
  down : min_label 2 (0 ∷ 1 ∷ []) (7 ∷ 7 ∷ 9 ∷ []) ≡ (0 ∷ 1 ∷ 9 ∷ [], 2)
  unfolding min_label min_forward min_backward passes remaining propagated received
  down = refl

  ring : min_label 3 (0 ∷ 1 ∷ 1 ∷ 2 ∷ 2 ∷ 0 ∷ []) (7 ∷ 7 ∷ 7 ∷ []) ≡ (0 ∷ 0 ∷ 0 ∷ [], 1)
  unfolding min_label min_forward min_backward passes remaining propagated received
  ring = refl

  -- 0 → 1 → 2 → 3: one group a pass
  chain : min_label 4 (0 ∷ 1 ∷ 1 ∷ 2 ∷ 2 ∷ 3 ∷ []) (7 ∷ 7 ∷ 7 ∷ 7 ∷ []) ≡ (0 ∷ 1 ∷ 2 ∷ 3 ∷ [], 4)
  unfolding min_label min_forward min_backward passes remaining propagated received
  chain = refl

  -- 3 → 2 → 1 → 0: two passes for four groups
  falling : min_label 4 (3 ∷ 2 ∷ 2 ∷ 1 ∷ 1 ∷ 0 ∷ []) (7 ∷ 7 ∷ 7 ∷ 7 ∷ []) ≡ (0 ∷ 1 ∷ 2 ∷ 3 ∷ [], 2)
  unfolding min_label min_forward min_backward passes remaining propagated received
  falling = refl

  -- groups 1-2 and 3-4, with 0 → 1, 2 → 3 and 4 → 5
  groups : min_label 6 (0 ∷ 1 ∷ 1 ∷ 2 ∷ 2 ∷ 1 ∷ 2 ∷ 3 ∷ 3 ∷ 4 ∷ 4 ∷ 3 ∷ 4 ∷ 5 ∷ []) (7 ∷ 7 ∷ 7 ∷ 7 ∷ 7 ∷ 7 ∷ [])
      ≡ (0 ∷ 1 ∷ 1 ∷ 3 ∷ 3 ∷ 5 ∷ [], 4)
  unfolding min_label min_forward min_backward passes remaining propagated received
  groups = refl

  -- 0 → 1, 2 → 3, 3 → 1: two passes; three if every unit began a backward label, and not only a source
  sources : min_label 4 (0 ∷ 1 ∷ 2 ∷ 3 ∷ 3 ∷ 1 ∷ []) (7 ∷ 7 ∷ 7 ∷ 7 ∷ []) ≡ (0 ∷ 1 ∷ 2 ∷ 3 ∷ [], 2)
  unfolding min_label min_forward min_backward passes remaining propagated received
  sources = refl
