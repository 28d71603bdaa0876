-- A site that a load accepts: its table of links as the rules read it, and the graph that it draws.
use Rattle.std.specs.Prelude.{◌≡◌, refl, ◌⊎◌, List, ℕ, ◌≤◌, ◌<◌}
use Rattle.std.proofs.Common.{sym, ◌∙◌, inl, inr}
use Rattle.table.specs.Table.{max_units, max_links, end_a, end_b}
use Rattle.theory_graph.specs.Rings.{Graph, SameLink}

-- n units and the first m links of a table of ends
pub record Site (n m : ℕ) (ends : List ℕ) : Type 0 where
  pub some_unit : 0 < n
  pub few_units : n ≤ max_units
  pub few_links : m ≤ max_links
  pub below_a : (j : ℕ) → j < m → end_a ends j < n
  pub below_b : (j : ℕ) → j < m → end_b ends j < n
  pub differ : (j : ℕ) → j < m → end_a ends j ≡ end_b ends j → ⊥
  pub once : (j k : ℕ) → (j ≡ k → ⊥) → j < m → k < m →
      SameLink (end_a ends j) (end_b ends j) (end_a ends k) (end_b ends k) → ⊥

-- a link joins u and v
abbrev pub Link : ℕ → List ℕ → ℕ → ℕ → Type 0
Link m ends u v = (j : ℕ) × (j < m) × SameLink (end_a ends j) (end_b ends j) u v

module _ {n m : ℕ} {ends : List ℕ} (site : Site n m ends) where
  pub link-below : (u v : ℕ) → Link m ends u v → (u < n) × (v < n)
  link-below u v (j, l, inl e) = (rw (← e.0) (site.below_a j l), rw (← e.1) (site.below_b j l))
  link-below u v (j, l, inr e) = (rw (← e.1) (site.below_b j l), rw (← e.0) (site.below_a j l))

  pub site-graph : Graph (Link m ends)
  site-graph = record { flip = flip; loopless = loopless }
    where
      flip : (u v : ℕ) → Link m ends u v → Link m ends v u
      flip u v (j, l, inl e) = (j, l, inr e)
      flip u v (j, l, inr e) = (j, l, inl e)

      loopless : (u : ℕ) → Link m ends u u → ⊥
      loopless u (j, l, inl e) = site.differ j l (e.0 ∙ sym e.1)
      loopless u (j, l, inr e) = site.differ j l (e.0 ∙ sym e.1)
