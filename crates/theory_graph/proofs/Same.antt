-- Two relations that hold of the same pairs draw the same graph: rings, routes and articulation points are those of
-- either.
use Rattle.std.specs.Prelude.{◌↔◌, List, ℕ}
use Rattle.theory_graph.specs.Rings.{Ring, Holds, OnRing, Route, Articulation}
use Rattle.theory_graph.specs.Walks.{walk_map}
use Rattle.theory_graph.proofs.Together.{ring-more, on_ring_more}

module _ (E F : ℕ → ℕ → Type 0) (more : (u v : ℕ) → E u v → F u v) where
  route_more : (a : ℕ) (l : List ℕ) (b : ℕ) → Route E a l b → Route F a l b
  route_more a l b r = (walk_map E F a l (λ x y s e. more x y e) r.0, r.1)

-- E and F hold of the same pairs
module _ (E F : ℕ → ℕ → Type 0) (same : (u v : ℕ) → E u v ↔ F u v) where
  to : (u v : ℕ) → E u v → F u v
  to u v e = (same u v).0 e

  back : (u v : ℕ) → F u v → E u v
  back u v f = (same u v).1 f

  pub on_ring_same : (u v x y : ℕ) → OnRing E u v x y ↔ OnRing F u v x y
  on_ring_same u v x y =
      (on_ring_more E F to u v x y, on_ring_more F E back u v x y)

  pub no_ring_same : (u v : ℕ) → ((r : List ℕ) → Ring E r → Holds r u v → ⊥)
      ↔ ((r : List ℕ) → Ring F r → Holds r u v → ⊥)
  no_ring_same u v = (λ h r R. h r (ring-more F E back r R), λ h r R. h r (ring-more E F to r R))

  pub articulation-same : (u : ℕ) → Articulation E u ↔ Articulation F u
  articulation-same u = (there, and_back)
    where
      there : Articulation E u → Articulation F u
      there a =
          record {
            x = a.x;
            y = a.y;
            apart = a.apart;
            other-x = a.other-x;
            other-y = a.other-y;
            connected = (a.connected.0, route_more E F to a.x a.connected.0 a.y a.connected.1);
            cut = λ l r. a.cut l (route_more F E back a.x l a.y r);
          }

      and_back : Articulation F u → Articulation E u
      and_back a =
          record {
            x = a.x;
            y = a.y;
            apart = a.apart;
            other-x = a.other-x;
            other-y = a.other-y;
            connected = (a.connected.0, route_more F E back a.x a.connected.0 a.y a.connected.1);
            cut = λ l r. a.cut l (route_more E F to a.x l a.y r);
          }
