-- Classes made by rounds: least values that spread over the auxiliary edges among the non-roots, until nothing changes.
use Rattle.std.specs.Prelude.{◌≡◌, ◌⊎◌, ◌↔◌, Bool, List, [], ◌∷◌, ℕ, ◌<◌}
use Rattle.std.proofs.Common.{subst, inl, inr}
use Rattle.base_lists.specs.Pigeonhole.{Picked}
use Rattle.theory_graph.specs.Rings.{Graph, last, Walk}
use Rattle.theory_graph.specs.Forest.{Forest, Aux, Joined, stay, on, back, Classes}
use Rattle.theory_graph.proofs.Blocks.{aux-ring}
use Rattle.theory_graph.specs.Propagation.{Near, Rounds, Still, still-same, still-classes}

module _
    {E : ℕ → ℕ → Type 0} {p d root : ℕ → ℕ} (G : Graph E) (F : Forest E p d root)
    {picked : ℕ → Bool} {n : ℕ} (non_root : (v : ℕ) → (0 < d v) ↔ Picked picked n v)
    {R : ℕ → ℕ → Type 0} (joins : (v w : ℕ) → Aux E p d v w → R v w × R w v)
    (joined : (v w : ℕ) → Picked picked n v → Picked picked n w → R v w → Aux E p d v w ⊎ Aux E p d w v)
    {val : ℕ → ℕ → ℕ} (rounds : Rounds picked n R val) (k : ℕ) (still : Still picked n val k)
  where
    both : (v w : ℕ) → Picked picked n v → Picked picked n w → R v w → R w v
    both v w hv hw r = go (joined v w hv hw r)
      where
        go : Aux E p d v w ⊎ Aux E p d w v → R w v
        go (inl a) = (joins v w a).1
        go (inr a) = (joins w v a).0

    chain : (u v w : ℕ) → Joined E p d u v → Picked picked n v → (l : List ℕ) → Walk (Near picked n R) v l →
        last v l ≡ w → Joined E p d u w
    chain u v w j h [] s e = subst (λ (z : ℕ). Joined E p d u z) e j
    chain u v w j h (x ∷ l) s e = chain u x w (go (joined v x h s.0.0 s.0.1)) s.0.0 l s.1 e
      where
        go : Aux E p d v x ⊎ Aux E p d x v → Joined E p d u x
        go (inl a) = on j a
        go (inr a) = back j a

    pub classes-by_rounds : Classes E p d (val k)
    classes-by_rounds = record { along-aux = along-aux; only-joined = only-joined }
      where
        along-aux : (u v : ℕ) → Aux E p d u v → val k u ≡ val k v
        along-aux u v a =
            let r = aux-ring G F u v a in
            still-same rounds k still both u v ((non_root u).0 r.0) ((non_root v).0 r.1) (joins u v a).0

        only-joined : (u v : ℕ) → 0 < d u → 0 < d v → val k u ≡ val k v → Joined E p d u v
        only-joined u v hu hv e =
            let c = (still-classes rounds k still both u v ((non_root u).0 hu) ((non_root v).0 hv)).0 e in
            chain u u v stay ((non_root u).0 hu) c.0 c.1.0 c.1.1
