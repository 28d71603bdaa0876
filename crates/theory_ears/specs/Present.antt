-- Rings of the links that count (T-04, T-08): a test says of each position whether its link does.
use Rattle.std.specs.Prelude.{◌≡◌, refl, Bool, true, false, ◌⊎◌, List, ◌∷◌, ℕ, zero, suc, ◌<◌, eqb, get_or, replicate}
use Rattle.std.proofs.Common.{inl, inr}
use Rattle.std.proofs.Math.Decide.{ℕ_discrete}
use Rattle.base_lists.specs.Tests.{not_both}
use Rattle.table.specs.Table.{end_a, end_b}
use Rattle.spec_rules.specs.Basics.{at}
use Rattle.theory_graph.specs.Rings.{Graph, Ring, Holds, OnRing, SameLink}
use Rattle.theory_graph.proofs.Together.{on_ring_more, ring-link}
use Rattle.theory_reach.specs.Site.{Site, site-graph}

-- a link that counts joins u and v
abbrev pub Present : (ℕ → Bool) → ℕ → List ℕ → ℕ → ℕ → Type 0
Present ok m ends u v = (j : ℕ) × (j < m) × (ok j ≡ true) × SameLink (end_a ends j) (end_b ends j) u v

-- some ring of the links that count holds both positions
abbrev pub Ringed : (ℕ → Bool) → ℕ → List ℕ → ℕ → ℕ → Type 0
Ringed ok m ends i j = OnRing (Present ok m ends) (end_a ends i) (end_b ends i) (end_a ends j) (end_b ends j)

-- marks are bytes, 0 for a link that counts; a link without a mark counts too
abbrev pub sure : List ℕ → ℕ → Bool
sure marks j = eqb (at marks j) 0

-- one mark of a sure link: every link counts
pub one-sure : (j : ℕ) → ◌≡◌ {A = ℕ} (get_or (replicate 1 0) j 0) 0
one-sure zero = refl
one-sure (suc j) = refl

-- r is a ring of the links that count, starts with the two ends of link i, and holds link j
pub record Shows (ok : ℕ → Bool) (m : ℕ) (ends : List ℕ) (i j : ℕ) (r : List ℕ) : Type 0 where
  pub ring : Ring (Present ok m ends) r
  pub rest : List ℕ
  pub starts : r ≡ end_a ends i ∷ (end_b ends i ∷ rest)
  pub first : Holds r (end_a ends i) (end_b ends i)
  pub second : Holds r (end_a ends j) (end_b ends j)

pub present-graph : {n m : ℕ} {ends : List ℕ} → Site n m ends → (ok : ℕ → Bool) → Graph (Present ok m ends)
present-graph {n} {m} {ends} site ok = record {
  flip = flip;
  loopless = λ u l. (site-graph site).loopless u (l.0, l.1, l.3);
}
  where
    flip : (u v : ℕ) → Present ok m ends u v → Present ok m ends v u
    flip u v (j, l, o, inl e) = (j, l, o, inr e)
    flip u v (j, l, o, inr e) = (j, l, o, inl e)

-- more links, more rings
pub ringed_more : (p q : ℕ → Bool) (m : ℕ) (ends : List ℕ) → ((j : ℕ) → j < m → p j ≡ true → q j ≡ true) → (i j : ℕ) →
    Ringed p m ends i j → Ringed q m ends i j
ringed_more p q m ends h i j =
    on_ring_more (Present p m ends) (Present q m ends) (λ u v l. (l.0, l.1, h l.0 l.1 l.2, l.3))
    (end_a ends i) (end_b ends i) (end_a ends j) (end_b ends j)

-- a link that does not count is on no ring
pub missing : {n m : ℕ} {ends : List ℕ} → Site n m ends → (ok : ℕ → Bool) (i j : ℕ) → i < m → ok i ≡ false →
    Ringed ok m ends i j → ⊥
missing {n} {m} {ends} site ok i j l e (r, R, h, q) =
    go (ring-link (present-graph site ok) R (end_a ends i) (end_b ends i) h)
  where
    go : Present ok m ends (end_a ends i) (end_b ends i) → ⊥
    go (k, lk, ok-k, s) = pick (ℕ_discrete k i)
      where
        pick : Dec (k ≡ i) → ⊥
        pick (yes f) = not_both (ok k) ok-k (rw f e)
        pick (no f) = site.once k i f lk l s
