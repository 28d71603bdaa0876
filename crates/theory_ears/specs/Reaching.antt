-- What the steps towards the tree leave, of any site: nothing changed, or a tree of more units.
use Rattle.std.specs.Prelude.{◌≡◌, refl, Bool, true, false, cond, ◌⊎◌, List, ℕ, ◌+◌, ◌≤◌, ◌<◌, min, length, set}
use Rattle.std.proofs.Common.{sym, ap, subst, ◌∙◌, inl, inr, arith}
use Rattle.std.proofs.Math.Decide.{dec_lt, ℕ_discrete}
use Rattle.table.specs.Table.{end_a, end_b}
use Rattle.spec_rules.specs.Basics.{ABSENT, at}
use Rattle.theory_reach.specs.Site.{Site}
use Rattle.theory_ears.specs.Present.{Present}
use Rattle.theory_ears.specs.Steps.{seen, leads_out}
use Rattle.theory_ears.specs.Tree.{Tree, Whole, tree-few, attach-link, tree-begun}

-- over link j: k' units after k
abbrev pub Reached : (ℕ → Bool) → ℕ → List ℕ → ℕ → List ℕ → List ℕ → ℕ → List ℕ → List ℕ → ℕ → Type 0
Reached ok m ends j parent seq k parent' seq' k' =
    (n a : ℕ) → Site n m ends → Tree n (Present ok m ends) a parent seq k
    → ((k' ≡ k) × (parent' ≡ parent) × (seq' ≡ seq) × (j < m → leads_out ok ends parent j ≡ false))
    ⊎ ((k < k') × Tree n (Present ok m ends) a parent' seq' k')

pub reached-past : (ok : ℕ → Bool) (m : ℕ) (ends : List ℕ) (j : ℕ) (parent seq : List ℕ) (k : ℕ) → m ≤ j →
    Reached ok m ends j parent seq k parent seq k
reached-past ok m ends j parent seq k h n a site T = inl (refl, refl, refl, λ l. absurd (omega arith))

pub reached-none : (ok : ℕ → Bool) (m : ℕ) (ends : List ℕ) (j : ℕ) (parent seq : List ℕ) (k : ℕ) →
    leads_out ok ends parent j ≡ false → Reached ok m ends j parent seq k parent seq k
reached-none ok m ends j parent seq k e n a site T = inl (refl, refl, refl, λ l. e)

pub reached-more : (ok : ℕ → Bool) (m : ℕ) (ends : List ℕ) (j : ℕ) (parent seq : List ℕ) (k : ℕ) (parent' seq' : List ℕ)
    (k' u v : ℕ) (s : Bool) (x y : ℕ)
    → j < m → leads_out ok ends parent j ≡ true → u ≡ end_a ends j → v ≡ end_b ends j → s ≡ seen parent u →
    x ≡ cond s v u → y ≡ cond s u v
    → parent' ≡ set parent x y → seq' ≡ set seq k x → k' ≡ min (k + 1) 2048 →
    Reached ok m ends j parent seq k parent' seq' k'
reached-more ok m ends j parent seq k parent' seq' k' u v s x y l t eu ev es ex ey ep eq ek n a site T =
    let T' : Tree n (Present ok m ends) a parent' seq' (k + 1) =
    rw (ep, eq, ex, ey) (attach-link site ok a parent seq k j u v s T l t eu ev es) in
    let e : k' ≡ k + 1 = omega (arith, ek, tree-few n (Present ok m ends) a parent seq k T, site.few_units) in
    inr (omega arith, rw e T')

-- over the first j links, one after the other
abbrev pub Swept : (ℕ → Bool) → ℕ → List ℕ → ℕ → List ℕ → List ℕ → ℕ → List ℕ → List ℕ → ℕ → Type 0
Swept ok m ends j parent seq k parent' seq' k' =
    (n a : ℕ) → Site n m ends → Tree n (Present ok m ends) a parent seq k
    → (k ≤ k') × Tree n (Present ok m ends) a parent' seq' k'
    × (k' ≡ k → (q : ℕ) → q < j → leads_out ok ends parent' q ≡ false)

pub swept-begun : (ok : ℕ → Bool) (m : ℕ) (ends parent seq : List ℕ) (k : ℕ) →
    Swept ok m ends 0 parent seq k parent seq k
swept-begun ok m ends parent seq k n a site T = (omega arith, T, λ e q h. absurd (omega arith))

pub swept-more : (ok : ℕ → Bool) (m : ℕ) (ends : List ℕ) (j : ℕ) (parent seq : List ℕ) (k : ℕ) (p₁ s₁ : List ℕ) (k₁ : ℕ)
    (p₂ s₂ : List ℕ) (k₂ : ℕ) → j < m
    → Swept ok m ends j parent seq k p₁ s₁ k₁ → Reached ok m ends j p₁ s₁ k₁ p₂ s₂ k₂ →
    Swept ok m ends (j + 1) parent seq k p₂ s₂ k₂
swept-more ok m ends j parent seq k p₁ s₁ k₁ p₂ s₂ k₂ l S R n a site T = go (R n a site w.1)
  where
    w : (k ≤ k₁) × Tree n (Present ok m ends) a p₁ s₁ k₁ × (k₁ ≡ k → (q : ℕ) → q < j → leads_out ok ends p₁ q ≡ false)
    w = S n a site T

    go : ((k₂ ≡ k₁) × (p₂ ≡ p₁) × (s₂ ≡ s₁) × (j < m → leads_out ok ends p₁ j ≡ false))
        ⊎ ((k₁ < k₂) × Tree n (Present ok m ends) a p₂ s₂ k₂)
        → (k ≤ k₂) × Tree n (Present ok m ends) a p₂ s₂ k₂
        × (k₂ ≡ k → (q : ℕ) → q < j + 1 → leads_out ok ends p₂ q ≡ false)
    go (inr (b, T₂)) = (omega (arith, w.0), T₂, λ e. absurd (omega (arith, w.0)))
    go (inl (ek, ep, es, none)) =
        (omega (arith, w.0), rw (ek, ep, es) w.1, λ e q h. rw ep (all (sym ek ∙ e) q h (dec_lt q j)))
      where
        all : k₁ ≡ k → (q : ℕ) → q < j + 1 → Dec (q < j) → leads_out ok ends p₁ q ≡ false
        all e q h (yes b) = w.2 e q b
        all e q h (no b) = let f : q ≡ j =
            omega arith in subst (λ (z : ℕ). leads_out ok ends p₁ z ≡ false) (sym f) (none l)

-- some steps on: still a tree
abbrev pub Spanned : (ℕ → Bool) → ℕ → List ℕ → List ℕ → List ℕ → ℕ → List ℕ → List ℕ → ℕ → Type 0
Spanned ok m ends parent seq k parent' seq' k' =
    (n a : ℕ) → Site n m ends → Tree n (Present ok m ends) a parent seq k → Tree n (Present ok m ends) a parent' seq' k'

pub spanned_more : (ok : ℕ → Bool) (m : ℕ) (ends : List ℕ) (j : ℕ) (parent seq : List ℕ) (k : ℕ) (p₁ s₁ : List ℕ)
    (k₁ : ℕ) (p₂ s₂ : List ℕ) (k₂ : ℕ)
    → Spanned ok m ends parent seq k p₁ s₁ k₁ → Reached ok m ends j p₁ s₁ k₁ p₂ s₂ k₂ →
    Spanned ok m ends parent seq k p₂ s₂ k₂
spanned_more ok m ends j parent seq k p₁ s₁ k₁ p₂ s₂ k₂ S R n a site T = go (R n a site (S n a site T))
  where
    go : ((k₂ ≡ k₁) × (p₂ ≡ p₁) × (s₂ ≡ s₁) × (j < m → leads_out ok ends p₁ j ≡ false))
        ⊎ ((k₁ < k₂) × Tree n (Present ok m ends) a p₂ s₂ k₂)
        → Tree n (Present ok m ends) a p₂ s₂ k₂
    go (inr (b, T₂)) = T₂
    go (inl (ek, ep, es, none)) = rw (ek, ep, es) (S n a site T)

-- ---- sweep after sweep

-- a tree out of which no link leads
abbrev pub Filled : (ℕ → Bool) → ℕ → List ℕ → List ℕ → List ℕ → ℕ → List ℕ → List ℕ → ℕ → Type 0
Filled ok m ends parent seq k parent' seq' k' =
    (n a : ℕ) → Site n m ends → Tree n (Present ok m ends) a parent seq k →
    Tree n (Present ok m ends) a parent' seq' k' × Whole ok m ends parent'

-- after i sweeps that each added units: at least i
abbrev pub Filling : (ℕ → Bool) → ℕ → List ℕ → List ℕ → List ℕ → ℕ → ℕ → List ℕ → List ℕ → ℕ → Type 0
Filling ok m ends parent seq k i parent' seq' k' =
    (n a : ℕ) → Site n m ends → Tree n (Present ok m ends) a parent seq k →
    (i ≤ k') × Tree n (Present ok m ends) a parent' seq' k'

module _ (ok : ℕ → Bool) (m : ℕ) (ends parent seq : List ℕ) (k : ℕ) where
  pub filling_begun : Filling ok m ends parent seq k 0 parent seq k
  filling_begun n a site T = (omega arith, T)

  module _ (i : ℕ) (p₁ s₁ : List ℕ) (k₁ : ℕ) (F : Filling ok m ends parent seq k i p₁ s₁ k₁) where
    pub filling_more : (p₂ s₂ : List ℕ) (k₂ : ℕ) → Swept ok m ends m p₁ s₁ k₁ p₂ s₂ k₂ → (k₂ ≡ k₁ → ⊥) →
        Filling ok m ends parent seq k (i + 1) p₂ s₂ k₂
    filling_more p₂ s₂ k₂ S ne n a site T =
        let w = F n a site T in
        let x = S n a site w.1 in
        (omega (arith, w.0, x.0, ne), x.1)

    pub filled_same : (p₂ s₂ : List ℕ) (k₂ : ℕ) → Swept ok m ends m p₁ s₁ k₁ p₂ s₂ k₂ → k₂ ≡ k₁ →
        Filled ok m ends parent seq k p₂ s₂ k₂
    filled_same p₂ s₂ k₂ S e n a site T = let x = S n a site (F n a site T).1 in (x.1, x.2 e)

    -- a site has no more units
    pub filled_full : 257 ≤ i → Filled ok m ends parent seq k p₁ s₁ k₁
    filled_full h n a site T =
        let w = F n a site T in
        absurd (omega (arith, w.0, tree-few n (Present ok m ends) a p₁ s₁ k₁ w.1, site.few_units))

-- ---- from the first link on

-- what the tree starts from: a site, a link of a and b that counts, tables that have no unit
pub record Rooting (ok : ℕ → Bool) (n m : ℕ) (ends : List ℕ) (a b : ℕ) (parent seq : List ℕ) : Type 0 where
  pub site : Site n m ends
  pub below-a : a < n
  pub below-b : b < n
  pub link : Present ok m ends a b
  pub room : length parent ≡ 256
  pub space : length seq ≡ 256
  pub blank : (i : ℕ) → i < 256 → at parent i ≡ ABSENT

-- a tree out of which no link leads
abbrev pub Rooted : (ℕ → Bool) → ℕ → List ℕ → ℕ → ℕ → List ℕ → List ℕ → List ℕ → List ℕ → ℕ → Type 0
Rooted ok m ends a b parent seq parent' seq' k' =
    (n : ℕ) → Rooting ok n m ends a b parent seq →
    Tree n (Present ok m ends) a parent' seq' k' × Whole ok m ends parent'

pub rooted : (ok : ℕ → Bool) (m : ℕ) (ends : List ℕ) (a b : ℕ) (parent p₁ p₂ seq s₁ s₂ p₃ s₃ : List ℕ) (k₃ : ℕ)
    (p₄ s₄ : List ℕ) (k₄ : ℕ)
    → p₁ ≡ set parent a a → p₂ ≡ set p₁ b a → s₁ ≡ set seq 0 a → s₂ ≡ set s₁ 1 b → Spanned ok m ends p₂ s₂ 2 p₃ s₃ k₃ →
    Filled ok m ends p₃ s₃ k₃ p₄ s₄ k₄
    → Rooted ok m ends a b parent seq p₄ s₄ k₄
rooted ok m ends a b parent p₁ p₂ seq s₁ s₂ p₃ s₃ k₃ p₄ s₄ k₄ e₁ e₂ f₁ f₂ D F n R =
    let T : Tree n (Present ok m ends) a p₂ s₂ 2 =
    rw (e₂, e₁, f₂, f₁) (tree-begun R.site ok a b R.below-a R.below-b R.link parent seq R.room
    R.space R.blank) in
    F n a R.site (D n a R.site T)
