-- The ring through links i and j of any site, or none: what the whole leaves.
use Rattle.std.specs.Prelude.{◌≡◌, refl, Bool, true, false, cond, ◌⊎◌, ◌≢◌, List, ℕ, ◌+◌, ◌≤◌, ◌<◌, ltb, length, set}
use Rattle.std.specs.Prelude.{take}
use Rattle.std.proofs.Common.{sym, ap, subst, ◌∙◌, inl, inr, arith}
use Rattle.std.proofs.Math.Decide.{dec_lt}
use Rattle.base_lists.specs.Tests.{and_left, and_right}
use Rattle.table.specs.Table.{end_a, end_b}
use Rattle.spec_rules.specs.Basics.{ABSENT, at}
use Rattle.theory_graph.proofs.Together.{ends-apart}
use Rattle.theory_reach.specs.Site.{Site}
use Rattle.theory_ears.specs.Present.{Present, Ringed, Shows, present-graph, missing}
use Rattle.theory_ears.specs.Steps.{on_order}
use Rattle.theory_ears.specs.Tree.{Known, Tree, Whole, spreads}
use Rattle.theory_ears.specs.Growth.{Grown, Settled, order-begun}
use Rattle.theory_ears.specs.Sides.{Leant, within, leant_begun, leant_skip, leant_store}
use Rattle.theory_ears.specs.Closing.{serves, none-serves, ring-shown, shows-short}
use Rattle.theory_ears.specs.Upright.{Upright}
use Rattle.theory_ears.specs.Reaching.{Rooting, Rooted}
use Rattle.theory_ears.specs.Weaving.{Settles}
use Rattle.theory_ears.specs.Rows.{Closed}

-- ---- sides

abbrev pub LeansOne : (ℕ → Bool) → List ℕ → List ℕ → ℕ → List ℕ → List ℕ → List ℕ → List ℕ → Type 0
LeansOne ok ends pos j low high low' high' =
    (n m a b : ℕ) → Site n m ends → Upright (Present ok m ends) (on_order pos) (at pos) a b → j < m →
    Leant ok m ends pos low high j → Leant ok m ends pos low' high' (j + 1)

pub leans_skip : (ok : ℕ → Bool) (ends pos : List ℕ) (j : ℕ) (low high : List ℕ) → within ok ends pos j ≡ false →
    LeansOne ok ends pos j low high low high
leans_skip ok ends pos j low high e n m a b site U l H = leant_skip site ok pos low high j H e

pub leans_store : (ok : ℕ → Bool) (ends pos : List ℕ) (j : ℕ) (low high low' high' : List ℕ) (x y p q lower higher : ℕ)
    (up : Bool) → within ok ends pos j ≡ true
    → x ≡ end_a ends j → y ≡ end_b ends j → p ≡ at pos x → q ≡ at pos y → up ≡ ltb p q → lower ≡ cond up x y →
    higher ≡ cond up y x
    → low' ≡ set low higher lower → high' ≡ set high lower higher → LeansOne ok ends pos j low high low' high'
leans_store ok ends pos j low high low' high' x y p q lower higher up e ex ey ep eq eup el eh e₁ e₂ n m a b site U l H =
    rw (e₁, e₂, el, eh, ex, ey) (leant_store site ok pos low high j l H e apart up (eup ∙ rw (ep, eq, ex, ey) refl))
  where
    apart : at pos (end_a ends j) ≢ at pos (end_b ends j)
    apart z =
        ends-apart (present-graph site ok) (end_a ends j) (end_b ends j) (j, l, and_left (ok j) _ e, inl (refl, refl))
        (U.once (end_a ends j) (end_b ends j)
        (and_left (on_order pos (end_a ends j)) (on_order pos (end_b ends j)) (and_right (ok j) _ e))
        (and_right (on_order pos (end_a ends j)) (on_order pos (end_b ends j)) (and_right (ok j) _ e)) z)

-- over the first j links
abbrev pub Leans : (ℕ → Bool) → ℕ → List ℕ → List ℕ → ℕ → List ℕ → List ℕ → List ℕ → List ℕ → Type 0
Leans ok m ends pos j low high low' high' =
    (n a b : ℕ) → Site n m ends → Upright (Present ok m ends) (on_order pos) (at pos) a b → length low ≡ 256 →
    length high ≡ 256 → Leant ok m ends pos low' high' j

pub leans_begun : (ok : ℕ → Bool) (m : ℕ) (ends pos low high : List ℕ) → Leans ok m ends pos 0 low high low high
leans_begun ok m ends pos low high n a b site U x y = leant_begun ok m ends pos low high x y

pub leans_more : (ok : ℕ → Bool) (m : ℕ) (ends pos : List ℕ) (j : ℕ) (low high l₁ h₁ l₂ h₂ : List ℕ) → j < m →
    Leans ok m ends pos j low high l₁ h₁
    → LeansOne ok ends pos j l₁ h₁ l₂ h₂ → Leans ok m ends pos (j + 1) low high l₂ h₂
leans_more ok m ends pos j low high l₁ h₁ l₂ h₂ l L O n a b site U x y = O n m a b site U l (L n a b site U x y)

-- ---- the second link

abbrev pub Second : (ℕ → Bool) → ℕ → List ℕ → List ℕ → ℕ → ℕ → ℕ → Type 0
Second ok m ends pos i j r =
    ((r ≡ m) × ((k : ℕ) → k < m → serves ok ends pos i j k ≡ false)) ⊎ ((r < m) × (serves ok ends pos i j r ≡ true))

pub second_more : (test : ℕ → Bool) (k : ℕ) → ((q : ℕ) → q < k → test q ≡ false) → test k ≡ false → (q : ℕ) →
    q < k + 1 → test q ≡ false
second_more test k h e q l = go (dec_lt q k)
  where
    go : Dec (q < k) → test q ≡ false
    go (yes b) = h q b
    go (no b) = let f : q ≡ k = omega arith in subst (λ (z : ℕ). test z ≡ false) (sym f) e

-- ---- the order

-- an order on which nothing ties any more, and the tree beside it
pub record Standing (ok : ℕ → Bool) (n m : ℕ) (ends : List ℕ) (i : ℕ) (pos : List ℕ) : Type 0 where
  pub parent : List ℕ
  pub seq : List ℕ
  pub held : List ℕ
  pub k : ℕ
  pub tree : Tree n (Present ok m ends) (end_a ends i) parent seq k
  pub whole : Whole ok m ends parent
  pub grown : Grown n (Present ok m ends) (end_a ends i) (end_b ends i) parent pos held
  pub settled : Settled ok m ends parent pos held

abbrev pub Ordered : (ℕ → Bool) → ℕ → ℕ → List ℕ → ℕ → List ℕ → List ℕ → Type 0
Ordered ok n m ends i pos pos' =
    Site n m ends → i < m → ok i ≡ true → length pos ≡ 256 → ((z : ℕ) → z < 256 → at pos z ≡ 0) →
    Standing ok n m ends i pos'

pub ordered : (ok : ℕ → Bool) (n m : ℕ) (ends : List ℕ) (i : ℕ) (pos p₁ p₂ p₃ : List ℕ) (a b k : ℕ)
    (blank zeros parent seq held held' : List ℕ)
    → a ≡ end_a ends i → b ≡ end_b ends i → length blank ≡ 256 → ((z : ℕ) → z < 256 → at blank z ≡ ABSENT) →
    length zeros ≡ 256
    → Rooted ok m ends a b blank zeros parent seq k → length held ≡ 256 → p₁ ≡ set pos a 1 → p₂ ≡ set p₁ b 2
    → Settles ok n m ends b k parent seq p₂ held p₃ held' → Ordered ok n m ends i pos p₃
ordered ok n m ends i pos p₁ p₂ p₃ a b k blank zeros parent seq held held' ea eb lb hb lz R lh e₁ e₂ S site hi oi lp
    zp =
    record { parent = parent; seq = seq; held = held'; k = k; tree = T.0; whole = T.1; grown = G.0; settled = G.1 }
  where
    lk : Present ok m ends (end_a ends i) (end_b ends i)
    lk = (i, hi, oi, inl (refl, refl))

    rooting : Rooting ok n m ends (end_a ends i) (end_b ends i) blank zeros
    rooting = record {
      site = site;
      below-a = site.below_a i hi;
      below-b = site.below_b i hi;
      link = lk;
      room = lb;
      space = lz;
      blank = hb;
    }

    T : Tree n (Present ok m ends) (end_a ends i) parent seq k × Whole ok m ends parent
    T = (rw (ea, eb) at R) n rooting

    kb : Known n parent (end_b ends i)
    kb = spreads site ok parent T.1 (end_a ends i) (end_b ends i) T.0.root lk

    G : Grown n (Present ok m ends) (end_a ends i) (end_b ends i) parent p₃ held' × Settled ok m ends parent p₃ held'
    G = (rw (e₂, e₁, ea, eb) at S) (end_a ends i) site T.0 T.1
        (order-begun site ok (end_a ends i) (end_b ends i) parent seq k T.0 (site.below_b i hi) lk kb pos lp zp) lh

-- ---- the whole

-- T-04 on the tables of any site: r is 0 and no ring holds both links, or the first r words are such a ring that starts
-- with the ends of link i
abbrev pub RingTold : (ℕ → Bool) → ℕ → ℕ → List ℕ → ℕ → ℕ → List ℕ → List ℕ → ℕ → Type 0
RingTold ok n m ends i j out out' r =
    Site n m ends → i < m → j < m → length out ≡ 256
    → ((r ≡ 0) × (Ringed ok m ends i j → ⊥)) ⊎ (Shows ok m ends i j (take r out') × (r ≡ length (take r out')))

pub told-missing : (ok : ℕ → Bool) (n m : ℕ) (ends : List ℕ) (i j : ℕ) (out : List ℕ) → ok i ≡ false →
    RingTold ok n m ends i j out out 0
told-missing ok n m ends i j out e site hi hj long = inl (refl, missing site ok i j hi e)

module _ (ok : ℕ → Bool) (n m : ℕ) (ends : List ℕ) (i j : ℕ) (out zeros pos : List ℕ) (oi : ok i ≡ true)
    (lz : length zeros ≡ 256)
    (hz : (z : ℕ) → z < 256 → at zeros z ≡ 0) (O : Ordered ok n m ends i zeros pos) (k : ℕ)
    (K : Second ok m ends pos i j k) where
  pub told_none : k ≡ m → RingTold ok n m ends i j out out 0
  told_none e site hi hj long = inl (refl, go K)
    where
      go : Second ok m ends pos i j k → Ringed ok m ends i j → ⊥
      go (inr (l, t)) = absurd (omega arith)
      go (inl (f, none)) =
          let X = O site hi oi lz hz in
          none-serves site ok i hi X.parent X.seq X.k X.tree X.whole pos X.held X.grown
          X.settled j hj none

  pub told-ring : (k ≡ m → ⊥) → (l₀ h₀ low high : List ℕ) → length l₀ ≡ 256 → length h₀ ≡ 256 →
      Leans ok m ends pos m l₀ h₀ low high
      → (c d p q from to a b : ℕ) (up : Bool) → c ≡ end_a ends k → d ≡ end_b ends k → p ≡ at pos c → q ≡ at pos d →
      up ≡ ltb p q → from ≡ cond up c d → to ≡ cond up d c
      → a ≡ end_a ends i → b ≡ end_b ends i → (out' : List ℕ) (r : ℕ) → Closed n low high a b from to out out' r →
      RingTold ok n m ends i j out out' r
  told-ring ne l₀ h₀ low high ll lh L c d p q from to a b up ec ed ep eq eup ef et ea eb out' r C site hi hj long =
      inr (go K)
    where
      X : Standing ok n m ends i pos
      X = O site hi oi lz hz

      H : Leant ok m ends pos low high m
      H = L n (end_a ends i) (end_b ends i) site X.grown.ordering.upright ll lh

      go : Second ok m ends pos i j k → Shows ok m ends i j (take r out') × (r ≡ length (take r out'))
      go (inl (f, none)) = absurd (ne f)
      go (inr (l, t)) =
          let S = ring-shown site ok i hi X.parent X.seq X.k X.tree X.whole pos X.held
          X.grown low high H j k l t up (eup ∙ rw (ep, eq, ec, ed) refl) in
          let e = end_a ends k in
          let f = end_b ends k in
          let C₁ = subst (λ (z : ℕ). Closed n low high a b z to out out' r) ef C in
          let C₂ = subst (λ (z : ℕ). Closed n low high a b (cond up c d) z out out' r) et C₁ in
          let C₃ = subst (λ (z : ℕ). Closed n low high a b (cond up z d) (cond up d z) out out' r) ec C₂ in
          let C₄ = subst (λ (z : ℕ). Closed n low high a b (cond up e z) (cond up z e) out out' r) ed C₃ in
          let C₅ = subst (λ (z : ℕ). Closed n low high z b (cond up e f) (cond up f e) out out' r) ea C₄ in
          let C₆ = subst (λ (z : ℕ). Closed n low high (end_a ends i) z (cond up e f) (cond up f e) out out' r) eb C₅ in
          let w = C₆ long (omega (arith, shows-short site S, site.few_units)) in
          (subst (Shows ok m ends i j) (sym w.1) S, w.0 ∙ ap length (sym w.1))
