-- A class touches one unit more than it has tree links: the lower ends of these, and the one top of the class.
use Rattle.std.specs.Prelude.{◌≡◌, refl, ◌≢◌, ◌↔◌, Bool, true, false, List, [], ◌∷◌, ℕ, zero, suc, ◌<◌}
use Rattle.std.proofs.Common.{sym, ap, subst, ◌∙◌, inl, inr, true≢false, arith}
use Rattle.std.proofs.Math.Decide.{ℕ_discrete, dec_lt}
use Rattle.base_lists.specs.Members.{Mem}
use Rattle.base_lists.specs.Folds.{count}
use Rattle.base_lists.specs.Counts.{count_next}
use Rattle.theory_graph.specs.Rings.{Graph, last, Walk, Ring, Connected}
use Rattle.theory_graph.specs.Walks.{holds-first, holds-second}
use Rattle.theory_graph.specs.Routes.{Without, ring-around}
use Rattle.theory_graph.specs.Forest.{Forest, self, Classes, ClassOf, lower, upper}
use Rattle.theory_graph.specs.Ancestors.{anc_depth, top_anc}
use Rattle.theory_graph.proofs.Together.{Together, ends-apart}
use Rattle.theory_graph.proofs.Sides.{Side, below, beside, side, side_route, side-own, class-link}
use Rattle.theory_graph.proofs.Blocks.{not_top, class-together}

-- some link of class c ends at x
abbrev pub Touches : (ℕ → ℕ → Type 0) → (ℕ → ℕ) → (ℕ → ℕ) → (ℕ → ℕ) → ℕ → ℕ → Type 0
Touches E p d cl c x = (y : ℕ) × ClassOf E p d cl x y c

-- x is the lower end of a tree link of class c
abbrev pub Names : (ℕ → ℕ) → (ℕ → ℕ) → ℕ → ℕ → Type 0
Names d cl c x = (0 < d x) × (cl x ≡ c)

-- m is the unit that class c touches and that names no tree link of it
record Top (E : ℕ → ℕ → Type 0) (p d cl : ℕ → ℕ) (c m : ℕ) : Type 0 where
  pub touched : Touches E p d cl c m
  pub nameless : Names d cl c m → ⊥

module _ {E : ℕ → ℕ → Type 0} {p d root cl : ℕ → ℕ} (G : Graph E) (F : Forest E p d root) (C : Classes E p d cl) where
  names? : (c x : ℕ) → Dec (Names d cl c x)
  names? c x = go (dec_lt 0 (d x)) (ℕ_discrete (cl x) c)
    where
      go : Dec (0 < d x) → Dec (cl x ≡ c) → Dec (Names d cl c x)
      go (yes h) (yes e) = yes (h, e)
      go (yes h) (no e) = no (λ k. e k.1)
      go (no h) e = no (λ k. h k.0)

  names-touches : (c x : ℕ) → Names d cl c x → Touches E p d cl c x
  names-touches c x (h, e) = (p x, lower h refl (sym e))

  -- a top is the parent of a unit that names a tree link of the class
  top-child : (c m : ℕ) → Top E p d cl c m → (t : ℕ) × (0 < d t) × (p t ≡ m) × (cl t ≡ c)
  top-child c m T =
      let y = T.touched.0 in
      let k = T.touched.1 in
      let l = class-link G F k in
      let s = side G F C.along-aux m y (ends-apart G m y l) in
      go y l s.1 (side-own G F C.along-aux k s.1)
    where
      go : (y : ℕ) → E m y → {c' : ℕ} → Side p d cl m y c' → c ≡ c' → (t : ℕ) × (0 < d t) × (p t ≡ m) × (cl t ≡ c)
      go y l (below t h e a) f = (t, h, e, sym f)
      go y l (beside n) f = absurd (T.nameless (not_top G F m y l n, sym f))

  root_route : (b x y : ℕ) → Connected (Without b E) x y → root x ≡ root y
  root_route b x y (l, w) = go x l w.0 w.1
    where
      go : (v : ℕ) (k : List ℕ) → Walk (Without b E) v k → last v k ≡ y → root v ≡ root y
      go v [] w e = ap root e
      go v (z ∷ k) w e = F.spans v z w.0.0 ∙ go z k w.1 e

  -- on a ring with the tree link from t to its parent m, a top: each other unit is deeper than m
  top_least : (c m t : ℕ) → Top E p d cl c m → 0 < d t → p t ≡ m → cl t ≡ c → (r : List ℕ) → Ring E r → Mem m r →
      Mem t r
      → (x : ℕ) → Mem x r → m ≢ x → d m < d x
  top_least c m t T h e f r R mm mt x mx n =
      let lt : E m t = subst (λ (z : ℕ). E z t) e (G.flip t (p t) (F.link t h)) in
      let way = ring-around G R m t x mm mt mx (ends-apart G m t lt) n in
      let s = side G F C.along-aux m x n in
      go way s.1 (side_route G F C.along-aux way (below t h e (self refl)) s.1)
    where
      go : Connected (Without m E) t x → {c' : ℕ} → Side p d cl m x c' → cl t ≡ c' → d m < d x
      go way (below k hk ek a) g = omega (arith, anc_depth F a, F.deeper k hk, ap d ek)
      go way (beside q) g = absurd (q (top_anc F same zero_depth))
        where
          same : root m ≡ root x
          same = ap root (sym e) ∙ (sym (F.spans t (p t) (F.link t h)) ∙ root_route m t x way)

          zero_depth : d m ≡ 0
          zero_depth = pick (dec_lt 0 (d m))
            where
              pick : Dec (0 < d m) → d m ≡ 0
              pick (yes i) = absurd (T.nameless (i, sym g ∙ f))
              pick (no i) = omega arith

  top_unique : (c m k : ℕ) → Top E p d cl c m → Top E p d cl c k → m ≡ k
  top_unique c m k T U = pick (ℕ_discrete m k)
    where
      pick : Dec (m ≡ k) → m ≡ k
      pick (yes e) = e
      pick (no n) =
          let (t, ht, et, ft) = top-child c m T in
          let (s, hs, es, fs) = top-child c k U in
          absurd (go t ht et ft s hs es fs
          (class-together G F C {c = c} {c' = c} (lower ht et (sym ft)) (lower hs es (sym fs)) refl))
        where
          go : (t : ℕ) → 0 < d t → p t ≡ m → cl t ≡ c → (s : ℕ) → 0 < d s → p s ≡ k → cl s ≡ c → Together E t m s k → ⊥
          go t ht et ft s hs es fs (inl (inl e)) = n e.1
          go t ht et ft s hs es fs (inl (inr e)) =
              omega (arith, F.deeper t ht, F.deeper s hs, ap d et, ap d es, ap d e.0, ap d e.1)
          go t ht et ft s hs es fs (inr (r, R, a, b)) =
              let i = top_least c m t T ht et ft r R (holds-second r t m a) (holds-first r t m a) k
              (holds-second r s k b) n in
              let j = top_least c k s U hs es fs r R (holds-second r s k b) (holds-first r s k b) m
              (holds-second r t m a) (λ e. n (sym e)) in
              omega arith

  -- the top of the class of a tree link: climb while the class stays
  top-exists : (c w : ℕ) → Names d cl c w → (m : ℕ) × Top E p d cl c m
  top-exists c w = go (d w) w refl
    where
      go : (i v : ℕ) → d v ≡ i → Names d cl c v → (m : ℕ) × Top E p d cl c m
      go zero v e k = let h : 0 < d v = k.0 in absurd (omega arith)
      go (suc i) v e k = let h : 0 < d v = k.0 in next (names? c (p v)) (go i (p v) (omega (arith, F.deeper v h)))
        where
          next : Dec (Names d cl c (p v)) → (Names d cl c (p v) → (m : ℕ) × Top E p d cl c m) →
              (m : ℕ) × Top E p d cl c m
          next (yes j) g = g j
          next (no j) g = (p v, record { touched = (v, upper k.0 refl (sym k.1)); nameless = j })

  -- counted by tests among 0 .. n − 1
  pub touched-count : (n c w : ℕ) (touches names : ℕ → Bool) → Names d cl c w
      → ((u v : ℕ) → E u v → u < n)
      → ((x : ℕ) → x < n → (touches x ≡ true) ↔ Touches E p d cl c x)
      → ((x : ℕ) → x < n → (names x ≡ true) ↔ Names d cl c x)
      → count n touches ≡ suc (count n names)
  touched-count n c w touches names k low ht hn =
      let m = (top-exists c w k).0 in
      let T = (top-exists c w k).1 in
      let lm : m < n = low m T.touched.0 (class-link G F T.touched.1) in
      let nameless : names m ≡ false = off (names m) (λ e. T.nameless ((hn m lm).0 e)) in
      count_next n touches names m lm ((ht m lm).1 T.touched) nameless
      (λ i l ne. agree m T i l ne (touches i) (names i) refl refl)
    where
      off : (b : Bool) → (b ≡ true → ⊥) → b ≡ false
      off true f = absurd (f refl)
      off false f = refl

      agree : (m : ℕ) → Top E p d cl c m → (i : ℕ) → i < n → i ≢ m → (a b : Bool) → touches i ≡ a → names i ≡ b → a ≡ b
      agree m T i l ne true true ea eb = refl
      agree m T i l ne false false ea eb = refl
      agree m T i l ne false true ea eb = sym ea ∙ (ht i l).1 (names-touches c i ((hn i l).0 eb))
      agree m T i l ne true false ea eb =
          absurd (ne (top_unique c i m (record {
            touched = (ht i l).0 ea;
            nameless = λ k. true≢false (sym ((hn i l).1 k) ∙ eb);
          }) T))
