-- An instance that meets every hypothesis of the theorems: a triangle 0, 1, 2 with a tail from 2 to 3 (document 01's
-- case B).
use Rattle.std.specs.Prelude.{◌≡◌, refl, ◌⊎◌, ◌≢◌, ◌↔◌, Bool, true, ◌&&◌, List, [], ◌∷◌, ℕ, zero, suc, ◌≤◌, ◌<◌, ltb}
use Rattle.std.specs.Prelude.{eqb}
use Rattle.std.proofs.Common.{sym, ap, subst₂, inl, inr, true≢false, arith, lt-ltb, ltb-true}
use Rattle.base_lists.specs.Pigeonhole.{Picked}
use Rattle.base_lists.specs.Folds.{count}
use Rattle.theory_graph.specs.Rings.{Graph, Ring, Holds, OnRing, SameLink, Articulation}
use Rattle.theory_graph.specs.Forest.{Forest, Anc, TreeLink, OffTree, Aux, across, along, Joined, stay, on, back}
use Rattle.theory_graph.specs.Forest.{Classes, ClassOf, lower, upper, first, second}
use Rattle.theory_graph.specs.Ancestors.{anc_depth, anc_level}
use Rattle.theory_graph.specs.TreePath.{fundamental}
use Rattle.theory_graph.proofs.Together.{through}
use Rattle.theory_graph.proofs.Sides.{class-link, class-flip, class_unique}
use Rattle.theory_graph.proofs.Blocks.{Alone, blocks-other, bridge}
use Rattle.theory_graph.proofs.Cuts.{articulation}
use Rattle.theory_graph.specs.Propagation.{Rounds}
use Rattle.theory_graph.proofs.Joins.{classes-by_rounds}
use Rattle.theory_graph.proofs.Touches.{Touches, Names, touched-count}

abbrev Tail : ℕ → ℕ → Type 0
Tail u v = SameLink 0 1 u v ⊎ (SameLink 1 2 u v ⊎ (SameLink 0 2 u v ⊎ SameLink 2 3 u v))

-- a law of each link, in both orders
links : (P : ℕ → ℕ → Type 0) → P 0 1 → P 1 0 → P 1 2 → P 2 1 → P 0 2 → P 2 0 → P 2 3 → P 3 2 → (u v : ℕ) → Tail u v →
    P u v
links P a a' b b' c c' e e' u v (inl (inl h)) = subst₂ P h.0 h.1 a
links P a a' b b' c c' e e' u v (inl (inr h)) = subst₂ P h.1 h.0 a'
links P a a' b b' c c' e e' u v (inr (inl (inl h))) = subst₂ P h.0 h.1 b
links P a a' b b' c c' e e' u v (inr (inl (inr h))) = subst₂ P h.1 h.0 b'
links P a a' b b' c c' e e' u v (inr (inr (inl (inl h)))) = subst₂ P h.0 h.1 c
links P a a' b b' c c' e e' u v (inr (inr (inl (inr h)))) = subst₂ P h.1 h.0 c'
links P a a' b b' c c' e e' u v (inr (inr (inr (inl h)))) = subst₂ P h.0 h.1 e
links P a a' b b' c c' e e' u v (inr (inr (inr (inr h)))) = subst₂ P h.1 h.0 e'

l01 : Tail 0 1
l01 = inl (inl (refl, refl))

l10 : Tail 1 0
l10 = inl (inr (refl, refl))

l12 : Tail 1 2
l12 = inr (inl (inl (refl, refl)))

l21 : Tail 2 1
l21 = inr (inl (inr (refl, refl)))

l02 : Tail 0 2
l02 = inr (inr (inl (inl (refl, refl))))

l20 : Tail 2 0
l20 = inr (inr (inl (inr (refl, refl))))

l23 : Tail 2 3
l23 = inr (inr (inr (inl (refl, refl))))

l32 : Tail 3 2
l32 = inr (inr (inr (inr (refl, refl))))

abbrev parent : ℕ → ℕ
parent zero = 0
parent (suc zero) = 0
parent (suc (suc zero)) = 0
parent (suc (suc (suc n))) = 2

abbrev depth : ℕ → ℕ
depth zero = 0
depth (suc zero) = 1
depth (suc (suc zero)) = 1
depth (suc (suc (suc zero))) = 2
depth (suc (suc (suc (suc n)))) = 0

abbrev top : ℕ → ℕ
top zero = 0
top (suc zero) = 0
top (suc (suc zero)) = 0
top (suc (suc (suc zero))) = 0
top (suc (suc (suc (suc n)))) = suc (suc (suc (suc n)))

abbrev class : ℕ → ℕ
class zero = 0
class (suc zero) = 1
class (suc (suc zero)) = 1
class (suc (suc (suc n))) = 3

graph : Graph Tail
graph = record { flip = links (λ u v. Tail v u) l10 l01 l21 l12 l20 l02 l32 l23; loopless = λ u h. never u u h refl }
  where
    never : (u v : ℕ) → Tail u v → u ≢ v
    never = links (λ u v. u ≢ v) (omega arith) (omega arith) (omega arith) (omega arith) (omega arith) (omega arith)
        (omega arith) (omega arith)

forest : Forest Tail parent depth top
forest = record {
  deeper = deeper;
  link = link;
  top = at_top;
  spans = links (λ u v. top u ≡ top v) refl refl refl refl refl refl refl refl;
}
  where
    deeper : (v : ℕ) → 0 < depth v → depth v ≡ suc (depth (parent v))
    deeper zero h = absurd (omega arith)
    deeper (suc zero) h = refl
    deeper (suc (suc zero)) h = refl
    deeper (suc (suc (suc zero))) h = refl
    deeper (suc (suc (suc (suc n)))) h = absurd (omega arith)

    link : (v : ℕ) → 0 < depth v → Tail v (parent v)
    link zero h = absurd (omega arith)
    link (suc zero) h = l10
    link (suc (suc zero)) h = l20
    link (suc (suc (suc zero))) h = l32
    link (suc (suc (suc (suc n)))) h = absurd (omega arith)

    at_top : (v : ℕ) → depth v ≡ 0 → top v ≡ v
    at_top zero h = refl
    at_top (suc zero) h = absurd (omega arith)
    at_top (suc (suc zero)) h = absurd (omega arith)
    at_top (suc (suc (suc zero))) h = absurd (omega arith)
    at_top (suc (suc (suc (suc n)))) h = refl

-- the one link off the tree
off-tree : (P : ℕ → ℕ → Type 0) → P 1 2 → P 2 1 → (u v : ℕ) → OffTree Tail parent depth u v → P u v
off-tree P a b u v o =
    links (λ x y. (TreeLink parent depth x y → ⊥) → P x y)
    (λ n. absurd (n (inr (omega arith, refl)))) (λ n. absurd (n (inl (omega arith, refl)))) (λ n. a) (λ n. b)
    (λ n. absurd (n (inr (omega arith, refl)))) (λ n. absurd (n (inl (omega arith, refl))))
    (λ n. absurd (n (inr (omega arith, refl)))) (λ n. absurd (n (inl (omega arith, refl))))
    u v o.link o.off

off_12 : OffTree Tail parent depth 1 2
off_12 = record { link = l12; off = go }
  where
    go : TreeLink parent depth 1 2 → ⊥
    go (inl h) = let e : ◌≡◌ {A = ℕ} 0 2 = h.1 in omega arith
    go (inr h) = let e : ◌≡◌ {A = ℕ} 0 1 = h.1 in omega arith

apart_12 : Anc parent depth 1 2 → ⊥
apart_12 a = let e : ◌≡◌ {A = ℕ} 1 2 = anc_level forest a (omega arith) in omega arith

apart_21 : Anc parent depth 2 1 → ⊥
apart_21 a = let e : ◌≡◌ {A = ℕ} 2 1 = anc_level forest a (omega arith) in omega arith

aux_12 : Aux Tail parent depth 1 2
aux_12 = across off_12 apart_12 apart_21

-- and no auxiliary edge along the tree: the link off the tree lies too high
no_climb : (u v x y : ℕ) → 0 < depth u → parent u ≡ v → 0 < depth v → OffTree Tail parent depth x y →
    Anc parent depth u y → ⊥
no_climb u v x y h e k o a =
    omega (arith, anc_depth forest a, off-tree (λ i j. depth j ≡ 1) refl refl x y o, forest.deeper u h, ap depth e)

classes : Classes Tail parent depth class
classes = record { along-aux = along-aux; only-joined = only-joined }
  where
    along-aux : (u v : ℕ) → Aux Tail parent depth u v → class u ≡ class v
    along-aux u v (across o n m) = off-tree (λ x y. class x ≡ class y) refl refl u v o
    along-aux u v (along h e k x y o a n) = absurd (no_climb u v x y h e k o a)

    only-joined : (u v : ℕ) → 0 < depth u → 0 < depth v → class u ≡ class v → Joined Tail parent depth u v
    only-joined zero v h k e = absurd (omega arith)
    only-joined (suc (suc (suc (suc n)))) v h k e = absurd (omega arith)
    only-joined (suc zero) zero h k e = absurd (omega arith)
    only-joined (suc zero) (suc zero) h k e = stay
    only-joined (suc zero) (suc (suc zero)) h k e = on stay aux_12
    only-joined (suc zero) (suc (suc (suc n))) h k e = absurd (omega arith)
    only-joined (suc (suc zero)) zero h k e = absurd (omega arith)
    only-joined (suc (suc zero)) (suc zero) h k e = back stay aux_12
    only-joined (suc (suc zero)) (suc (suc zero)) h k e = stay
    only-joined (suc (suc zero)) (suc (suc (suc n))) h k e = absurd (omega arith)
    only-joined (suc (suc (suc zero))) zero h k e = absurd (omega arith)
    only-joined (suc (suc (suc zero))) (suc zero) h k e = absurd (omega arith)
    only-joined (suc (suc (suc zero))) (suc (suc zero)) h k e = absurd (omega arith)
    only-joined (suc (suc (suc zero))) (suc (suc (suc zero))) h k e = stay
    only-joined (suc (suc (suc zero))) (suc (suc (suc (suc n)))) h k e = absurd (omega arith)

class_01 : ClassOf Tail parent depth class 0 1 1
class_01 = upper (omega arith) refl refl

class_12 : ClassOf Tail parent depth class 1 2 1
class_12 = first off_12 apart_12 refl

class_20 : ClassOf Tail parent depth class 2 0 1
class_20 = lower (omega arith) refl refl

class_23 : ClassOf Tail parent depth class 2 3 3
class_23 = upper (omega arith) refl refl

-- what the theorems then say of it: a ring holds 0-1 and 1-2, none holds 2-3, and 2 is an articulation point
ring_of : OnRing Tail 0 1 1 2
ring_of = (blocks-other graph forest classes other class_01 class_12).0 refl
  where
    other : SameLink 0 1 1 2 → ⊥
    other (inl h) = let e : ◌≡◌ {A = ℕ} 0 1 = h.0 in omega arith
    other (inr h) = let e : ◌≡◌ {A = ℕ} 0 2 = h.0 in omega arith

lone-tail : (r : List ℕ) → Ring Tail r → Holds r 2 3 → ⊥
lone-tail = (bridge graph forest classes class_23).0 alone
  where
    alone : Alone Tail parent depth class 2 3 3
    alone x y c l h e =
        links (λ u v. ClassOf Tail parent depth class u v c → SameLink 2 3 u v)
        (other 0 1 class_01) (other 1 0 (flipped class_01)) (other 1 2 class_12) (other 2 1 (flipped class_12))
        (other 0 2 (flipped class_20)) (other 2 0 class_20) (λ k. inl (refl, refl)) (λ k. inr (refl, refl)) x y l h
      where
        flipped : {u v k : ℕ} → ClassOf Tail parent depth class u v k → ClassOf Tail parent depth class v u k
        flipped = class-flip graph forest classes.along-aux

        other : (u v : ℕ) → ClassOf Tail parent depth class u v 1 → ClassOf Tail parent depth class u v c →
            SameLink 2 3 u v
        other u v a b =
            let f : 1 ≡ c = class_unique graph forest classes.along-aux (class-link graph forest a) a b in
            absurd (omega arith)

cut-two : Articulation Tail 2
cut-two =
    (articulation graph forest classes).0
    (record { a = 0; b = 3; class-a = 1; class-b = 3; first = class_20; second = class_23; differ = omega arith })

-- the functions compute: the ring of the link off the tree, and two squares with a common link made one
ring_12 : fundamental parent depth 1 2 ≡ 1 ∷ (0 ∷ (2 ∷ []))
ring_12 = refl

two_squares : through 0 1 (0 ∷ (1 ∷ (2 ∷ (3 ∷ [])))) 4 5 (2 ∷ (3 ∷ (4 ∷ (5 ∷ []))))
    ≡ 4 ∷ (5 ∷ (2 ∷ (1 ∷ (0 ∷ (3 ∷ [])))))
two_squares = refl

-- values spread over it from the least: all are 0 after two rounds
abbrev value : ℕ → ℕ → ℕ
value zero v = v
value (suc zero) zero = 0
value (suc zero) (suc zero) = 0
value (suc zero) (suc (suc zero)) = 0
value (suc zero) (suc (suc (suc n))) = 2
value (suc (suc k)) v = 0

rounds : Rounds (λ v. true) 4 Tail value
rounds = record { start = λ v h. refl; own = own; near = near; attained = attained }
  where
    at : (v : ℕ) → v < 4 → Picked (λ v. true) 4 v
    at v h = record { below = h; passes = refl }

    own : (k v : ℕ) → Picked (λ v. true) 4 v → value (suc k) v ≤ value k v
    own zero zero h = omega arith
    own zero (suc zero) h = omega arith
    own zero (suc (suc zero)) h = omega arith
    own zero (suc (suc (suc n))) h = omega arith
    own (suc k) v h = omega arith

    near : (k v w : ℕ) → Picked (λ v. true) 4 v → Picked (λ v. true) 4 w → Tail v w → value (suc k) v ≤ value k w
    near zero v w h g l =
        links (λ x y. value 1 x ≤ y) (omega arith) (omega arith) (omega arith) (omega arith) (omega arith) (omega arith)
        (omega arith) (omega arith) v w l
    near (suc k) v w h g l = omega arith

    attained : (k v : ℕ) → Picked (λ v. true) 4 v
        → (value (suc k) v ≡ value k v) ⊎ ((w : ℕ) × Picked (λ v. true) 4 w × Tail v w × (value (suc k) v ≡ value k w))
    attained zero zero h = inl refl
    attained zero (suc zero) h = inr (0, at 0 (omega arith), l10, refl)
    attained zero (suc (suc zero)) h = inr (0, at 0 (omega arith), l20, refl)
    attained zero (suc (suc (suc zero))) h = inr (2, at 2 (omega arith), l32, refl)
    attained zero (suc (suc (suc (suc n)))) h = absurd (omega arith)
    attained (suc zero) zero h = inl refl
    attained (suc zero) (suc zero) h = inl refl
    attained (suc zero) (suc (suc zero)) h = inl refl
    attained (suc zero) (suc (suc (suc zero))) h = inr (2, at 2 (omega arith), l32, refl)
    attained (suc zero) (suc (suc (suc (suc n)))) h = absurd (omega arith)
    attained (suc (suc k)) v h = inl refl

-- classes spread over its auxiliary graph, among 1, 2, 3: the class of 2 is 1 from the first round on
abbrev non_root : ℕ → Bool
non_root v = ltb 0 (depth v)

abbrev Joins : ℕ → ℕ → Type 0
Joins v w = Aux Tail parent depth v w ⊎ Aux Tail parent depth w v

abbrev spread : ℕ → ℕ → ℕ
spread zero v = v
spread (suc k) v = class v

in_range_lem : (v : ℕ) → (0 < depth v) ↔ Picked non_root 4 v
in_range_lem v = (λ h. record { below = low v h; passes = lt-ltb 0 (depth v) h }, λ h. ltb-true 0 (depth v) h.passes)
  where
    low : (v : ℕ) → 0 < depth v → v < 4
    low zero h = omega arith
    low (suc zero) h = omega arith
    low (suc (suc zero)) h = omega arith
    low (suc (suc (suc zero))) h = omega arith
    low (suc (suc (suc (suc n)))) h = absurd (omega arith)

class-rounds : Rounds non_root 4 Joins spread
class-rounds = record { start = λ v h. refl; own = own; near = near; attained = attained }
  where
    own : (k v : ℕ) → Picked non_root 4 v → spread (suc k) v ≤ spread k v
    own zero zero h = omega arith
    own zero (suc zero) h = omega arith
    own zero (suc (suc zero)) h = omega arith
    own zero (suc (suc (suc n))) h = omega arith
    own (suc k) v h = omega arith

    crossed : (v w : ℕ) → Aux Tail parent depth v w → (class v ≤ w) × (class w ≤ v)
    crossed v w (across o a b) = off-tree (λ x y. (class x ≤ y) × (class y ≤ x)) (omega arith) (omega arith) v w o
    crossed v w (along h e k x y o a b) = absurd (no_climb v w x y h e k o a)

    near : (k v w : ℕ) → Picked non_root 4 v → Picked non_root 4 w → Joins v w → spread (suc k) v ≤ spread k w
    near zero v w hv hw (inl a) = (crossed v w a).0
    near zero v w hv hw (inr a) = (crossed w v a).1
    near (suc k) v w hv hw (inl a) = omega (arith, classes.along-aux v w a)
    near (suc k) v w hv hw (inr a) = omega (arith, classes.along-aux w v a)

    attained : (k v : ℕ) → Picked non_root 4 v
        → (spread (suc k) v ≡ spread k v)
        ⊎ ((w : ℕ) × Picked non_root 4 w × Joins v w × (spread (suc k) v ≡ spread k w))
    attained zero zero h = inl refl
    attained zero (suc zero) h = inl refl
    attained zero (suc (suc zero)) h = inr (1, (in_range_lem 1).0 (omega arith), inr aux_12, refl)
    attained zero (suc (suc (suc zero))) h = inl refl
    attained zero (suc (suc (suc (suc n)))) h = let b = h.below in absurd (omega arith)
    attained (suc k) v h = inl refl

spread-classes : Classes Tail parent depth class
spread-classes =
    classes-by_rounds graph forest in_range_lem (λ v w a. (inl a, inr a)) (λ v w hv hw j. j) class-rounds 1
    (λ v h. refl)

-- class 1 touches 0, 1, 2 and has the tree links of 1 and 2
touched : count 4 (λ x. ltb x 3) ≡ suc (count 4 (λ x. non_root x && eqb (class x) 1))
touched = touched-count graph forest classes 4 1 1 (λ x. ltb x 3) (λ x. non_root x && eqb (class x) 1)
    (omega arith, refl) low touches names
  where
    low : (u v : ℕ) → Tail u v → u < 4
    low = links (λ u v. u < 4) (omega arith) (omega arith) (omega arith) (omega arith) (omega arith) (omega arith)
        (omega arith) (omega arith)

    touches : (x : ℕ) → x < 4 → (ltb x 3 ≡ true) ↔ Touches Tail parent depth class 1 x
    touches zero h = (λ e. (1, class_01), λ t. refl)
    touches (suc zero) h = (λ e. (2, class_12), λ t. refl)
    touches (suc (suc zero)) h = (λ e. (0, class_20), λ t. refl)
    touches (suc (suc (suc zero))) h = (λ e. absurd (true≢false (sym e)), λ t. absurd (apart t.0 t.1))
      where
        parents : (y : ℕ) → parent y ≢ 3
        parents zero = omega arith
        parents (suc zero) = omega arith
        parents (suc (suc zero)) = omega arith
        parents (suc (suc (suc n))) = omega arith

        apart : (y : ℕ) → ClassOf Tail parent depth class 3 y 1 → ⊥
        apart y (lower i e f) = omega arith
        apart y (upper i e f) = parents y e
        apart y (first o n f) = omega arith
        apart y (second o n f) = off-tree (λ i j. i ≢ 3) (omega arith) (omega arith) 3 y o refl
    touches (suc (suc (suc (suc n)))) h = absurd (omega arith)

    names : (x : ℕ) → x < 4 → (non_root x && eqb (class x) 1 ≡ true) ↔ Names depth class 1 x
    names zero h = (λ e. absurd (true≢false (sym e)), λ k. absurd (omega arith))
    names (suc zero) h = (λ e. (omega arith, refl), λ k. refl)
    names (suc (suc zero)) h = (λ e. (omega arith, refl), λ k. refl)
    names (suc (suc (suc zero))) h = (λ e. absurd (true≢false (sym e)), λ k. absurd (omega arith))
    names (suc (suc (suc (suc n)))) h = absurd (omega arith)
