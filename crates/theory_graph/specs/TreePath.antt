-- The path in the tree between two vertices, and the ring that a link off the tree makes with it.
use Rattle.std.specs.Prelude.{◌≡◌, refl, ◌⊎◌, ◌≢◌, Bool, true, false, cond, List, [], ◌∷◌, ◌++◌, ℕ, zero, suc, ◌+◌, ◌≤◌}
use Rattle.std.specs.Prelude.{◌<◌, eqb, leb, length}
use Rattle.std.proofs.Common.{sym, ap, subst, ◌∙◌, inl, inr, arith, eqb-true, leb-true, leb-false}
use Rattle.std.proofs.Math.Decide.{ℕ_discrete}
use Rattle.std.proofs.lemmas.Bool.{eqb-false}
use Rattle.base_lists.specs.Members.{Mem, Distinct, mem_cases, distinct_join}
use Rattle.theory_graph.specs.Rings.{Graph, last, Walk, Step, Ring, Holds}
use Rattle.theory_graph.specs.Walks.{last-append, walk_join, step_left, step_right, step-cases}
use Rattle.theory_graph.specs.Forest.{Forest, Anc, self, up, TreeLink, OffTree}
use Rattle.theory_graph.specs.Ancestors.{anc_to, anc_depth, anc_level, anc_proper, root-up}

-- from x to y up and down the tree, without x: step up from the deeper end. The first number bounds the steps.
abbrev tree_path : (ℕ → ℕ) → (ℕ → ℕ) → ℕ → ℕ → ℕ → List ℕ
tree_path p d zero x y = []
tree_path p d (suc k) x y =
    let rise = p x ∷ tree_path p d k (p x) y in
    let fall = tree_path p d k x (p y) ++ y ∷ [] in
    cond (eqb x y) [] (cond (leb (d y) (d x)) rise fall)

-- exactly one of x and y is below w
abbrev Parts : (ℕ → ℕ) → (ℕ → ℕ) → ℕ → ℕ → ℕ → Type 0
Parts p d w x y = (Anc p d w x × (Anc p d w y → ⊥)) ⊎ ((Anc p d w x → ⊥) × Anc p d w y)

-- the chain from x through l passes the link (u, v), in either direction
abbrev Passes : ℕ → List ℕ → ℕ → ℕ → Type 0
Passes x l u v = Step x l u v ⊎ Step x l v u

record TreePath (E : ℕ → ℕ → Type 0) (p d : ℕ → ℕ) (x y : ℕ) (l : List ℕ) : Type 0 where
  pub way : Walk E x l
  pub end : last x l ≡ y
  pub different : Distinct (x ∷ l)
  pub tree : (u v : ℕ) → Step x l u v → TreeLink p d u v
  pub above : (z : ℕ) → Mem z (x ∷ l) → Anc p d z x ⊎ Anc p d z y
  pub crosses : (w : ℕ) → 0 < d w → Parts p d w x y → Passes x l w (p w)

module _ {E : ℕ → ℕ → Type 0} {p d root : ℕ → ℕ} (G : Graph E) (F : Forest E p d root) where
  trivial : (x y : ℕ) → x ≡ y → TreePath E p d x y []
  trivial x y e =
      record {
        way = tt;
        end = e;
        different = (λ m. m, tt);
        tree = λ u v h. absurd h;
        above = above;
        crosses = crosses;
      }
    where
      above : (z : ℕ) → Mem z (x ∷ []) → Anc p d z x ⊎ Anc p d z y
      above z (inl h) = inl (self h)
      above z (inr h) = absurd h

      crosses : (w : ℕ) → 0 < d w → Parts p d w x y → Passes x [] w (p w)
      crosses w h (inl k) = absurd (k.1 (anc_to e k.0))
      crosses w h (inr k) = absurd (k.0 (anc_to (sym e) k.1))

  prepend : (x y : ℕ) (l : List ℕ) → 0 < d x → d y ≤ d x → x ≢ y → TreePath E p d (p x) y l →
      TreePath E p d x y (p x ∷ l)
  prepend x y l h k n T =
      record {
        way = (F.link x h, T.way);
        end = T.end;
        different = (λ m. fresh (T.above x m), T.different);
        tree = tree;
        above = above;
        crosses = λ w g s. crosses w s (ℕ_discrete w x) (T.crosses w g);
      }
    where
      fresh : Anc p d x (p x) ⊎ Anc p d x y → ⊥
      fresh (inl a) = omega (arith, anc_depth F a, F.deeper x h)
      fresh (inr a) = n (anc_level F a k)

      tree : (u v : ℕ) → Step x (p x ∷ l) u v → TreeLink p d u v
      tree u v (inl s) = inl (rw s.0 h, ap p s.0 ∙ sym s.1)
      tree u v (inr s) = T.tree u v s

      lift : (z : ℕ) → Anc p d z (p x) ⊎ Anc p d z y → Anc p d z x ⊎ Anc p d z y
      lift z (inl a) = inl (up h a)
      lift z (inr a) = inr a

      above : (z : ℕ) → Mem z (x ∷ (p x ∷ l)) → Anc p d z x ⊎ Anc p d z y
      above z (inl e) = inl (self e)
      above z (inr m) = lift z (T.above z m)

      parts : (w : ℕ) → w ≢ x → Parts p d w x y → Parts p d w (p x) y
      parts w e (inl s) = inl ((anc_proper F s.0 e).1, s.1)
      parts w e (inr s) = inr (λ a. s.0 (up h a), s.1)

      later : (w : ℕ) → Passes (p x) l w (p w) → Passes x (p x ∷ l) w (p w)
      later w (inl s) = inl (inr s)
      later w (inr s) = inr (inr s)

      crosses : (w : ℕ) → Parts p d w x y → Dec (w ≡ x) → (Parts p d w (p x) y → Passes (p x) l w (p w)) →
          Passes x (p x ∷ l) w (p w)
      crosses w s (yes e) f = inl (inl (e, ap p e))
      crosses w s (no e) f = later w (f (parts w e s))

  extend : (x y : ℕ) (l : List ℕ) → 0 < d y → d x < d y → TreePath E p d x (p y) l → TreePath E p d x y (l ++ y ∷ [])
  extend x y l h k T =
      record {
        way = walk_join E x l (y ∷ []) T.way (rw T.end (G.flip y (p y) (F.link y h), tt));
        end = last-append x l (y ∷ []);
        different = distinct_join (x ∷ l) (y ∷ []) T.different (λ m. m, tt) apart;
        tree = λ u v s. tree u v (step-cases x l (y ∷ []) u v s);
        above = λ z m. above z (mem_cases z (x ∷ l) (y ∷ []) m);
        crosses = λ w g s. crosses w s (ℕ_discrete w y) (T.crosses w g);
      }
    where
      fresh : Anc p d y x ⊎ Anc p d y (p y) → ⊥
      fresh (inl a) = omega (arith, anc_depth F a)
      fresh (inr a) = omega (arith, anc_depth F a, F.deeper y h)

      apart : (z : ℕ) → Mem z (x ∷ l) → Mem z (y ∷ []) → ⊥
      apart z m (inl e) = fresh (T.above y (subst (λ (s : ℕ). Mem s (x ∷ l)) e m))
      apart z m (inr e) = e

      tree : (u v : ℕ) → Step x l u v ⊎ Step (last x l) (y ∷ []) u v → TreeLink p d u v
      tree u v (inl s) = T.tree u v s
      tree u v (inr (inl s)) = inr (rw s.1 h, ap p s.1 ∙ (sym T.end ∙ sym s.0))
      tree u v (inr (inr s)) = absurd s

      lift : (z : ℕ) → Anc p d z x ⊎ Anc p d z (p y) → Anc p d z x ⊎ Anc p d z y
      lift z (inl a) = inl a
      lift z (inr a) = inr (up h a)

      above : (z : ℕ) → Mem z (x ∷ l) ⊎ Mem z (y ∷ []) → Anc p d z x ⊎ Anc p d z y
      above z (inl m) = lift z (T.above z m)
      above z (inr (inl e)) = inr (self e)
      above z (inr (inr m)) = absurd m

      parts : (w : ℕ) → w ≢ y → Parts p d w x y → Parts p d w x (p y)
      parts w e (inl s) = inl (s.0, λ a. s.1 (up h a))
      parts w e (inr s) = inr (s.0, (anc_proper F s.1 e).1)

      earlier : (w : ℕ) → Passes x l w (p w) → Passes x (l ++ y ∷ []) w (p w)
      earlier w (inl s) = inl (step_left x l (y ∷ []) w (p w) s)
      earlier w (inr s) = inr (step_left x l (y ∷ []) (p w) w s)

      crosses : (w : ℕ) → Parts p d w x y → Dec (w ≡ y) → (Parts p d w x (p y) → Passes x l w (p w)) →
          Passes x (l ++ y ∷ []) w (p w)
      crosses w s (yes e) f = inr (step_right x l (y ∷ []) (p w) w (inl (ap p e ∙ sym T.end, e)))
      crosses w s (no e) f = earlier w (f (parts w e s))

  top-same : (x y : ℕ) → root x ≡ root y → d x ≡ 0 → d y ≡ 0 → x ≡ y
  top-same x y r a b = sym (F.top x a) ∙ (r ∙ F.top y b)

  tree_path-is : (k x y : ℕ) → d x + d y ≤ k → root x ≡ root y → TreePath E p d x y (tree_path p d k x y)
  tree_path-is zero x y h r = trivial x y (top-same x y r (omega arith) (omega arith))
  tree_path-is (suc k) x y h r = go (eqb x y) (leb (d y) (d x)) refl refl (tree_path-is k)
    where
      go : (a b : Bool) → eqb x y ≡ a → leb (d y) (d x) ≡ b
          → ((v w : ℕ) → d v + d w ≤ k → root v ≡ root w → TreePath E p d v w (tree_path p d k v w))
          → TreePath E p d x y (cond a [] (cond b (p x ∷ tree_path p d k (p x) y) (tree_path p d k x (p y) ++ y ∷ [])))
      go true b e f ih = trivial x y (eqb-true x y e)
      go false true e f ih =
          let n : x ≢ y = eqb-false x y e in
          let c = leb-true (d y) (d x) f in
          let g : 0 < d x = positive (d x) refl c n in
          prepend x y (tree_path p d k (p x) y) g c n (ih (p x) y (omega (arith, F.deeper x g)) (root-up F x g ∙ r))
        where
          positive : (i : ℕ) → d x ≡ i → d y ≤ d x → x ≢ y → 0 < d x
          positive zero z c n = absurd (n (top-same x y r z (omega arith)))
          positive (suc i) z c n = omega arith
      go false false e f ih =
          let c = leb-false (d y) (d x) f in
          let g : 0 < d y = omega arith in
          extend x y (tree_path p d k x (p y)) g c (ih x (p y) (omega (arith, F.deeper y g)) (r ∙ sym (root-up F y g)))

-- the ring of a link off the tree: the path between its ends, closed by the link
abbrev pub fundamental : (ℕ → ℕ) → (ℕ → ℕ) → ℕ → ℕ → List ℕ
fundamental p d x y = x ∷ tree_path p d (d x + d y) x y

module _ {E : ℕ → ℕ → Type 0} {p d root : ℕ →
    ℕ} (G : Graph E) (F : Forest E p d root) {x y : ℕ} (o : OffTree E p d x y) where
  path : TreePath E p d x y (tree_path p d (d x + d y) x y)
  path = tree_path-is G F (d x + d y) x y (omega arith) (F.spans x y o.link)

  pub fundamental-ring : Ring E (fundamental p d x y)
  fundamental-ring =
      record {
        three = long (tree_path p d (d x + d y) x y) path;
        different = path.different;
        linked = path.way;
        closed = rw path.end (G.flip x y o.link);
      }
    where
      long : (l : List ℕ) → TreePath E p d x y l → 3 ≤ length (x ∷ l)
      long [] T = absurd (G.loopless y (rw T.end at o.link))
      long (z ∷ []) T = absurd (o.off (T.tree x y (inl (refl, sym T.end))))
      long (z ∷ (w ∷ l)) T = omega arith

  pub fundamental-link : Holds (fundamental p d x y) x y
  fundamental-link = inr (inr (sym path.end, refl))

  -- it holds each tree link above exactly one of the two ends
  pub fundamental-tree : (w : ℕ) → 0 < d w → Parts p d w x y → Holds (fundamental p d x y) w (p w)
  fundamental-tree w h s = go (path.crosses w h s)
    where
      go : Passes x (tree_path p d (d x + d y) x y) w (p w) → Holds (fundamental p d x y) w (p w)
      go (inl k) = inl (inl k)
      go (inr k) = inr (inl k)
