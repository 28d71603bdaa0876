-- Laws on ancestors in a forest, for every number: where the depth is 0 nothing is above.
use Rattle.std.specs.Prelude.{◌≡◌, refl, ◌⊎◌, ◌≢◌, ℕ, zero, suc, ◌≤◌, ◌<◌}
use Rattle.std.proofs.Common.{sym, ap, subst, ◌∙◌, inl, inr, arith}
use Rattle.std.proofs.Math.Decide.{ℕ_discrete, dec_lt}
use Rattle.theory_graph.specs.Forest.{Forest, Anc, self, up, TreeLink, OffTree}

-- an ancestor's ends under other names
pub anc_to : {p d : ℕ → ℕ} {w x y : ℕ} → x ≡ y → Anc p d w x → Anc p d w y
anc_to {p} {d} {w} e a = subst (λ (z : ℕ). Anc p d w z) e a

pub anc_of : {p d : ℕ → ℕ} {v w x : ℕ} → v ≡ w → Anc p d v x → Anc p d w x
anc_of {p} {d} {x = x} e a = subst (λ (z : ℕ). Anc p d z x) e a

pub anc_trans : {p d : ℕ → ℕ} {u w x : ℕ} → Anc p d u w → Anc p d w x → Anc p d u x
anc_trans a (self e) = anc_to e a
anc_trans a (up h b) = up h (anc_trans a b)

module _ {E : ℕ → ℕ → Type 0} {p d root : ℕ → ℕ} (F : Forest E p d root) where
  pub anc_depth : {w x : ℕ} → Anc p d w x → d w ≤ d x
  anc_depth {w} {x} (self e) = rw e (omega arith)
  anc_depth {w} {x} (up h a) = omega (arith, F.deeper x h, anc_depth a)

  -- an ancestor no less deep is the vertex itself
  pub anc_level : {w x : ℕ} → Anc p d w x → d x ≤ d w → w ≡ x
  anc_level {w} {x} (self e) k = e
  anc_level {w} {x} (up h a) k = absurd (omega (arith, F.deeper x h, anc_depth a))

  pub anc_proper : {w x : ℕ} → Anc p d w x → w ≢ x → (0 < d x) × Anc p d w (p x)
  anc_proper (self e) n = absurd (n e)
  anc_proper (up h a) n = (h, a)

  -- an ancestor at most one level up is the vertex itself or its parent
  pub anc_near : {w x : ℕ} → Anc p d w x → w ≢ x → d x ≤ suc (d w) → (0 < d x) × (p x ≡ w)
  anc_near {w} {x} a n k =
      let (h, b) = anc_proper a n in
      (h, sym (anc_level b (omega (arith, F.deeper x h))))

  -- of two ancestors of one vertex the less deep is an ancestor of the other
  pub anc_order : {u w x : ℕ} → Anc p d u x → Anc p d w x → d u ≤ d w → Anc p d u w
  anc_order {u} {w} {x} (self e) b k = self (sym (anc_level (anc_to (sym e) b) k))
  anc_order {u} {w} {x} (up h a) (self e) k = anc_to (sym e) (up h a)
  anc_order {u} {w} {x} (up h a) (up g b) k = anc_order a b k

  pub anc? : (w x : ℕ) → Dec (Anc p d w x)
  anc? w x = go (d x) x refl
    where
      here : (y : ℕ) → Dec (w ≡ y) → Dec ((0 < d y) × Anc p d w (p y)) → Dec (Anc p d w y)
      here y (yes e) t = yes (self e)
      here y (no e) (yes t) = yes (up t.0 t.1)
      here y (no e) (no t) = no (λ a. t (anc_proper a e))

      go : (k y : ℕ) → d y ≡ k → Dec (Anc p d w y)
      go zero y e = here y (ℕ_discrete w y) (no (λ t. let h : 0 < d y = t.0 in omega arith))
      go (suc k) y e = here y (ℕ_discrete w y) (next (go k (p y) (omega (arith, F.deeper y (omega arith)))))
        where
          next : Dec (Anc p d w (p y)) → Dec ((0 < d y) × Anc p d w (p y))
          next (yes a) = yes (omega arith, a)
          next (no a) = no (λ t. a t.1)

  -- the child of b above x, where x is properly below b
  pub anc_child : {b x : ℕ} → Anc p d b x → b ≢ x → (c : ℕ) × (0 < d c) × (p c ≡ b) × Anc p d c x
  anc_child (self e) n = absurd (n e)
  anc_child {b} {x} (up h a) n = go (ℕ_discrete b (p x)) (anc_child a)
    where
      go : Dec (b ≡ p x) → (b ≢ p x → (c : ℕ) × (0 < d c) × (p c ≡ b) × Anc p d c (p x)) →
          (c : ℕ) × (0 < d c) × (p c ≡ b) × Anc p d c x
      go (yes e) f = (x, h, sym e, self refl)
      go (no e) f = let r = f e in (r.0, r.1, r.2, up h r.3)

  pub root-up : (v : ℕ) → 0 < d v → root (p v) ≡ root v
  root-up v h = sym (F.spans v (p v) (F.link v h))

  pub root-along : {w x : ℕ} → Anc p d w x → root w ≡ root x
  root-along (self e) = ap root e
  root-along {w} {x} (up h a) = root-along a ∙ root-up x h

  pub root_anc : (x : ℕ) → Anc p d (root x) x × (d (root x) ≡ 0)
  root_anc x = go (d x) x refl
    where
      go : (k y : ℕ) → d y ≡ k → Anc p d (root y) y × (d (root y) ≡ 0)
      go zero y e = (self (F.top y e), rw (F.top y e) e)
      go (suc k) y e =
          let h : 0 < d y = omega arith in
          let r = go k (p y) (omega (arith, F.deeper y h)) in
          (up h (anc_of (root-up y h) r.0), rw (root-up y h) at r.1)

  -- a vertex of depth 0 is an ancestor of all that it is linked to
  pub top_anc : {u v : ℕ} → root u ≡ root v → d u ≡ 0 → Anc p d u v
  top_anc {u} {v} e z = anc_of (sym e ∙ F.top u z) (root_anc v).0

  pub tree? : (u v : ℕ) → Dec (TreeLink p d u v)
  tree? u v = go (dec_lt 0 (d u)) (ℕ_discrete (p u) v) (dec_lt 0 (d v)) (ℕ_discrete (p v) u)
    where
      right : Dec (0 < d v) → Dec (p v ≡ u) → (((0 < d u) × (p u ≡ v)) → ⊥) → Dec (TreeLink p d u v)
      right (yes c) (yes e) n = yes (inr (c, e))
      right (yes c) (no e) n = no (elim [ inl h ↦ n h | inr h ↦ e h.1 ])
      right (no c) e n = no (elim [ inl h ↦ n h | inr h ↦ c h.0 ])

      go : Dec (0 < d u) → Dec (p u ≡ v) → Dec (0 < d v) → Dec (p v ≡ u) → Dec (TreeLink p d u v)
      go (yes a) (yes b) c e = yes (inl (a, b))
      go (yes a) (no b) c e = right c e (λ h. b h.1)
      go (no a) b c e = right c e (λ h. a h.0)

  -- ends of a tree link: one is an ancestor of the other
  pub tree_anc : (u v : ℕ) → TreeLink p d u v → Anc p d u v ⊎ Anc p d v u
  tree_anc u v (inl h) = inr (up h.0 (self (sym h.1)))
  tree_anc u v (inr h) = inl (up h.0 (self (sym h.1)))

  -- a link that leads from below u to outside the parent's descendants is off the tree
  pub leaves-off : (u x y : ℕ) → 0 < d u → E x y → Anc p d u y → (Anc p d (p u) x → ⊥) → OffTree E p d x y
  leaves-off u x y h e a n = record { link = e; off = go }
    where
      above : Anc p d (p u) u
      above = up h (self refl)

      go : TreeLink p d x y → ⊥
      go (inl k) = n (anc_trans above (up k.0 (anc_to (sym k.1) a)))
      go (inr k) = by (ℕ_discrete u y)
        where
          by : Dec (u ≡ y) → ⊥
          by (yes f) = n (self (ap p f ∙ k.1))
          by (no f) = n (anc_trans above (anc_to k.1 (anc_proper a f).1))
